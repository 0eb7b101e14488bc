-- What stands at the room's front, and past what is stored. Assumes nothing.
use Prim.Native.Nat.{ℕ, suc, ◌+◌, ◌≤◌}
use native.Mathlib.Omega.{arith}
use mathlib.Core.List.{List, [], ◌∷◌}
use mathlib.Core.Path.{◌≡◌, refl, ◌∙◌}
use lib.ListN.{length, get_or, set, take}
use lib.Seq.{sets, sets-eq, take_at, get_or-set_other}
use Rattle.spelling.specs.Stored.{Stored}

-- what is stored at the front of a room that holds it is the room's front
pub front : {l l' : List ℕ} {next : ℕ} (w : List ℕ) → length w ≤ length l → Stored l 0 w next l' → take next l' ≡ w
front {l} w h p =
    let n : length w ≡ 0 + length w = omega arith in
    rw (p.held, p.place, sets-eq w l 0 (omega arith)) (take_at w _ (0 + length w) n)

-- places past it keep what they held
pub past_sets : (w l : List ℕ) (at i : ℕ) → at + length w ≤ i → get_or (sets l at w) i 0 ≡ get_or l i 0
past_sets [] l at i h = refl
past_sets (b ∷ w) l at i h = past_sets w (set l at b) (suc at) i (omega arith) ∙ get_or-set_other l at i b 0 (λ e. omega arith)
