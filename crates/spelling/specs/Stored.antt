-- What storing bytes does to a room: all else in it is as it was. This file is to be believed.
use Rattle.std.specs.Prelude.{ℕ, ◌+◌, Bool, cond, List, [], ◌≡◌, leb, length}
use Rattle.std.proofs.lemmas.List.Edits.{sets}

-- l' is l with w stored from `at` on, and `next` is the place behind w
pub record Stored (l : List ℕ) (at : ℕ) (w : List ℕ) (next : ℕ) (l' : List ℕ) : Type 0 where
  pub place : next ≡ at + length w
  pub held : l' ≡ sets l at w

-- l has room for w from `at` on
unfoldable pub fits : List ℕ → ℕ → List ℕ → Bool
fits l at w = leb (at + length w) (length l)

-- w, or nothing where there is no room for it
unfoldable pub fitting : List ℕ → ℕ → List ℕ → List ℕ
fitting l at w = cond (fits l at w) w []
