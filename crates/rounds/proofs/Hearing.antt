-- One more sender of what is heard. Assumes nothing.
use mathlib.Core.Path.{◌≡◌, refl, ap, ◌∙◌}
use mathlib.Core.Bool.{true, false}
use mathlib.Core.List.{List}
use Prim.Native.Nat.{ℕ, ◌+◌, ◌-◌, ◌<◌, ◌≤◌}
use native.Mathlib.Numerals.{add-one}
use lib.ListN.{get_or}
use borrow.Author.Tests.{le-leb, lt-leb}
use Rattle.bench.specs.declared.Bench.{Bench}
use Rattle.bench.specs.declared.Entry.{Entry}
use Rattle.bench.specs.declared.Heard.{Heard}
use Rattle.tables.specs.Lines.{hears, with_message, heard_to}

-- one more sender
module _ (l : List (List Entry)) (b : Bench) (r : ℕ) (is_r : r ≡ b.round.0) where
  module _ (h : Heard) (j n : ℕ) (so_far : h ≡ heard_to l b j) (is_n : n ≡ get_or b.taken j 0) where
    pub heard_more : r ≤ n → with_message l (r - 1) j h ≡ heard_to l b (j + 1)
    unfolding heard_to
    heard_more a =
        let e : hears b j ≡ true = le-leb b.round.0 (get_or b.taken j 0) (rw (← is_r, ← is_n) a) in
        ap (λ (q : ℕ). with_message l (q - 1) j h) is_r ∙ ap (with_message l (b.round.0 - 1) j) so_far ∙ rw add-one (rw e refl)

    pub heard_same : n < r → h ≡ heard_to l b (j + 1)
    unfolding heard_to
    heard_same a =
        let e : hears b j ≡ false = lt-leb b.round.0 (get_or b.taken j 0) (rw (← is_r, ← is_n) a) in
        so_far ∙ rw add-one (rw e refl)
