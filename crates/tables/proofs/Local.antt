-- What a bench has heard of its round depends on the log entries that it has taken and on no other. Assumes nothing.
use Rattle.bench.specs.declared.Entry.{Entry}
use mathlib.Core.Path.{◌≡◌, refl}
use mathlib.Core.List.{List}
use Prim.Native.Nat.{ℕ, zero, suc, ◌-◌, ◌≤◌, ◌<◌}
use native.Mathlib.Omega.{arith}
use lib.Dec.{ltb}
use lib.ListN.{get_or}
use borrow.Author.Tests.{leb-true, ltb-false}
use Rattle.common.proofs.Tests.{split}
use Rattle.bench.specs.declared.Bench.{Bench}
use Rattle.tables.specs.Rows.{logs}
use Rattle.tables.specs.Lines.{hears, with_message, heard_to, heard_of}
use Rattle.tables.specs.Local.{KeepsRounds}

module _ (N : ℕ) (b : Bench) (l l' : List (List Entry)) (same : (j : ℕ) → j < N → KeepsRounds (logs l j) (logs l' j) (get_or b.taken j 0)) where
  heard_to_local : 1 ≤ b.round.0 → (n : ℕ) → n ≤ N → heard_to l' b n ≡ heard_to l b n
  unfolding heard_to with_message
  heard_to_local r zero h = refl
  heard_to_local r (suc j) h = let p = heard_to_local r j (omega arith) in split (hears b j)
      (λ e. let q = same j h (b.round.0 - 1) (omega (arith, leb-true b.round.0 (get_or b.taken j 0) e)) in rw (e, p, q) refl)
      (λ e. rw (e, p) refl)

  pub heard_local : heard_of N l' b ≡ heard_of N l b
  unfolding heard_of
  heard_local = split (ltb b.round.0 1)
      (λ e. rw e refl)
      (λ e. rw (heard_to_local (ltb-false b.round.0 1 e) N (omega arith)) refl)
