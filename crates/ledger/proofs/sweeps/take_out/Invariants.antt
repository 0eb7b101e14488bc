-- `ledger::sweeps::take_out` meets its contract: of the sweeps passed those that stay are at the front. Assumes nothing.
use Prim.Native.Nat.{◌≤◌}
use mathlib.Core.Path.{◌≡◌}
use mathlib.Core.List.{[]}
use Rattle.book.specs.Book.{only}
use Rattle.ledger.specs.Seen.{held_in}
use Rattle.ledger.specs.Sweeps.{Gone, Tests}
use Rattle.ledger.proofs.Compacting.{Compacting}
use Rattle.ledger.proofs.sweeps.take_out.Given as goal

abbrev pub invariant-loop-i : goal.invariant-loop-i
invariant-loop-i g l =
    (l.k ≤ l.i) × ((p : Gone) → Tests (goal.F-post g l.goes) p → only p (held_in l.from l.initial.room) ≡ [] → Compacting p l.initial.room l.i l.room l.k)
