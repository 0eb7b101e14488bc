-- `senders::table::Senders::row_at` meets its contract: by where the place is, past the table, not in the set, or in both.
use native.Mathlib.Omega.{arith}
use mathlib.Core.Path.{sym, ◌∙◌}
use Rattle.senders.specs.Rows.{row_is}
use Rattle.senders.proofs.Seating.{rows_past, rows_out, rows_in}
use Rattle.senders.proofs.table.Senders.row_at.Goals as goal
use Rattle.senders.proofs.table.Senders.row_at.Goals.{else-i-lt-PLACES-via-then-i-lt-PLACES+else-has, else-i-lt-PLACES-via-else-i-lt-PLACES}

pub returns-then-has : goal.returns-then-has
returns-then-has c = c.from.ensures ∙ sym (rows_in _ _ _ (omega arith) (sym c.has.ensures ∙ c.if-has.true))

pub returns-else-i-lt-PLACES : goal.returns-else-i-lt-PLACES
unfolding row_is
returns-else-i-lt-PLACES c = elim c.else-i-lt-PLACES.branch [
  | else-i-lt-PLACES-via-then-i-lt-PLACES+else-has w ↦ sym (rows_out _ _ _ (sym w.has.ensures ∙ w.if-has.false))
  | else-i-lt-PLACES-via-else-i-lt-PLACES w ↦ sym (rows_past _ _ _ (omega arith))
]
