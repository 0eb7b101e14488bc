-- The row that a kept one stands for, what is kept of a row, and the rows of a table. This file is to be believed.
use Rattle.std.specs.Prelude.{ℕ, zero, suc, Option, Some, None, cond, ◌&&◌, List, length, get_or, ltb}
use Rattle.common.specs.Places.{has}
use Rattle.kinds.specs.declared.SlotNo.{SlotNo}
use Rattle.book.specs.Book.{Row, unknown, joined, ended}
use Rattle.senders.specs.declared.SenderRow.{SenderRow}
use Rattle.senders.specs.Slots.{slot_in}

-- with what is known of its end
abbrev pub row_until : Option SlotNo → ℕ → ℕ → Row
row_until None f o = joined f o
row_until (Some e) f o = ended f o e.0

-- of a sender that has joined
unfoldable pub row_in : SenderRow → Row
row_in w = row_until w.end w.first.0 (slot_in w.«open».0)

abbrev pub slot_no : ℕ → SlotNo
slot_no k = record { 0 = k }

abbrev pub blank : SenderRow
blank = record { first = slot_no 0; «open» = slot_no 0; end = None }

unfoldable pub kept_of : Row → SenderRow
kept_of unknown = blank
kept_of (joined f o) = record { first = slot_no f; «open» = slot_no o; end = None }
kept_of (ended f o e) = record { first = slot_no f; «open» = slot_no o; end = Some (slot_no (slot_in e)) }

-- row i is sender i + 1, if that is in the set of those that have joined; places that the table does not have mean nothing in the set
unfoldable pub rows_of : ℕ → List SenderRow → ℕ → Row
rows_of set rows zero = unknown
rows_of set rows (suc i) = cond (ltb i (length rows) && has set i) (row_in (get_or rows i blank)) unknown
