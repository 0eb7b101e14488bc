-- How all that stands behind the answers' lines is written. Assumes nothing.
use Prim.Native.Nat.{ℕ}
use mathlib.Core.List.{◌++◌}
use lib.ListN.{length}
use Rattle.kinds.specs.declared.Size.{Size}
use Rattle.kinds.specs.Sizes.{benches_of}
use Rattle.book.specs.Book.{Book}
use Rattle.spelling.specs.Answers.{totals}
use Rattle.room.specs.declared.writer.Writer.{Writer}
use Rattle.room.specs.Writes.{Writes, Puts, Holds}
use Rattle.room.proofs.Writers.{holds_front, holds_behind, writes_then, put_last}
use Rattle.reports.specs.LedgerReport.{sender_lines, cursor_line, last_lines}

module _ (size : Size) (b : Book) (n r : ℕ) (out : Writer) (h : Holds out (last_lines size b n r)) where
  pub senders_room : Holds out (sender_lines (benches_of size) b.rows)
  unfolding last_lines
  senders_room = holds_front out (sender_lines (benches_of size) b.rows) (cursor_line b.next (length b.held) ++ totals n r) h

  module _ {out₁ : Writer} (p : Writes out (sender_lines (benches_of size) b.rows) out₁) where
    both_room : Holds out₁ (cursor_line b.next (length b.held) ++ totals n r)
    unfolding last_lines
    both_room = holds_behind p (cursor_line b.next (length b.held) ++ totals n r) h

    pub cursor_room : Holds out₁ (cursor_line b.next (length b.held))
    cursor_room = holds_front out₁ (cursor_line b.next (length b.held)) (totals n r) both_room

    pub end_written : {out₂ out₃ : Writer} → Writes out₁ (cursor_line b.next (length b.held)) out₂ → Puts out₂ (totals n r) out₃ → Writes out (last_lines size b n r) out₃
    unfolding last_lines
    end_written q s = writes_then p (writes_then q (put_last (totals n r) s (holds_behind q (totals n r) both_room)))
