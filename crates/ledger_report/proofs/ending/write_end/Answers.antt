-- `write_end`: the senders' lines, the cursor's and the totals, one after another.
use Rattle.ledger.specs.Seen.{book_of}
use Rattle.ledger_report.proofs.LastLines.{senders_room, cursor_room, end_written}
use Rattle.ledger_report.proofs.ending.write_end.Goals as goal

pub write_senders-requires : goal.write_senders-requires
unfolding book_of
write_senders-requires c = senders_room _ _ _ _ c.args.out.now c.requires.lines_in_bounds

pub write_cursor-requires : goal.write_cursor-requires
unfolding book_of
write_cursor-requires c = rw c.requires.held_value (cursor_room _ _ _ _ _ c.requires.lines_in_bounds c.write_senders.ensures)

pub returns : goal.returns
unfolding book_of
returns c = end_written _ _ _ _ _ c.requires.lines_in_bounds c.write_senders.ensures (rw c.requires.held_value at c.write_cursor.ensures) c.put_totals.ensures
