-- `write_cursor`: two fields and byte 10 put one after another.
use Rattle.reports.specs.LedgerReport.{cursor_line}
use Rattle.room.proofs.Writers.{put_then, put_last}
use Rattle.ledger_report.proofs.ending.write_cursor.Goals as goal

pub returns : goal.returns
unfolding cursor_line
returns c = put_then _ _ c.put_field.ensures (put_then _ _ c.put_field-2.ensures (put_last _ c.put_bytes.ensures)) c.requires
