-- `write_slots`: three fields put one after another.
use Rattle.reports.specs.LedgerReport.{slots_text}
use Rattle.room.proofs.Writers.{put_then, put_last}
use Rattle.ledger_report.proofs.sender_lines.write_slots.Goals as goal

pub returns : goal.returns
unfolding slots_text
returns c = put_then _ _ c.put_field.ensures (put_then _ _ c.put_field-2.ensures (put_last _ c.put_field-3.ensures)) c.requires
