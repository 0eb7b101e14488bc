-- `write_sender`: by the row, as the definition goes.
use Rattle.ledger_report.proofs.SenderLines.{unknown_written, joined_room, joined_written, ended_room, ended_written}
use Rattle.ledger_report.proofs.sender_lines.write_sender.Goals as goal

pub write_slots-requires : goal.write_slots-requires
write_slots-requires c = search joined_room

pub write_slots-requires-in-Ended : goal.write_slots-requires-in-Ended
write_slots-requires-in-Ended c = search ended_room

pub returns-in-Unknown : goal.returns-in-Unknown
returns-in-Unknown c = search unknown_written

pub returns-in-Joined : goal.returns-in-Joined
returns-in-Joined c = search joined_written

pub returns-in-Ended : goal.returns-in-Ended
returns-in-Ended c = search ended_written
