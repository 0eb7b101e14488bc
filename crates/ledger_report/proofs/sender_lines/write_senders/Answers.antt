-- `write_senders`: the lines of the senders so far are stored.
use Rattle.std.proofs.Common.{arith}
use Rattle.ledger_report.proofs.SenderLines.{listed_none, listed_room, listed_more, listed_all}
use Rattle.ledger_report.proofs.sender_lines.write_senders.Goals as goal

pub loop-s-init : goal.loop-s-init
loop-s-init c = search listed_none

pub write_sender-requires : goal.write_sender-requires
write_sender-requires c = search listed_room

pub loop-s-preserved : goal.loop-s-preserved
loop-s-preserved c = search listed_more

pub returns : goal.returns
returns c = search listed_all

pub returns-2 : goal.returns-2
returns-2 c =
    let more = listed_more _ _ _ _ _ c.loop-s.invariant c.loop-s.auto.s c.loop-s-test.true _ c.row_of.ensures _ c.write_sender.ensures in
    listed_all _ _ _ _ _ more _ c.benches_of-s-end.ensures.0 (omega arith)
