-- `write_senders`: the lines of the senders so far are stored.
use Rattle.ledger.specs.Seen.{rows_by}
use Rattle.ledger_report.proofs.SenderLines.{Listed}
use Rattle.ledger_report.proofs.sender_lines.write_senders.Given as goal

abbrev pub invariant-loop-s : goal.invariant-loop-s
invariant-loop-s l = Listed l.s-end l.initial.out (rows_by l.ledger) l.out l.s
