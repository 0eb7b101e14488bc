-- `write_handed`: of a line that wrote no tags nothing is written.
use Rattle.std.proofs.Common.{◌≡◌, rules, Ok, None}
use Rattle.ledger_report.proofs.AnswerLine.{nothing_written}
use Rattle.ledger_report.proofs.answers.write_handed.Goals as goal

pub returns-in-Ok-None : goal.returns-in-Ok-None
returns-in-Ok-None c =
    let none : c.args.answer ≡ Ok None = search rules in
    rw none (nothing_written c.args.out.now _)

pub returns-in-Err : goal.returns-in-Err
returns-in-Err c = rw c.in-Err.is (nothing_written c.args.out.now _)
