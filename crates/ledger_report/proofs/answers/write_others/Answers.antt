-- `write_others`: the tags from here on are still to be stored.
use Rattle.ledger_report.proofs.AnswerLine.{others_next, others_all}
use Rattle.ledger_report.proofs.answers.write_others.Goals as goal

pub loop-tag-preserved : goal.loop-tag-preserved
loop-tag-preserved c = search others_next

pub returns : goal.returns
returns c = search others_all
