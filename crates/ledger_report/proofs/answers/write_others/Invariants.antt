-- `write_others`: the tags from here on are still to be stored.
use Rattle.ledger_report.proofs.AnswerLine.{Others}
use Rattle.ledger_report.proofs.answers.write_others.Given as goal

abbrev pub invariant-loop-tag : goal.invariant-loop-tag
invariant-loop-tag l = Others l.initial.out l.tags l.out l.tag-index
