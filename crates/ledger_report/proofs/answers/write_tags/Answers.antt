-- `write_tags`: the count, and the tags where there are any.
use Rattle.ledger_report.proofs.AnswerLine.{handed_none, others_room, handed_some}
use Rattle.ledger_report.proofs.answers.write_tags.Goals as goal

pub returns-in_default : goal.returns-in_default
returns-in_default c = handed_none _ c.put_field.ensures c.requires.1 c.in_default.ensures.cases

pub write_others-requires : goal.write_others-requires
write_others-requires c = others_room _ c.put_field.ensures c.requires.1 _ _ c.in-Some.ensures.cases.0 c.put_field-in-Some.ensures

pub returns-in-Some : goal.returns-in-Some
returns-in-Some c = handed_some _ c.put_field.ensures c.requires.1 _ _ c.in-Some.ensures.cases.0 c.put_field-in-Some.ensures c.write_others.ensures
