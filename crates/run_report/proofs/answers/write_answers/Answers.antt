-- `write_answers`: of all lines, those from here on are still to be written.
use Rattle.run_report.proofs.AnswerLines.{writing_room, writing_more, writing_all}
use Rattle.run_report.proofs.answers.write_answers.Goals as goal

pub write_answer_line-requires : goal.write_answer_line-requires
write_answer_line-requires c = writing_room _ _ _ _ c.loop-i.invariant c.loop-i-test.true (rw c.as_slice-answer-items.ensures.value c.requires)

pub loop-i-preserved : goal.loop-i-preserved
loop-i-preserved c = search writing_more

pub returns : goal.returns
returns c = rw (← c.as_slice-answer-items.ensures.value) (writing_all _ _ _ _ c.loop-i.invariant c.loop-i-test.false)
