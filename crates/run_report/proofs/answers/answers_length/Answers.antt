-- `answers_length`: the sum of the lines so far, and what is left.
use native.Mathlib.Omega.{arith}
use Rattle.run_report.proofs.AnswerLines.{measured_more, measured_all}
use Rattle.reports.proofs.RunLines.{line_short}
use Rattle.run_report.proofs.answers.answers_length.Goals as goal

pub overflow_add-n : goal.overflow_add-n
overflow_add-n c = omega (arith, line_short _ _ _ c.answer_length-n.ensures)

pub loop-i-preserved : goal.loop-i-preserved
loop-i-preserved c = search measured_more

pub returns : goal.returns
returns c = rw (← c.as_slice-answer-items.ensures.value) (measured_all _ _ _ c.loop-i.invariant c.loop-i-test.false)
