-- `room_for`: no line is longer than 34 bytes; where that is not enough to tell, the lines are measured.
use native.Mathlib.Omega.{arith}
use borrow.Author.Tests.{le-leb}
use Rattle.run_report.proofs.AnswerLines.{lines_fit}
use Rattle.reports.proofs.RunLines.{lines_short}
use Rattle.run_report.proofs.answers.room_for.Goals as goal

pub returns-then-len-n : goal.returns-then-len-n
returns-then-len-n c = rw (le-leb _ _ c.if-len-n.true) (lines_fit _ _ _ (rw c.len.ensures.value at c.if-len-n.true))

pub overflow_add-result : goal.overflow_add-result
overflow_add-result c = omega (arith, c.answers_length.ensures, lines_short c.args.answers.now.items 1)
