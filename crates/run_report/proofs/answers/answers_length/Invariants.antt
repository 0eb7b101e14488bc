-- `answers_length`: the sum of the lines so far, and what is left.
use Rattle.run_report.proofs.AnswerLines.{Measured}
use Rattle.run_report.proofs.answers.answers_length.Given as goal

abbrev pub invariant-loop-i : goal.invariant-loop-i
invariant-loop-i l = Measured l.answer-items l.i l.n
