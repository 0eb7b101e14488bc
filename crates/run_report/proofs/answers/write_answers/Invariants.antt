-- `write_answers`: of all lines, those from here on are still to be written.
use Rattle.run_report.proofs.AnswerLines.{Writing}
use Rattle.run_report.proofs.answers.write_answers.Given as goal

abbrev pub invariant-loop-i : goal.invariant-loop-i
invariant-loop-i l = Writing l.initial.out l.answer-items l.out l.i
