-- `answer_length`: the keys have 14 bytes with the line's end, and the rest are the digits of two numbers.
use native.Mathlib.Omega.{arith}
use Rattle.spelling.proofs.Decimals.{digits_length}
use Rattle.run_report.proofs.AnswerLines.{line_measured}
use Rattle.run_report.proofs.answers.answer_length.Goals as goal

pub overflow_add-result : goal.overflow_add-result
overflow_add-result c = omega (arith, c.number_length.ensures, digits_length c.args.line)

pub overflow_add-result-2 : goal.overflow_add-result-2
overflow_add-result-2 c = omega (arith, c.number_length.ensures, c.number_length-2.ensures, digits_length c.args.line, digits_length c.args.answer)

pub returns : goal.returns
returns c = search line_measured
