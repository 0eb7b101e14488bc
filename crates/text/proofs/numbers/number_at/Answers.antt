-- `number_at` meets its contract. By what was found. Assumes nothing.
use Rattle.std.proofs.Common.{rules}
use Rattle.spelling.specs.Fields.{number_at}
use Rattle.text.proofs.numbers.number_at.Goals as goal

pub returns-in_err-number : goal.returns-in_err-number
unfolding number_at
returns-in_err-number c = search rules

pub returns : goal.returns
unfolding number_at
returns c = search rules
