-- `digit_at` meets its contract. By cases on the byte. Assumes nothing.
use Rattle.std.proofs.Common.{rules}
use Rattle.spelling.proofs.Digits.{digit_out, digit_is, digit_not}
use Rattle.text.proofs.numbers.digit_at.Goals as goal

pub returns-in_err-c : goal.returns-in_err-c
returns-in_err-c c = search (digit_out, rules)

pub returns-then-is_ascii_digit : goal.returns-then-is_ascii_digit
returns-then-is_ascii_digit c = search (digit_is, rules)

pub returns-else-is_ascii_digit : goal.returns-else-is_ascii_digit
returns-else-is_ascii_digit c = search (digit_not, rules)
