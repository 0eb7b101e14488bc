-- `tag_at` meets its contract. By what was found. Assumes nothing.
use Rattle.std.proofs.Common.{rules}
use Rattle.spelling.specs.LedgerReading.{tag_at}
use Rattle.text.proofs.numbers.tag_at.Goals as goal

pub returns-in_err-tag : goal.returns-in_err-tag
unfolding tag_at
returns-in_err-tag c = search rules

pub returns-in_err-ok : goal.returns-in_err-ok
unfolding tag_at
returns-in_err-ok c = search rules

pub returns : goal.returns
unfolding tag_at
returns c = search rules
