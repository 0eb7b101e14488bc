-- The table of lines in specs/LedgerExamples.antt holds: each reads to what it says there, by computation. Assumes nothing.
use mathlib.Core.List.{map}
use mathlib.Core.Path.{◌≡◌, refl}
use Rattle.spelling.specs.Fields.{is_prefix, behind, digit_at, more_digits, number_at, field_at}
use Rattle.spelling.specs.LedgerReading.{tag_at, tag_field_at, ledger_key_of, ledger_verb_at, slot_at, sweep_at, ledger_rest_at, ledger_step_at, ledger_said_of}
use Rattle.spelling.specs.LedgerExamples.{table, line_in, said_in}

pub examples : map (λ r. ledger_said_of (line_in r)) table ≡ map said_in table
unfolding table line_in said_in is_prefix behind digit_at more_digits number_at field_at tag_at tag_field_at ledger_key_of ledger_verb_at slot_at sweep_at ledger_rest_at ledger_step_at ledger_said_of
examples = refl
