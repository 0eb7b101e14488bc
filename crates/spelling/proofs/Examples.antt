-- The table of texts in specs/Examples.antt holds: each reads to what it says there, by computation. Assumes nothing.
use mathlib.Core.List.{map}
use mathlib.Core.Path.{◌≡◌, refl}
use Rattle.kinds.specs.declared.Size.TheVariants.{Sixteen}
use Rattle.kinds.specs.Sizes.{benches_of}
use Rattle.spelling.specs.Lines.{lines_of}
use Rattle.spelling.specs.Fields.{is_prefix, behind, digit_at, more_digits, number_at, field_at}
use Rattle.spelling.specs.Reading.{member_at, members_at, world_at, key_of, verb_at, start_at, from_at, rest_at, step_at, said_of}
use Rattle.spelling.specs.Text.{read_text}
use Rattle.spelling.specs.Examples.{table, text_in, said_in}

pub examples : map (λ r. read_text (benches_of Sixteen) (text_in r)) table ≡ map said_in table
unfolding benches_of table text_in said_in is_prefix behind digit_at more_digits number_at field_at member_at members_at world_at key_of verb_at start_at from_at rest_at step_at said_of lines_of read_text
examples = refl
