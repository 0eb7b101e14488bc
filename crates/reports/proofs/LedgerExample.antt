-- The example of a ledger script: its report is what specs/Examples.antt says, by computation. Assumes nothing.
use mathlib.Core.Path.{◌≡◌, refl}
use Rattle.common.specs.Benches.{is_bench, every}
use Rattle.common.specs.Updates.{put}
use Rattle.kinds.specs.declared.Size.TheVariants.{Sixteen}
use Rattle.kinds.specs.Sizes.{benches_of}
use Rattle.spelling.specs.Numbers.{digits, leads}
use Rattle.spelling.specs.Lines.{lines_of}
use Rattle.spelling.specs.Fields.{is_prefix, behind, digit_at, more_digits, number_at, field_at}
use Rattle.book.specs.Book.{only, tags_of, has_joined, is_open, first_slot, open_slot, is_member, done_with, all_closed, may_go, new_book, with_row, swept, cut, advanced, checks, answer, after, step}
use Rattle.common.specs.Checks.{judge}
use Rattle.spelling.specs.LedgerReading.{tag_at, tag_field_at, ledger_key_of, ledger_verb_at, slot_at, sweep_at, ledger_rest_at, ledger_step_at, ledger_said_of, read_script}
use Rattle.spelling.specs.LedgerSteps.{step_is, is_hand_out}
use Rattle.reports.specs.LedgerReport.{ledger_answer_to, book_after, hands_out, other_tags, tags_text, handed_text, ledger_line, ledger_lines, slots_text, sender_line, sender_lines, cursor_line, ledger_refused, last_lines, ledger_report_for, ledger_report_of}
use Rattle.reports.specs.Examples.{script_input, script_output}

pub example : ledger_report_of Sixteen script_input ≡ script_output
unfolding benches_of read_script ledger_answer_to book_after hands_out other_tags tags_text handed_text ledger_line ledger_lines slots_text sender_line sender_lines cursor_line ledger_refused last_lines ledger_report_for ledger_report_of digits leads lines_of is_prefix behind digit_at more_digits number_at field_at tag_at tag_field_at ledger_key_of ledger_verb_at slot_at sweep_at ledger_rest_at ledger_step_at ledger_said_of step_is is_hand_out only tags_of has_joined is_open first_slot open_slot is_member done_with all_closed may_go new_book with_row swept cut advanced checks answer after judge step is_bench every put
example = refl
