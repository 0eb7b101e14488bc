-- The worked examples of docs/SCOPE.md, those of a ledger's sender that leaves and of an early leaver: the table of specs/Table.antt holds, by computation. Assumes nothing.
use mathlib.Core.Path.{◌≡◌, refl}
use mathlib.Core.Bool.{true}
use Rattle.common.specs.Worlds.{bit, member, world_of, every_in, within}
use Rattle.common.specs.Benches.{every, is_bench}
use Rattle.common.specs.Updates.{put}
use Rattle.published.specs.Rounds.{new_run, new_bench, step, find, has_out, view_of, got, see, agrees, is_awaited, is_heard, decides, decides_on, settled, settled_on, next_world, heard_on, lesser, next_value, least_on, in_state, in_round, sending, taking, noticing, choosing, entering, parting, deciding, advancing, turned, leaving, is_fresh, is_running, is_failed, is_gone, is_found, started_with, has_all, in_all, waiting, some, taking_first, checks, after, refuse, done}
use Rattle.common.specs.Checks.{judge}
use Rattle.kinds.specs.Sizes.{benches_of}
use Rattle.kinds.specs.Stand.{step_of}
use Rattle.spelling.specs.Fields.{is_prefix, behind, digit_at, more_digits, number_at, field_at}
use Rattle.spelling.specs.Reading.{member_at, members_at, world_at, key_of, verb_at, start_at, from_at, rest_at, step_at, said_of}
use Rattle.reports.specs.RunReport.{answer_to}
use Rattle.book.specs.Book as ledger
use Rattle.book.specs.Book.{new_book, only, tags_of, has_joined, is_open, first_slot, open_slot, is_member, done_with, all_closed, may_go, with_row, swept, cut, advanced}
use Rattle.examples.specs.Table.{is_round, is_value, is_decided, same, holds, all_hold, table}
use Rattle.examples.specs.Leaver.{starts, rounds}

pub examples : all_hold table ≡ true
unfolding benches_of all_hold holds table starts rounds is_round is_value is_decided same new_run new_bench step bit member every world_of every_in within put find has_out view_of got see agrees is_awaited is_heard decides decides_on settled settled_on next_world heard_on lesser next_value least_on in_state in_round sending taking noticing choosing entering parting deciding advancing turned leaving is_bench is_fresh is_running is_failed is_gone is_found started_with has_all in_all waiting some taking_first checks after refuse done step_of is_prefix behind digit_at more_digits number_at field_at member_at members_at world_at key_of verb_at start_at from_at rest_at step_at said_of answer_to new_book only tags_of has_joined is_open first_slot open_slot is_member done_with all_closed may_go with_row swept cut advanced ledger.checks ledger.answer ledger.after judge ledger.step
examples = refl
