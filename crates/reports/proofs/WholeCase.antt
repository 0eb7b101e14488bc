-- The two examples of run text, the case that docs/SCOPE.md gives whole among them: the report of each text is what specs/Examples.antt says, by computation.
-- Assumes nothing.
use mathlib.Core.Path.{◌≡◌, refl}
use Rattle.published.specs.Rounds.{new_run, new_bench, step, find, has_out, view_of, got, see, agrees, is_awaited, is_heard, decides, decides_on, settled, settled_on, next_world, heard_on, lesser, next_value, least_on, in_state, in_round, sending, taking, noticing, choosing, entering, parting, deciding, advancing, turned, leaving, is_fresh, is_running, is_failed, is_gone, is_found, started_with, has_all, in_all, waiting, some, taking_first, checks, after, refuse, done, run_from}
use Rattle.common.specs.Worlds.{bit, member, world_of, every_in, within}
use Rattle.common.specs.Benches.{every, is_bench}
use Rattle.common.specs.Updates.{put}
use Rattle.common.specs.Checks.{judge}
use Rattle.kinds.specs.declared.Size.TheVariants.{Sixteen}
use Rattle.kinds.specs.Sizes.{benches_of}
use Rattle.kinds.specs.Stand.{step_of}
use Rattle.spelling.specs.Numbers.{digits, leads}
use Rattle.spelling.specs.Lines.{lines_of}
use Rattle.spelling.specs.Fields.{is_prefix, behind, digit_at, more_digits, number_at, field_at}
use Rattle.spelling.specs.Reading.{member_at, members_at, world_at, key_of, verb_at, start_at, from_at, rest_at, step_at, said_of}
use Rattle.spelling.specs.Text.{read_text}
use Rattle.reports.specs.RunReport.{answer_to, answers_from, steps_of, answer_line, answer_lines, state_text, last_round, value_text, bench_line, bench_lines, refused_in, totals_of, run_report_for, run_report_of}
use Rattle.reports.specs.Examples.{whole_input, whole_output, ended_input, ended_output}

cases : (run_report_of Sixteen whole_input ≡ whole_output) × (run_report_of Sixteen ended_input ≡ ended_output)
unfolding benches_of run_report_of run_report_for answer_to answers_from steps_of run_from answer_line answer_lines state_text last_round value_text bench_line bench_lines refused_in totals_of step_of digits leads lines_of is_prefix behind digit_at more_digits number_at field_at member_at members_at world_at key_of verb_at start_at from_at rest_at step_at said_of read_text new_run new_bench step bit member every world_of every_in within put find has_out view_of got see agrees is_awaited is_heard decides decides_on settled settled_on next_world heard_on lesser next_value least_on in_state in_round sending taking noticing choosing entering parting deciding advancing turned leaving is_bench is_fresh is_running is_failed is_gone is_found started_with has_all in_all waiting some taking_first checks after refuse done judge
cases = (refl, refl)

pub whole_case : run_report_of Sixteen whole_input ≡ whole_output
whole_case = cases.0

pub ended_case : run_report_of Sixteen ended_input ≡ ended_output
ended_case = cases.1
