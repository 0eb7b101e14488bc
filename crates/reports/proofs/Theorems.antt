-- What is proved of both reports: what is promised settles everything, nothing is written on a refusal, how long a report can be, the case that docs/SCOPE.md
-- gives whole and a ledger script byte for byte, that all decisions of a report agree, and how far its rounds can go. Each statement stands below its words, the
-- proofs are in the other files. Assumes nothing.
use Prim.Native.Nat.{ℕ, ◌+◌, ◌*◌, ◌≤◌}
use mathlib.Core.List.{List, ◌++◌}
use mathlib.Core.Path.{◌≡◌}
use lib.ListN.{length, get_or, take}
use Rattle.common.specs.Lists.{OneOf}
use Rattle.published.specs.Rounds.{new_run, chosen, start}
use Rattle.kinds.specs.declared.Size.{Size}
use Rattle.kinds.specs.declared.Size.TheVariants.{Sixteen}
use Rattle.kinds.specs.Sizes.{benches_of}
use Rattle.spelling.specs.Text.{read_text}
use Rattle.std.specs.Prelude.{Result, Ok}
use Rattle.kinds.specs.declared.Refusal.{Refusal}
use Rattle.kinds.specs.Refusals.{answer_of}
use Rattle.reports.specs.Reported.{length_of, longest, number_for, length_for, Reports}
use Rattle.reports.specs.RunReport.{answers_from, steps_of, run_after, answer_lines, bench_lines, totals_of, run_report_of}
use Rattle.reports.specs.Cut.{run_at, steps_behind, printed_round}
use Rattle.reports.specs.LedgerReport.{ledger_report_of}
use Rattle.reports.specs.Examples.{whole_input, whole_output, ended_input, ended_output, script_input, script_output}
use Rattle.published.specs.Accepted.{Accepted}
use Rattle.published.specs.Pause.{NoFailDone}
use Rattle.reports.proofs.Settled as settled
use Rattle.reports.proofs.RunLengths as run
use Rattle.reports.proofs.LedgerLengths as ledger
use Rattle.reports.proofs.Decisions as decisions
use Rattle.reports.proofs.LastRounds.{last_round_lem}
use Rattle.reports.proofs.Rounds as rounds
use Rattle.reports.proofs.WholeCase as case
use Rattle.reports.proofs.LedgerExample as script

-- ---- the promise settles everything, whatever the report

-- Two answers with their rooms that are both promised of one text, one report that is not empty and one room are equal: the answer, and every byte of the room.
pub report_settles : {text report room a a' : List ℕ} {r r' : Result ℕ Refusal} → 1 ≤ length report → Reports text report room r a → Reports text report room r' a' → (r ≡ r') × (a ≡ a')
report_settles some = settled.report_settles _ _ _ some

-- A refusal leaves every byte of the room as it was.
pub refused_writes_nothing : {text report room a : List ℕ} {r : Result ℕ Refusal} → Reports text report room r a → (answer_of r ≡ 0 → ⊥) → a ≡ room
refused_writes_nothing = settled.refused_keeps

-- Otherwise the report stands at the room's front, and the places past it keep what they held.
pub report_stands : {text report room a : List ℕ} {r : Result ℕ Refusal} → Reports text report room r a → answer_of r ≡ 0 → take (length_of r) a ≡ report
report_stands = settled.report_stands

pub past_report_kept : {text report room a : List ℕ} {r : Result ℕ Refusal} → Reports text report room r a → (i : ℕ) → length_of r ≤ i → get_or a i 0 ≡ get_or room i 0
past_report_kept = settled.past_kept

-- In any case the room is as long as it was.
pub room_length_kept : {text report room a : List ℕ} {r : Result ℕ Refusal} → Reports text report room r a → length a ≡ length room
room_length_kept = settled.room_length

-- A report lies within the room.
pub report_inside : {text report room a : List ℕ} {r : Result ℕ Refusal} → Reports text report room r a → (n : ℕ) → r ≡ Ok n → n ≤ length a
report_inside = settled.length_inside

-- Of a report that is not empty, the length that C gets is 0 exactly when the text or the room was refused.
pub zero_is_refused : (text report room : List ℕ) → 1 ≤ length report → (length_for text report room ≡ 0 → number_for text report room ≡ 0 → ⊥) × ((number_for text report room ≡ 0 → ⊥) → length_for text report room ≡ 0)
zero_is_refused = settled.zero_is_refused

-- ---- how long a report is

-- No report of a run text is empty, and none of a ledger script.
pub run_report_never_empty : (size : Size) (text : List ℕ) → 1 ≤ length (run_report_of size text)
run_report_never_empty = run.run_some

pub ledger_report_never_empty : (size : Size) (text : List ℕ) → 1 ≤ length (ledger_report_of size text)
ledger_report_never_empty = ledger.ledger_some

-- No report of a run text is longer than 1,365,176 bytes, whatever the size: a bench is named by a line of the text.
pub run_report_length_bound : (size : Size) (text : List ℕ) → length text ≤ longest → length (run_report_of size text) ≤ 1365176
run_report_length_bound = run.run_short

-- So with that much room every run text that is not too long gets its report.
pub room_enough : (size : Size) (text room : List ℕ) → length text ≤ longest → 1365176 ≤ length room → number_for text (run_report_of size text) room ≡ 0
room_enough = run.run_room

-- No report of a ledger script for 16 senders is longer than 1,377,401 bytes.
pub ledger_report_length_bound : (text : List ℕ) → length text ≤ longest → length (ledger_report_of Sixteen text) ≤ 1377401
ledger_report_length_bound = ledger.ledger_short

-- So with that much room every script that is not too long gets its report.
pub ledger_room_enough : (text room : List ℕ) → length text ≤ longest → 1377401 ≤ length room → number_for text (ledger_report_of Sixteen text) room ≡ 0
ledger_room_enough = ledger.ledger_room_enough

-- And a room of that many bytes, which the ledger's report function asks for by its type, is never refused by 22.
pub ledger_room_never_short : (text room : List ℕ) → 1377401 ≤ length room → number_for text (ledger_report_of Sixteen text) room ≡ 22 → ⊥
ledger_room_never_short = ledger.ledger_room

-- ---- examples, byte for byte

-- The case that docs/SCOPE.md gives whole: the report of its input is its output.
pub whole_case : run_report_of Sixteen whole_input ≡ whole_output
whole_case = case.whole_case

-- The same of a text with benches that decided, left and failed, and with malformed lines.
pub ended_case : run_report_of Sixteen ended_input ≡ ended_output
ended_case = case.ended_case

-- The report of a ledger script with both ledger examples of docs/SCOPE.md in it.
pub example : ledger_report_of Sixteen script_input ≡ script_output
example = script.example

-- ---- the decisions of a run text's report

-- A report is the lines of the answers, then the lines of the benches of the run of which the next three speak, then the totals.
pub report_prints : (size : Size) (text : List ℕ) → run_report_of size text ≡ answer_lines 1 (answers_from size new_run (read_text (benches_of size) text)) ++ (bench_lines (benches_of size) (run_after size text) ++ totals_of (answers_from size new_run (read_text (benches_of size) text)))
report_prints = decisions.report_prints

-- In every report all decided values are equal.
pub report_agrees : (size : Size) (text : List ℕ) (i j d e : ℕ) → (run_after size text i).decision ≡ chosen d → (run_after size text j).decision ≡ chosen e → d ≡ e
report_agrees = decisions.report_agrees

-- Each is a value that some accepted start line of the text gave.
pub report_valid : (size : Size) (text : List ℕ) (i d : ℕ) → (run_after size text i).decision ≡ chosen d → (b : ℕ) × (w : ℕ) × Accepted (benches_of size) (start b d w) new_run (steps_of (read_text (benches_of size) text))
report_valid = decisions.report_valid

-- And it is not above the value that the bench's own accepted start line gave.
pub report_bounded : (size : Size) (text : List ℕ) (i d : ℕ) → (run_after size text i).decision ≡ chosen d → (v : ℕ) × (w : ℕ) × Accepted (benches_of size) (start i v w) new_run (steps_of (read_text (benches_of size) text)) × (d ≤ v)
report_bounded = decisions.report_bounded

-- ---- the rounds of a run text's report: docs/PAUSE.md

-- The round that is printed of a bench is the round that the bench is in.
pub printed_round_lem : (size : Size) (text : List ℕ) (b : ℕ) → printed_round (run_after size text) b ≡ (run_after size text b).round
printed_round_lem size text = last_round_lem (benches_of size) (steps_of (read_text (benches_of size) text))

-- Where the first k lines leave no bench in a round above r, r being at least 1, and none of the lines behind them is a fail line that is done, no round above r + 2 is printed.
pub report_two_more : (size : Size) (text : List ℕ) (k r : ℕ) → 1 ≤ r → ((b : ℕ) → printed_round (run_at size text k) b ≤ r)
    → NoFailDone (benches_of size) (run_at size text k) (steps_behind size text k) → (b : ℕ) → printed_round (run_after size text) b ≤ r + 2
report_two_more = rounds.report_two_more

-- Where no fail line of the text is done, no round above 3 is printed.
pub report_three : (size : Size) (text : List ℕ) → NoFailDone (benches_of size) new_run (steps_of (read_text (benches_of size) text)) → (b : ℕ) → printed_round (run_after size text) b ≤ 3
report_three = rounds.report_three

-- ---- how far rounds come: docs/ROUNDS.md

-- No text has a round above 2 n + 1 printed: none above 33 of a class of 16.
pub report_rounds_end : (size : Size) (text : List ℕ) (b : ℕ) → printed_round (run_after size text) b ≤ 2 * benches_of size + 1
report_rounds_end = rounds.report_rounds_end

-- And no line of a text is answered 12.
pub report_never_12 : (size : Size) (text : List ℕ) → OneOf 12 (answers_from size new_run (read_text (benches_of size) text)) → ⊥
report_never_12 size text = rounds.never_12 size new_run (read_text (benches_of size) text)
