-- The report of a run text, as docs/SCOPE.md says: how lines are answered, and what is printed of the answers and of the run.
-- This file is to be believed. The run is that of `published`, for as many benches and rounds as its size says.
use Rattle.std.specs.Prelude.{ℕ, zero, suc, ◌+◌, cond, List, [], ◌∷◌, ◌++◌, length, Option, Some, None}
use Rattle.published.specs.Rounds.{Message, Round, Out, State, fresh, running, decided, abstained, left, failed, Decision, none, chosen, Bench, Run, new_run, is_fresh, Step, Answer, refuse, step, run_from}
use Rattle.kinds.specs.declared.Size.{Size}
use Rattle.kinds.specs.Sizes.{benches_of}
use Rattle.kinds.specs.declared.Step.{Step as Line}
use Rattle.kinds.specs.Stand.{step_of}
use Rattle.spelling.specs.Numbers.{ascii, digits}
use Rattle.spelling.specs.Answers.{answer_text, totals, refusal_of}
use Rattle.spelling.specs.Text.{read_text}

-- ---- How lines are answered: a malformed one changes nothing, and reading goes on

unfoldable pub answer_to : Size → Run → Option Line → Answer
answer_to size s (Some a) = step (benches_of size) s (step_of a)
answer_to size s None = refuse 20 s

unfoldable pub answers_from : Size → Run → List (Option Line) → List ℕ
answers_from size s [] = []
answers_from size s (x ∷ l) = (answer_to size s x).number ∷ answers_from size (answer_to size s x).run l

-- ---- The run after a text: that of the steps that its lines say

unfoldable pub steps_of : List (Option Line) → List Step
steps_of [] = []
steps_of (Some a ∷ l) = step_of a ∷ steps_of l
steps_of (None ∷ l) = steps_of l

abbrev pub run_after : Size → List ℕ → Run
run_after size text = run_from (benches_of size) new_run (steps_of (read_text (benches_of size) text))

-- ---- One line for each input line: its number from 1, the answer

unfoldable pub answer_line : ℕ → ℕ → List ℕ
answer_line k a = answer_text k a ++ (10 ∷ [])

unfoldable pub answer_lines : ℕ → List ℕ → List ℕ
answer_lines k [] = []
answer_lines k (a ∷ l) = answer_line k a ++ answer_lines (suc k) l

-- ---- One line for each bench that is not fresh: state, last round sent or 0, decided value or `none`

unfoldable pub state_text : State → List ℕ
state_text fresh = ascii "fresh"
state_text running = ascii "running"
state_text decided = ascii "decided"
state_text abstained = ascii "abstained"
state_text left = ascii "left"
state_text failed = ascii "failed"

-- the last round among the messages sent, or else r
unfoldable pub last_round : ℕ → List Message → ℕ
last_round r [] = r
last_round r (Round q v w ∷ l) = last_round q l
last_round r (Out ∷ l) = last_round r l

unfoldable pub value_text : Decision → List ℕ
value_text none = ascii "none"
value_text (chosen v) = digits v

unfoldable pub bench_line : ℕ → Bench → List ℕ
bench_line b x =
    cond (is_fresh x.state) []
    (ascii "bench=" ++ (digits b ++ (ascii " state=" ++ (state_text x.state ++ (ascii " round=" ++ (digits (last_round 0 x.sent) ++ (ascii " value=" ++ (value_text x.decision ++ (10 ∷ [])))))))))

-- in rising number
unfoldable pub bench_lines : ℕ → Run → List ℕ
bench_lines zero s = []
bench_lines (suc n) s = bench_lines n s ++ bench_line (suc n) (s (suc n))

-- ---- The number of lines, and of lines not answered 0

unfoldable pub refused_in : List ℕ → ℕ
refused_in [] = 0
refused_in (a ∷ l) = refusal_of a + refused_in l

unfoldable pub totals_of : List ℕ → List ℕ
totals_of answers = totals (length answers) (refused_in answers)

-- ---- The report

unfoldable pub run_report_for : Size → List ℕ → Run → List ℕ
run_report_for size answers s = answer_lines 1 answers ++ (bench_lines (benches_of size) s ++ totals_of answers)

unfoldable pub run_report_of : Size → List ℕ → List ℕ
run_report_of size text = run_report_for size (answers_from size new_run (read_text (benches_of size) text)) (run_after size text)
