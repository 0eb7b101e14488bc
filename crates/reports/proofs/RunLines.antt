-- How long the lines of a run text's report are, and how many of its lines are refused. Assumes nothing.
use Prim.Native.Nat.{ℕ, suc, ◌+◌, ◌*◌, ◌≤◌}
use native.Mathlib.Omega.{arith}
use mathlib.Core.List.{List, [], ◌∷◌, ◌++◌}
use mathlib.Core.Path.{◌≡◌, refl}
use lib.ListN.{length, length-append}
use Rattle.published.specs.Rounds.{State, fresh, running, decided, abstained, left, failed, Decision, none, chosen}
use Rattle.spelling.specs.Numbers.{ascii, digits}
use Rattle.spelling.specs.Answers.{answer_text, refusal_of}
use Rattle.spelling.proofs.Decimals.{digits_length}
use Rattle.spelling.proofs.Answers.{answer_length, totals_length, totals_short, refusal_one}
use Rattle.reports.specs.RunReport.{answer_line, answer_lines, state_text, value_text, refused_in, totals_of}

-- ---- the answers' lines: 14 bytes beside the two numbers of each

pub line_length_lem : (k a : ℕ) → length (answer_line k a) ≡ 14 + length (digits k) + length (digits a)
unfolding answer_line
line_length_lem k a = omega (arith, answer_length k a, length-append (answer_text k a) (10 ∷ []))

pub line_short : (k a n : ℕ) → n ≡ length (answer_line k a) → n ≤ 34
line_short k a n e = omega (arith, line_length_lem k a, digits_length k, digits_length a)

pub lines_short : (l : List ℕ) (k : ℕ) → length (answer_lines k l) ≤ 34 * length l
unfolding answer_lines
lines_short [] k = omega arith
lines_short (a ∷ l) k = omega (arith, length-append (answer_line k a) (answer_lines (suc k) l), line_short k a (length (answer_line k a)) refl, lines_short l (suc k))

-- ---- the benches' lines: 67 bytes at most

state_short : (k : State) → length (state_text k) ≤ 9
unfolding state_text
state_short fresh = omega arith
state_short running = omega arith
state_short decided = omega arith
state_short abstained = omega arith
state_short left = omega arith
state_short failed = omega arith

value_short : (d : Decision) → length (value_text d) ≤ 10
unfolding value_text
value_short none = omega arith
value_short (chosen v) = omega (arith, digits_length v)

-- the line of a bench that is not fresh
abbrev pub spelled : ℕ → State → ℕ → Decision → List ℕ
spelled b k r d =
    (ascii "bench=" ++ digits b) ++ (ascii " state=" ++ (state_text k ++ ((ascii " round=" ++ digits r) ++ (ascii " value=" ++ (value_text d ++ (10 ∷ []))))))

pub spelled_short : (b : ℕ) (k : State) (r : ℕ) (d : Decision) → length (spelled b k r d) ≤ 67
spelled_short b k r d = simp length-append (omega (arith, digits_length b, state_short k, digits_length r, value_short d))

-- ---- the totals

pub refused_few : (l : List ℕ) → refused_in l ≤ length l
unfolding refused_in
refused_few [] = omega arith
refused_few (a ∷ l) = omega (arith, refusal_one a (refusal_of a) refl, refused_few l)

pub totals_of_length : (l : List ℕ) → length (totals_of l) ≡ 16 + length (digits (length l)) + length (digits (refused_in l))
unfolding totals_of
totals_of_length l = totals_length (length l) (refused_in l)

pub totals_of_short : (l : List ℕ) → length (totals_of l) ≤ 36
unfolding totals_of
totals_of_short l = totals_short (length l) (refused_in l)
