-- How far the rounds of a report go. A text's steps are those of its first k lines and then those of the lines behind them, so what docs/PAUSE.md
-- says of rounds holds of what is printed; so does the bound of docs/ROUNDS.md, and no line is answered 12. Assumes nothing.
use mathlib.Core.Path.{◌≡◌, refl, ap}
use mathlib.Core.List.{List, [], ◌∷◌, ◌++◌}
use Prim.Native.Nat.{ℕ, zero, suc, ◌+◌, ◌*◌, ◌≤◌}
use native.Mathlib.Omega.{arith}
use lib.ListN.{take, drop}
use Rattle.std.specs.Prelude.{Option, Some, None}
use Rattle.common.specs.Lists.{OneOf, first, further}
use Rattle.published.specs.Rounds.{Run, new_run, refuse, Step, run_from}
use Rattle.published.specs.Pause.{NoFailDone}
use Rattle.published.proofs.Theorems.{two_more, three_without_failures, rounds_end}
use Rattle.published.proofs.Refusals.{number_upto_11}
use Rattle.kinds.specs.declared.Size.{Size}
use Rattle.kinds.specs.Sizes.{benches_of}
use Rattle.kinds.specs.declared.Step.{Step as Line}
use Rattle.kinds.specs.Stand.{step_of}
use Rattle.spelling.specs.Text.{read_text}
use Rattle.reports.specs.RunReport.{answer_to, answers_from, steps_of, run_after}
use Rattle.reports.specs.Cut.{run_at, steps_behind, printed_round}
use Rattle.reports.proofs.LastRounds.{printed_above, above_printed}

steps_cut : (k : ℕ) (l : List (Option Line)) → steps_of l ≡ steps_of (take k l) ++ steps_of (drop k l)
unfolding steps_of
steps_cut zero l = refl
steps_cut (suc k) [] = refl
steps_cut (suc k) (Some a ∷ l) = ap (λ (m : List Step). step_of a ∷ m) (steps_cut k l)
steps_cut (suc k) (None ∷ l) = steps_cut k l

module _ (size : Size) (text : List ℕ) where
  abbrev n : ℕ
  n = benches_of size

  pub report_two_more : (k r : ℕ) → 1 ≤ r → ((b : ℕ) → printed_round (run_at size text k) b ≤ r)
      → NoFailDone n (run_at size text k) (steps_behind size text k) → (b : ℕ) → printed_round (run_after size text) b ≤ r + 2
  report_two_more k r pos below nf =
      let first = steps_of (take k (read_text n text)) in let rest = steps_behind size text k in
      rw (steps_cut k (read_text n text))
      (above_printed (run_from n new_run (first ++ rest)) (r + 2) (two_more n first r pos (printed_above n first r below) rest nf))

  pub report_three : NoFailDone n new_run (steps_of (read_text n text)) → (b : ℕ) → printed_round (run_after size text) b ≤ 3
  report_three nf = above_printed (run_after size text) 3 (three_without_failures n (steps_of (read_text n text)) nf)

  pub report_rounds_end : (b : ℕ) → printed_round (run_after size text) b ≤ 2 * n + 1
  report_rounds_end = above_printed (run_after size text) (2 * n + 1) (rounds_end n (steps_of (read_text n text)))

-- a step is answered up to 11, a malformed line 20
answer_not_12 : (size : Size) (s : Run) (x : Option Line) → (answer_to size s x).number ≡ 12 → ⊥
unfolding answer_to refuse
answer_not_12 size s (Some a) e = omega (arith, number_upto_11 (benches_of size) s (step_of a))
answer_not_12 size s None e = omega arith

not_among : (k j : ℕ) (l : List ℕ) → (j ≡ k → ⊥) → (OneOf k l → ⊥) → OneOf k (j ∷ l) → ⊥
not_among k j l ne none (first m) = ne refl
not_among k j l ne none (further i m o) = none o

pub never_12 : (size : Size) (s : Run) (l : List (Option Line)) → OneOf 12 (answers_from size s l) → ⊥
unfolding answers_from
never_12 size s [] = elim [ ]
never_12 size s (x ∷ l) = not_among 12 (answer_to size s x).number _ (answer_not_12 size s x) (never_12 size (answer_to size s x).run l)
