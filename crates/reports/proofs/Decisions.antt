-- What every report of a run text shows of decisions: all decided values are equal, each is the value of some accepted start line of the text, and none
-- is above the bench's own. A text is played as the list of its steps, so the theorems of `published` apply. Assumes nothing.
use mathlib.Core.Path.{◌≡◌, refl}
use Prim.Native.Nat.{ℕ, ◌≤◌}
use mathlib.Core.List.{List, ◌++◌}
use Rattle.published.specs.Rounds.{chosen, new_run, Step, start}
use Rattle.published.proofs.Starts.{accepted_start}
use Rattle.published.proofs.Theorems.{agreement, validity, not_above_own}
use Rattle.kinds.specs.declared.Size.{Size}
use Rattle.kinds.specs.Sizes.{benches_of}
use Rattle.spelling.specs.Text.{read_text}
use Rattle.reports.specs.RunReport.{answers_from, steps_of, run_after, answer_lines, bench_lines, totals_of, run_report_for, run_report_of}
use Rattle.published.specs.Accepted.{Accepted}

module _ (size : Size) (text : List ℕ) where
  abbrev n : ℕ
  n = benches_of size

  abbrev steps : List Step
  steps = steps_of (read_text n text)

  -- The lines of the benches are those of the run of which the others speak.
  pub report_prints : run_report_of size text ≡ answer_lines 1 (answers_from size new_run (read_text n text)) ++ (bench_lines n (run_after size text) ++ totals_of (answers_from size new_run (read_text n text)))
  unfolding run_report_of run_report_for
  report_prints = refl

  pub report_agrees : (i j d e : ℕ) → (run_after size text i).decision ≡ chosen d → (run_after size text j).decision ≡ chosen e → d ≡ e
  report_agrees = agreement n steps

  pub report_valid : (i d : ℕ) → (run_after size text i).decision ≡ chosen d → (b : ℕ) × (w : ℕ) × Accepted n (start b d w) new_run steps
  report_valid i d e =
      let p = validity n steps i d e in
      (p.by, p.by_world, accepted_start n p.by d p.by_world steps p.by_message)

  pub report_bounded : (i d : ℕ) → (run_after size text i).decision ≡ chosen d → (v : ℕ) × (w : ℕ) × Accepted n (start i v w) new_run steps × (d ≤ v)
  report_bounded i d e =
      let p = not_above_own n steps i d e in
      (p.own_value, p.own_world, accepted_start n i p.own_value p.own_world steps p.own_message, p.not_above)
