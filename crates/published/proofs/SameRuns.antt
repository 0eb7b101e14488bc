-- W9: a limit on rounds from 2 n + 1 on refuses nothing, so runs and answers under it are those without one. Assumes nothing.
use mathlib.Core.Path.{◌≡◌, refl, ap, ◌∙◌}
use Prim.Native.Nat.{ℕ, ◌+◌, ◌*◌, ◌≤◌}
use mathlib.Core.List.{List, [], ◌∷◌}
use Rattle.common.specs.Checks.{judge, Holds, nothing, also}
use Rattle.common.proofs.Checks.{judge_append, judge_same}
use Rattle.published.specs.Rounds.{Run, Step, start, abstain, leave, fail, turn, arrive, notice, checks, after, Answer, refuse, done, step, run_from, answers}
use Rattle.published.specs.Limited.{limit_check, limited_step, limited_from, limited_answers}
use Rattle.published.proofs.Moves.{running_is}
use Rattle.published.proofs.Reached.{Reached, reached_step}
use Rattle.published.proofs.NoLimit.{within}

module _ (n limit : ℕ) (enough : 2 * n + 1 ≤ limit) where
  module _ (s : Run) (h : Reached n s) where
    -- where the other checks of a step hold, so does check 12
    passes : (a : Step) → Holds (checks n s a) → judge (λ k. refuse k s) (limit_check n limit s a) (done (after n s a)) ≡ done (after n s a)
    unfolding judge checks limit_check
    passes (start b v w) e = refl
    passes (abstain b) e = refl
    passes (leave b) e = refl
    passes (fail b) e = refl
    passes (turn b) (also i₁ c₁ l₁ e₁ (also i₃ c₃ l₃ e₃ (also i₁₁ c₁₁ l₁₁ e₁₁ nothing))) = rw (within n limit enough s h b (running_is (s b).state e₃) e₁₁) refl
    passes (arrive b f) e = refl
    passes (notice b f) e = refl

    step_same : (a : Step) → limited_step n limit s a ≡ step n s a
    unfolding limited_step step
    step_same a = judge_append (λ k. refuse k s) (checks n s a) (limit_check n limit s a) (done (after n s a)) ∙ judge_same (λ k. refuse k s) (checks n s a) _ _ (passes a)

  pub same_run : (s : Run) → Reached n s → (l : List Step) → limited_from n limit s l ≡ run_from n s l
  unfolding limited_from run_from
  same_run s h [] = refl
  same_run s h (a ∷ l) = ap (λ (r : Answer). limited_from n limit r.run l) (step_same s h a) ∙ same_run (step n s a).run (reached_step n s h a) l

  pub same_answers : (s : Run) → Reached n s → (l : List Step) → limited_answers n limit s l ≡ answers n s l
  unfolding limited_answers answers
  same_answers s h [] = refl
  same_answers s h (a ∷ l) =
      ap (λ (r : Answer). r.number ∷ limited_answers n limit r.run l) (step_same s h a)
      ∙ ap (λ (r : List ℕ). (step n s a).number ∷ r) (same_answers (step n s a).run (reached_step n s h a) l)
