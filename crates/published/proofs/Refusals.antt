-- A refused step returns the run itself, so a list of steps with its refused ones left out leads to the same run. Assumes nothing.
use mathlib.Core.Path.{◌≡◌, refl}
use Prim.Native.Nat.{ℕ, suc, ◌≤◌}
use mathlib.Core.List.{List, [], ◌∷◌, map}
use native.Mathlib.Omega.{arith}
use lib.Dec.{eqb}
use borrow.Author.Tests.{eqb-true, eqb-false}
use Rattle.published.specs.Rounds.{Run, Step, Answer, refuse, done, step, run_from, answers}
use Rattle.common.proofs.Tests.{cond_ind}
use Rattle.common.specs.Lists.{OneOf, first, further}
use Rattle.published.proofs.Numbers.{refusal_among, refusal_range}
use Rattle.published.specs.Refusals.{refusals}
use Rattle.published.specs.Accepted.{accepted}
use Rattle.published.proofs.Moves.{Outcome, refused, moved, step_outcome}

module _ (n : ℕ) where
  refused_outcome : (s : Run) (a : Step) (r : Answer) → Outcome n s a r → (r.number ≡ 0 → ⊥) → r.run ≡ s
  unfolding refuse done
  refused_outcome s a r (refused k f) e = refl
  refused_outcome s a r (moved b x m) e = absurd (e refl)

  pub refused_same : (s : Run) (a : Step) → ((step n s a).number ≡ 0 → ⊥) → (step n s a).run ≡ s
  refused_same s a e = refused_outcome s a (step n s a) (step_outcome n s a) e

  number_outcome : (s : Run) (a : Step) (r : Answer) → Outcome n s a r → OneOf r.number (0 ∷ refusals a)
  unfolding refuse done
  number_outcome s a r (refused k f) = further 0 (refusals a) (refusal_among n s a (suc k) f)
  number_outcome s a r (moved b x m) = first (refusals a)

  -- an answer is 0 or one of the numbers that document 01 lists for the step
  pub number_among : (s : Run) (a : Step) → OneOf (step n s a).number (0 ∷ refusals a)
  number_among s a = number_outcome s a (step n s a) (step_outcome n s a)

  upto_outcome : (s : Run) (a : Step) (r : Answer) → Outcome n s a r → r.number ≤ 11
  unfolding refuse done
  upto_outcome s a r (refused k f) = (refusal_range n s a (suc k) f).1
  upto_outcome s a r (moved b x m) = omega arith

  pub number_upto_11 : (s : Run) (a : Step) → (step n s a).number ≤ 11
  number_upto_11 s a = upto_outcome s a (step n s a) (step_outcome n s a)

  pub without_refused : (s : Run) (l : List Step) → run_from n s (accepted n s l) ≡ run_from n s l
  unfolding accepted run_from
  without_refused s [] = refl
  without_refused s (a ∷ l) = cond_ind (λ k. run_from n s k ≡ run_from n (step n s a).run l) (eqb (step n s a).number 0)
      (a ∷ accepted n (step n s a).run l) (accepted n (step n s a).run l)
      (λ e. without_refused (step n s a).run l)
      (λ e. rw (refused_same s a (eqb-false (step n s a).number 0 e)) (without_refused s l))

  -- and each of them is answered 0
  pub accepted_done : (s : Run) (l : List Step) → answers n s (accepted n s l) ≡ map (λ a. 0) (accepted n s l)
  unfolding accepted answers
  accepted_done s [] = refl
  accepted_done s (a ∷ l) = cond_ind (λ k. answers n s k ≡ map (λ a. 0) k) (eqb (step n s a).number 0)
      (a ∷ accepted n (step n s a).run l) (accepted n (step n s a).run l)
      (λ e. let z = eqb-true (step n s a).number 0 e in let ih = accepted_done (step n s a).run l in cc)
      (λ e. rw (refused_same s a (eqb-false (step n s a).number 0 e)) (accepted_done s l))
