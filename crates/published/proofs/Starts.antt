-- Every proposal was given by a start of the list that was accepted: a step brings a proposal only as such a start. Assumes nothing.
use mathlib.Core.Path.{refl}
use Prim.Native.Nat.{ℕ}
use mathlib.Core.List.{List, [], ◌∷◌}
use Rattle.published.specs.Rounds.{Run, absent, new_run, new_bench, find, Step, start, step, run_from}
use Rattle.published.specs.Accepted.{Accepted, here, later}
use Rattle.published.proofs.Messages.{never}
use Rattle.published.specs.Proposals.{M, earlier, now}
use Rattle.published.proofs.Reached.{Reached, reached_new, reached_step}
use Rattle.published.proofs.Records.{proposal_from}

-- it was there before the steps, or one of them gave it
data Source (n : ℕ) (i v w : ℕ) (s : Run) (l : List Step) : Type 0 where
  before : M s i 1 v w → Source n i v w s l
  given : Accepted n (start i v w) s l → Source n i v w s l

module _ (n : ℕ) (i v w : ℕ) where
  step_source : (s : Run) → Reached n s → (a : Step) (l : List Step) → M (step n s a).run i 1 v w → Source n i v w s (a ∷ l)
  step_source s h a l m = elim (proposal_from n s h a i v w m) [
    | earlier e ↦ before e
    | now e z ↦ given (rw e (here s l (rw e at z)))
  ]

  source : (s : Run) → Reached n s → (l : List Step) → M (run_from n s l) i 1 v w → Source n i v w s l
  unfolding run_from
  source s h [] m = before m
  source s h (a ∷ l) m = elim (source (step n s a).run (reached_step n s h a) l m) [
    | before e ↦ step_source s h a l e
    | given g ↦ given (later s a l g)
  ]

  -- from the new run: every proposal was given by an accepted start
  pub accepted_start : (l : List Step) → M (run_from n new_run l) i 1 v w → Accepted n (start i v w) new_run l
  unfolding new_run new_bench find
  accepted_start l m = elim (source new_run (reached_new n) l m) [
    | before e ↦ never absent v w refl e
    | given g ↦ g
  ]
