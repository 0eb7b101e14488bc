-- The round that a report prints of a bench, the last among its messages, is the round that the bench is in. So a report's rounds are those of which docs/PAUSE.md speaks.
-- By cases on the moves. Assumes nothing.
use mathlib.Core.Path.{◌≡◌, refl, ◌∙◌}
use mathlib.Core.List.{List, [], ◌∷◌, ◌++◌}
use Prim.Native.Nat.{ℕ, ◌≤◌}
use native.Mathlib.Omega.{arith}
use lib.Dec.{eqb}
use borrow.Author.Tests.{eqb-true, eq-eqb}
use Rattle.published.specs.Rounds.{Run, Bench, Message, Round, Out, found, find, new_run, new_bench, in_state, in_round, sending, taking, noticing, choosing, entering, parting, deciding, advancing, Step, Answer, refuse, done, step, run_from}
use Rattle.published.specs.Pause.{NoRoundAbove}
use Rattle.published.proofs.Moves.{Move, starts, abstains, leaves, leaves_silent, fails, takes, notices, concludes, advances, Outcome, refused, moved, step_outcome}
use Rattle.published.proofs.Reached.{reached_run, reached_base}
use Rattle.common.proofs.Tests.{split}
use Rattle.common.proofs.Updates.{put_ind}
use Rattle.reports.specs.RunReport.{last_round}
use Rattle.reports.specs.Cut.{printed_round}

pub last_append : (r : ℕ) (l m : List Message) → last_round r (l ++ m) ≡ last_round (last_round r l) m
unfolding last_round
last_append r [] m = refl
last_append r (Round q v w ∷ l) m = last_append q l m
last_append r (Out ∷ l) m = last_append r l m

-- ---- the last round is the bench's round

abbrev Last : Bench → Type 0
Last x = last_round 0 x.sent ≡ x.round

module _ (n : ℕ) where
  last_move : (s : Run) → ((i : ℕ) → Last (s i)) → (a : Step) (b : ℕ) (x : Bench) → Move n s a b x → Last x
  unfolding last_round entering parting deciding advancing in_state in_round sending taking noticing choosing
  last_move s h a d x (starts b v w hb k hv hw mb c₆ c₇) = last_append 0 (s b).sent (Round 1 v w ∷ [])
  last_move s h a d x (abstains b hb k) = last_append 0 (s b).sent (Out ∷ []) ∙ h b
  last_move s h a d x (leaves b hb u o) = last_append 0 (s b).sent (Out ∷ []) ∙ h b
  last_move s h a d x (leaves_silent b hb u o) = h b
  last_move s h a d x (fails b hb u) = h b
  last_move s h a d x (takes b f m q hb hf ne l g e) = h b
  last_move s h a d x (notices b f hb hf ne l e g) = h b
  last_move s h a d x (concludes b hb k t) = last_append 0 (s b).sent (Out ∷ []) ∙ h b
  last_move s h a d x (advances b hb k t u) = last_append 0 (s b).sent _

  last_outcome : (s : Run) → ((i : ℕ) → Last (s i)) → (a : Step) (k : Answer) → Outcome n s a k → (i : ℕ) → Last (k.run i)
  unfolding refuse done
  last_outcome s h a k (refused j f) i = h i
  last_outcome s h a k (moved b x m) i = put_ind Last s b x i (λ e. last_move s h a b x m) (λ e. h i)

  last_from : (s : Run) → ((i : ℕ) → Last (s i)) → (l : List Step) (i : ℕ) → Last (run_from n s l i)
  unfolding run_from
  last_from s h [] i = h i
  last_from s h (a ∷ l) i = last_from (step n s a).run (last_outcome s h a (step n s a) (step_outcome n s a)) l i

  pub last_round_lem : (l : List Step) (i : ℕ) → printed_round (run_from n new_run l) i ≡ (run_from n new_run l i).round
  unfolding new_run new_bench last_round
  last_round_lem l i = last_from new_run (λ j. refl) l i

  -- ---- and no message is of a later one

  pub printed_above : (l : List Step) (r : ℕ) → ((b : ℕ) → printed_round (run_from n new_run l) b ≤ r) → NoRoundAbove r (run_from n new_run l)
  printed_above l r h b q v w m = omega (arith, ((reached_base n (run_from n new_run l) (reached_run n l)).wf b).upto q v w m, last_round_lem l b, h b)

-- the last round among messages is one of theirs
last_le : (k r : ℕ) (l : List Message) → r ≤ k → ((q v w : ℕ) → find q l ≡ found v w → q ≤ k) → last_round r l ≤ k
unfolding last_round find
last_le k r [] le h = le
last_le k r (Out ∷ l) le h = last_le k r l le h
last_le k r (Round p v w ∷ l) le h =
    let this : p ≤ k = h p v w (rw (eq-eqb p p refl) refl) in
    last_le k p l this (λ q u y e. split (eqb p q) (λ z. omega (arith, eqb-true p q z)) (λ z. h q u y (rw z e)))

pub above_printed : (s : Run) (r : ℕ) → NoRoundAbove r s → (b : ℕ) → printed_round s b ≤ r
above_printed s r h b = last_le r 0 (s b).sent (omega arith) (h b)
