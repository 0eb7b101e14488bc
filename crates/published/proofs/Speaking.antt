-- What one step makes a bench send: a start, an abstain and a turn that are done send one message, a leave at most one, a fail none; what it has taken and
-- noticed stays. By cases on the move. Assumes nothing.
use mathlib.Core.Path.{◌≡◌, refl}
use Prim.Native.Nat.{ℕ, ◌+◌, ◌≤◌}
use mathlib.Core.Bool.{true}
use mathlib.Core.List.{[], ◌∷◌, ◌++◌}
use native.Mathlib.Omega.{arith}
use lib.ListN.{length}
use Rattle.published.specs.Rounds.{Run, Bench, Message, Round, Out, running, is_fresh, is_running, in_state, in_round, sending, choosing, entering, parting, deciding, advancing, Step, start, abstain, leave, fail, turn, Answer, refuse, done, step}
use Rattle.common.specs.Updates.{put}
use Rattle.common.proofs.Tests.{clash}
use Rattle.published.proofs.Messages.{length_last}
use Rattle.published.proofs.Moves.{live, starts, abstains, leaves, leaves_silent, fails, concludes, advances, Outcome, refused, moved, step_outcome}

-- from x to y a bench has sent `more` messages, and has taken and noticed nothing; it has not come back
pub record SendsMore (x y : Bench) (more : ℕ) : Type 0 where
  pub sent_more : length y.sent ≡ more + length x.sent
  pub same_taken : (f : ℕ) → y.taken f ≡ x.taken f
  pub same_noticed : (f : ℕ) → y.noticed f ≡ x.noticed f
  pub live_back : live y.state ≡ true → live x.state ≡ true

-- from s to r bench b, which was fresh or running, has sent one message
pub record Spoke (s : Run) (b : ℕ) (r : Run) : Type 0 where
  pub bench : Bench
  pub run_is : r ≡ put s b bench
  pub one_more : SendsMore (s b) bench 1
  pub was_live : live (s b).state ≡ true

-- from s to r bench b has sent at most `most` messages; or the step was refused
pub data Went (s : Run) (b most : ℕ) (r : Run) : Type 0 where
  stood : r ≡ s → Went s b most r
  went : (y : Bench) (more : ℕ) → more ≤ most → r ≡ put s b y → SendsMore (s b) y more → Went s b most r

one_last : (x : Bench) (m : Message) → length (x.sent ++ (m ∷ [])) ≡ 1 + length x.sent
one_last x m = omega (arith, length_last x.sent m)

module _ (n : ℕ) (s : Run) where
  abbrev Comes : Step → Answer → Type 0
  Comes a r = Outcome n s a r

  said_start : (b v w : ℕ) (r : Answer) → Comes (start b v w) r → r.number ≡ 0 → Spoke s b r.run
  unfolding refuse done entering sending in_round live is_fresh is_running
  said_start b v w r (refused k f) e = absurd (omega arith)
  said_start b v w r (moved c x (starts _ _ _ hb k hv hw mb c₆ c₇)) e = record {
    bench = _;
    run_is = refl;
    one_more = record { sent_more = one_last (s b) (Round 1 v w); same_taken = λ f. refl; same_noticed = λ f. refl; live_back = λ q. rw k refl };
    was_live = rw k refl;
  }

  said_abstain : (b : ℕ) (r : Answer) → Comes (abstain b) r → r.number ≡ 0 → Spoke s b r.run
  unfolding refuse done parting sending in_state live is_fresh is_running
  said_abstain b r (refused k f) e = absurd (omega arith)
  said_abstain b r (moved c x (abstains _ hb k)) e = record {
    bench = _;
    run_is = refl;
    one_more = record { sent_more = one_last (s b) Out; same_taken = λ f. refl; same_noticed = λ f. refl; live_back = λ q. rw k refl };
    was_live = rw k refl;
  }

  said_turn : (b : ℕ) (r : Answer) → Comes (turn b) r → r.number ≡ 0 → Spoke s b r.run × ((s b).state ≡ running)
  unfolding refuse done deciding parting choosing advancing entering sending in_state in_round live is_fresh is_running
  said_turn b r (refused k f) e = absurd (omega arith)
  said_turn b r (moved c x (concludes _ hb k d)) e = (
    record {
      bench = _;
      run_is = refl;
      one_more = record { sent_more = one_last (s b) Out; same_taken = λ f. refl; same_noticed = λ f. refl; live_back = λ q. rw k refl };
      was_live = rw k refl;
    },
    k,
  )
  said_turn b r (moved c x (advances _ hb k d t)) e = (
    record {
      bench = _;
      run_is = refl;
      one_more = record { sent_more = one_last (s b) _; same_taken = λ f. refl; same_noticed = λ f. refl; live_back = λ q. rw k refl };
      was_live = rw k refl;
    },
    k,
  )

  went_leave : (b : ℕ) (r : Answer) → Comes (leave b) r → Went s b 1 r.run
  unfolding refuse done parting sending in_state live is_fresh is_running
  went_leave b r (refused k f) = stood refl
  went_leave b r (moved c x (leaves _ hb u o)) = went _ 1 (omega arith) refl
      (record { sent_more = one_last (s b) Out; same_taken = λ f. refl; same_noticed = λ f. refl; live_back = λ q. clash (cc) })
  went_leave b r (moved c x (leaves_silent _ hb u o)) = went _ 0 (omega arith) refl
      (record { sent_more = omega arith; same_taken = λ f. refl; same_noticed = λ f. refl; live_back = λ q. clash (cc) })

  went_fail : (b : ℕ) (r : Answer) → Comes (fail b) r → Went s b 0 r.run
  unfolding refuse done in_state live is_fresh is_running
  went_fail b r (refused k f) = stood refl
  went_fail b r (moved c x (fails _ hb u)) = went _ 0 (omega arith) refl
      (record { sent_more = omega arith; same_taken = λ f. refl; same_noticed = λ f. refl; live_back = λ q. clash (cc) })

  -- ---- what is shown

  pub start_spoke : (b v w : ℕ) → (step n s (start b v w)).number ≡ 0 → Spoke s b (step n s (start b v w)).run
  start_spoke b v w = said_start b v w (step n s (start b v w)) (step_outcome n s (start b v w))

  pub abstain_spoke : (b : ℕ) → (step n s (abstain b)).number ≡ 0 → Spoke s b (step n s (abstain b)).run
  abstain_spoke b = said_abstain b (step n s (abstain b)) (step_outcome n s (abstain b))

  pub turn_spoke : (b : ℕ) → (step n s (turn b)).number ≡ 0 → Spoke s b (step n s (turn b)).run × ((s b).state ≡ running)
  turn_spoke b = said_turn b (step n s (turn b)) (step_outcome n s (turn b))

  pub leave_went : (b : ℕ) → Went s b 1 (step n s (leave b)).run
  leave_went b = went_leave b (step n s (leave b)) (step_outcome n s (leave b))

  pub fail_went : (b : ℕ) → Went s b 0 (step n s (fail b)).run
  fail_went b = went_fail b (step n s (fail b)) (step_outcome n s (fail b))
