-- Who is still there after one step. Any step but leave and fail leaves its bench there, with all that it has noticed, and none brings a bench back;
-- leave and fail are done where the bench is still there. By cases on the move, and by the checks. Assumes nothing.
use mathlib.Core.Path.{◌≡◌, refl, sym, ap}
use Prim.Native.Nat.{ℕ}
use mathlib.Core.Bool.{true, false, not}
use Rattle.published.specs.Rounds.{Run, Bench, left, failed, has_out, is_gone, is_fresh, is_running, in_state, in_round, sending, taking, noticing, choosing, entering, parting, deciding, advancing, leaving, Step, start, abstain, leave, fail, turn, arrive, notice, checks, after, Answer, refuse, done, step}
use Rattle.common.specs.Benches.{In}
use Rattle.common.specs.Checks.{nothing, also}
use Rattle.common.specs.Updates.{put}
use Rattle.common.proofs.Tests.{cond_ind}
use Rattle.common.proofs.Updates.{put_ind, put_self}
use Rattle.common.proofs.Benches.{in_bench}
use Rattle.published.proofs.Moves.{live, Move, starts, abstains, takes, notices, concludes, advances, Outcome, refused, moved, step_outcome}
use Rattle.published.proofs.Answers.{step_holds}

-- from s to r bench b becomes another and nobody else changes; who was there still is, nobody comes back, and what was noticed stays so
pub record Remains (s : Run) (b : ℕ) (r : Run) : Type 0 where
  pub bench : Bench
  pub run_is : r ≡ put s b bench
  pub here_still : is_gone (s b).state ≡ false → is_gone bench.state ≡ false
  pub live_back : live bench.state ≡ true → live (s b).state ≡ true
  pub noticed_still : (f : ℕ) → (s b).noticed f ≡ true → bench.noticed f ≡ true

-- the steps of bench b after which it is still there
pub data Staying (b : ℕ) : Step → Type 0 where
  by_start : (v w : ℕ) → Staying b (start b v w)
  by_abstain : Staying b (abstain b)
  by_turn : Staying b (turn b)
  by_arrive : (f : ℕ) → Staying b (arrive b f)
  by_notice : (f : ℕ) → Staying b (notice b f)

module _ (n : ℕ) (s : Run) where
  remains_move : (b : ℕ) (a : Step) (c : ℕ) (x : Bench) → Staying b a → Move n s a c x → Remains s b (put s c x)
  unfolding entering parting sending in_state in_round choosing deciding advancing taking noticing is_gone live is_fresh is_running
  remains_move b a c x (by_start v w) (starts _ _ _ hb k hv hw mb c₆ c₇) =
      record { bench = _; run_is = refl; here_still = λ z. refl; live_back = λ z. rw k refl; noticed_still = λ f z. z }
  remains_move b a c x by_abstain (abstains _ hb k) = record { bench = _; run_is = refl; here_still = λ z. refl; live_back = λ z. rw k refl; noticed_still = λ f z. z }
  remains_move b a c x by_turn (concludes _ hb k d) = record { bench = _; run_is = refl; here_still = λ z. refl; live_back = λ z. rw k refl; noticed_still = λ f z. z }
  remains_move b a c x by_turn (advances _ hb k d t) = record { bench = _; run_is = refl; here_still = λ z. refl; live_back = λ z. rw k refl; noticed_still = λ f z. z }
  remains_move b a c x (by_arrive f) (takes _ _ m q hb hf ne l z e) = record { bench = _; run_is = refl; here_still = λ z. z; live_back = λ z. z; noticed_still = λ f z. z }
  remains_move b a c x (by_notice f) (notices _ _ hb hf ne l e z) = record {
    bench = _;
    run_is = refl;
    here_still = λ z. z;
    live_back = λ z. z;
    noticed_still = λ g y. put_ind (λ v. v ≡ true) (s b).noticed f true g (λ e. refl) (λ e. y);
  }

  remains_outcome : (b : ℕ) (a : Step) (r : Answer) → Staying b a → Outcome n s a r → Remains s b r.run
  unfolding refuse done
  remains_outcome b a r st (refused k f) =
      record { bench = s b; run_is = sym (put_self s b); here_still = λ z. z; live_back = λ z. z; noticed_still = λ f z. z }
  remains_outcome b a r st (moved c x m) = remains_move b a c x st m

  pub remains : (b : ℕ) (a : Step) → Staying b a → Remains s b (step n s a).run
  remains b a st = remains_outcome b a (step n s a) st (step_outcome n s a)

  -- ---- a bench that is still there leaves or fails when it is told to

  module _ (b : ℕ) (hb : In n b) (u : is_gone (s b).state ≡ false) where
    still_here : not (is_gone (s b).state) ≡ true
    still_here = cc

    pub leave_leaves : (y : Bench) × ((step n s (leave b)).run ≡ put s b y) × (y.state ≡ left)
    unfolding checks after done leaving in_state parting sending
    leave_leaves = (
      leaving (s b),
      ap (λ (r : Answer). r.run) (step_holds n s (leave b) (also 1 _ _ (in_bench n b hb) (also 3 _ _ still_here nothing))),
      cond_ind (λ y. y.state ≡ left) (has_out (s b).sent) (in_state left (s b)) (parting left (s b)) (λ e. refl) (λ e. refl),
    )

    pub fail_fails : (y : Bench) × ((step n s (fail b)).run ≡ put s b y) × (y.state ≡ failed)
    unfolding checks after done in_state
    fail_fails = (in_state failed (s b), ap (λ (r : Answer). r.run) (step_holds n s (fail b) (also 1 _ _ (in_bench n b hb) (also 3 _ _ still_here nothing))), refl)
