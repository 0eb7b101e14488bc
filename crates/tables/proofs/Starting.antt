-- Checks 6 and 7 of start: what the rows and the first log entries tell of the benches that started is what the published run tells.
-- Assumes nothing.
use Rattle.bench.specs.declared.Entry.{Entry}
use Rattle.bench.specs.Entries.{entry}
use mathlib.Core.Path.{◌≡◌, refl, sym}
use mathlib.Core.Bool.{Bool, true, false, cond, not, ◌&&◌, ◌||◌, or-true, not-not}
use mathlib.Core.List.{List}
use Prim.Native.Nat.{ℕ, suc}
use native.Mathlib.Omega.{arith}
use lib.Dec.{eqb, ltb}
use borrow.Author.Tests.{ne_eqb, lt-ltb}
use Rattle.published.specs.Rounds.{has_all, in_all, is_found, started_with, is_gone, find, found, absent}
use Rattle.common.specs.Worlds.{member}
use Rattle.bench.specs.declared.Bench.{Bench}
use Rattle.common.specs.Places.{has}
use Rattle.tables.specs.Rows.{rows, logs}
use Rattle.tables.specs.Steps.{lacks_at, lacks_one, lacked_at, lacked_by_one}
use Rattle.tables.specs.Runs.{bench_of, run_by, run_of}
use Rattle.tables.specs.Sound.{Fit, Sound}
use Rattle.common.proofs.Sets.{member_has, every_some}
use Rattle.tables.proofs.Lines.{line_find}
use Rattle.tables.proofs.States.{by_state, gone_is}

-- a bench that has started and has neither left nor failed is running or decided
active : (N : ℕ) (b : Bench) → Fit N b → (not (ltb 0 b.sent) || ltb 3 b.state) ≡ not (eqb b.state 1 || eqb b.state 2)
active N b f = by_state (λ n. b.state ≡ n → (not (ltb 0 b.sent) || ltb 3 n) ≡ not (eqb n 1 || eqb n 2))
    (λ e. rw (f.fresh e) refl)
    (λ e. rw (lt-ltb 0 b.sent (f.running e).1) refl)
    (λ e. rw (lt-ltb 0 b.sent (f.decided e)) refl)
    (λ e. rw (f.abstained e) refl)
    (λ e. or-true (not (ltb 0 b.sent)))
    (λ n e. let m = suc (suc (suc (suc (suc n)))) in rw (ne_eqb m 1 (omega arith), ne_eqb m 2 (omega arith), lt-ltb 3 m (omega arith)) (or-true (not (ltb 0 b.sent))))
    b.state refl

module _ (N : ℕ) (t : List Bench) (l : List (List Entry)) where
  -- the round 1 message of bench j + 1
  first_message : (j : ℕ) → find 1 (run_of t l (suc j)).sent ≡ cond (ltb 0 (rows t j).sent) (found (entry (logs l j) 0).value.0 (entry (logs l j) 0).world) absent
  unfolding run_of run_by bench_of
  first_message j = line_find (logs l j) (rows t j).sent 0 (eqb (rows t j).silent 1)

  started_is : (j : ℕ) → is_found (find 1 (run_of t l (suc j)).sent) ≡ ltb 0 (rows t j).sent
  started_is j = rw (first_message j) (go (ltb 0 (rows t j).sent) (entry (logs l j) 0).value.0 (entry (logs l j) 0).world)
    where
      go : (c : Bool) (v w : ℕ) → is_found (cond c (found v w) absent) ≡ c
      go true v w = unfold is_found in refl
      go false v w = unfold is_found in refl

  left_is : (j : ℕ) → is_gone (run_of t l (suc j)).state ≡ ltb 3 (rows t j).state
  unfolding run_of run_by bench_of
  left_is j = gone_is (rows t j).state

  pub lacks_is : Sound N t l → (w : ℕ) → has_all N (run_of t l) w ≡ not (lacks_one N t w)
  unfolding has_all lacks_one lacks_at
  lacks_is s w = every_some (lacks_at t w) (λ i. not (is_found (find 1 (run_of t l i).sent)) || is_gone (run_of t l i).state || member i w) N
      (λ j h. rw (started_is j, left_is j, member_has j w, active N (rows t j) (s.ok.fit j)) (not_and (eqb (rows t j).state 1 || eqb (rows t j).state 2) (has w j)))
    where
      not_and : (a m : Bool) → (not a || m) ≡ not (a && not m)
      not_and true true = refl
      not_and true false = refl
      not_and false m = refl

  pub lacked_is : (k : ℕ) → in_all N (run_of t l) (suc k) ≡ not (lacked_by_one N t l k)
  unfolding in_all lacked_by_one lacked_at
  lacked_is k = every_some (lacked_at t l k) (λ i. started_with (suc k) (find 1 (run_of t l i).sent)) N
      (λ j h. rw (first_message j) (go (ltb 0 (rows t j).sent) (entry (logs l j) 0).value.0 (entry (logs l j) 0).world))
    where
      go : (c : Bool) (v w : ℕ) → started_with (suc k) (cond c (found v w) absent) ≡ not (c && not (has w k))
      go true v w = unfold started_with in rw (member_has k w) (sym (not-not (has w k)))
      go false v w = unfold started_with in refl
