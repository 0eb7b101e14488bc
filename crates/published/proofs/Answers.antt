-- What a step answers, by its checks: the number of the first that fails, or 0 and the run after. From it turn's number by cases, when an arrival and
-- a notice are done, and that 4 cannot be for a value up to 65,535. Assumes nothing.
use mathlib.Core.Path.{◌≡◌, ap}
use Prim.Native.Nat.{ℕ, ◌≤◌}
use mathlib.Core.Bool.{true, false, not, ◌&&◌}
use lib.Dec.{eqb}
use borrow.Author.Tests.{le-leb, ne_eqb}
use Rattle.published.specs.Rounds.{Run, running, is_running, is_failed, waiting, some, settled, start, turn, arrive, notice, Step, checks, after, Answer, refuse, done, step}
use Rattle.common.specs.Benches.{In, is_bench}
use Rattle.common.specs.Checks.{Holds, nothing, also, Fails, here, later}
use Rattle.common.proofs.Tests.{split, clash}
use Rattle.common.proofs.Benches.{in_bench}
use Rattle.common.proofs.Checks.{judge_ind, judge_fails, judge_holds}
use Rattle.published.proofs.Moves.{live}

module _ (n : ℕ) (s : Run) where
  pub step_fails : (a : Step) (k : ℕ) → Fails (checks n s a) k → step n s a ≡ refuse k s
  unfolding step
  step_fails a k f = judge_fails (λ k. refuse k s) (checks n s a) (done (after n s a)) k f

  pub step_holds : (a : Step) → Holds (checks n s a) → step n s a ≡ done (after n s a)
  unfolding step
  step_holds a h = judge_holds (λ k. refuse k s) (checks n s a) (done (after n s a)) h

  number_fails : (a : Step) (k : ℕ) → Fails (checks n s a) k → (step n s a).number ≡ k
  unfolding refuse
  number_fails a k f = ap (λ (r : Answer). r.number) (step_fails a k f)

  number_holds : (a : Step) → Holds (checks n s a) → (step n s a).number ≡ 0
  unfolding done
  number_holds a h = ap (λ (r : Answer). r.number) (step_holds a h)

  -- ---- turn

  -- turn's number for a running bench
  pub data Says (b : ℕ) : Type 0 where
    says_0 : settled n b (s b) ≡ true → (step n s (turn b)).number ≡ 0 → Says b
    says_11 : settled n b (s b) ≡ false → (step n s (turn b)).number ≡ 11 → Says b

  pub turn_says : (b : ℕ) → In n b → (s b).state ≡ running → Says b
  unfolding checks is_running
  turn_says b hb k = let e₁ = in_bench n b hb in let e₃ : is_running (s b).state ≡ true = cc in split (settled n b (s b))
      (λ t. says_0 t (number_holds (turn b) (also 1 _ _ e₁ (also 3 _ _ e₃ (also 11 _ _ t nothing)))))
      (λ t. says_11 t (number_fails (turn b) 11 (later 1 _ _ 11 e₁ (later 3 _ _ 11 e₃ (here 11 _ _ t)))))

  -- ---- arrive and notice, of a bench that may still start or runs

  module _ (b f : ℕ) (hb : In n b) (hf : In n f) (ne : b ≡ f → ⊥) (l : live (s b).state ≡ true) (g : (s b).noticed f ≡ false) where
    two_benches : (is_bench n b && is_bench n f) ≡ true
    two_benches = cc (in_bench n b hb, in_bench n f hf)

    others : not (eqb b f) ≡ true
    others = cc (ne_eqb b f ne)

    open_line : not ((s b).noticed f) ≡ true
    open_line = cc

    pub arrive_holds : some (waiting s b f) ≡ true → Holds (checks n s (arrive b f))
    unfolding checks live
    arrive_holds z = also 1 _ _ two_benches (also 2 _ _ others (also 3 _ _ l (also 9 _ _ open_line (also 8 _ _ z nothing))))

    pub notice_holds : is_failed (s f).state ≡ true → Holds (checks n s (notice b f))
    unfolding checks live
    notice_holds z = also 1 _ _ two_benches (also 2 _ _ others (also 3 _ _ l (also 10 _ _ z (also 9 _ _ open_line nothing))))

    pub arrive_done : some (waiting s b f) ≡ true → (step n s (arrive b f)).number ≡ 0
    arrive_done z = number_holds (arrive b f) (arrive_holds z)

    pub notice_done : is_failed (s f).state ≡ true → (step n s (notice b f)).number ≡ 0
    notice_done z = number_holds (notice b f) (notice_holds z)

  -- ---- a number that cannot be

  start_fails : (b v w k : ℕ) → v ≤ 65535 → Fails (checks n s (start b v w)) k → k ≡ 4 → ⊥
  unfolding checks
  start_fails b v w k h (here _ _ _ e) q = clash (cc)
  start_fails b v w k h (later _ _ _ _ e (here _ _ _ e₃)) q = clash (cc)
  start_fails b v w k h (later _ _ _ _ e (later _ _ _ _ e₃ (here _ _ _ e₄))) q = clash (cc (le-leb v 65535 h))
  start_fails b v w k h (later _ _ _ _ e (later _ _ _ _ e₃ (later _ _ _ _ e₄ (here _ _ _ e₅)))) q = clash (cc)
  start_fails b v w k h (later _ _ _ _ e (later _ _ _ _ e₃ (later _ _ _ _ e₄ (later _ _ _ _ e₅ (here _ _ _ e₆))))) q = clash (cc)
  start_fails b v w k h (later _ _ _ _ e (later _ _ _ _ e₃ (later _ _ _ _ e₄ (later _ _ _ _ e₅ (later _ _ _ _ e₆ (here _ _ _ e₇)))))) q = clash (cc)
  start_fails b v w k h (later _ _ _ _ e (later _ _ _ _ e₃ (later _ _ _ _ e₄ (later _ _ _ _ e₅ (later _ _ _ _ e₆ (later _ _ _ _ _ f)))))) q = elim f [ ]

  -- a start with a value up to 65,535 is never refused with 4
  pub start_never_4 : (b v w : ℕ) → v ≤ 65535 → (step n s (start b v w)).number ≡ 4 → ⊥
  unfolding step refuse done
  start_never_4 b v w h = judge_ind (λ r. r.number ≡ 4 → ⊥) (λ k. refuse k s) (checks n s (start b v w)) (done (after n s (start b v w)))
      (λ k f. start_fails b v w k h f) (λ f q. clash (cc))
