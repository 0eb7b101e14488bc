-- A step's outcome: refused, by the first check that fails, and the run is as it was; or one of nine moves, each of which changes one bench.
-- A move carries what the checks have shown. Theorems about runs go by cases on it; `Locality` and `Answers` alone open `step` again. Assumes nothing.
use mathlib.Core.Path.{◌≡◌, refl}
use Prim.Native.Nat.{ℕ, zero, suc, ◌^◌, ◌≤◌, ◌<◌}
use mathlib.Core.Bool.{Bool, true, false, ◌||◌, false≢true}
use mathlib.Core.List.{List, [], ◌∷◌}
use native.Mathlib.Omega.{arith}
use lib.Dec.{eqb, ltb}
use borrow.Author.Tests.{eqb-false, leb-true, ltb-true, not-true}
use Rattle.published.specs.Rounds.{Run, Bench, Message, State, fresh, running, decided, abstained, left, failed, has_out, decides, settled, entering, parting, in_state, taking, taking_first, noticing, deciding, advancing, turned, leaving}
use Rattle.common.specs.Updates.{put}
use Rattle.common.specs.Worlds.{member}
use Rattle.common.specs.Benches.{is_bench, In}
use Rattle.published.specs.Rounds.{is_fresh, is_running, is_failed, is_gone, has_all, in_all, waiting, some, Step, start, abstain, leave, fail, turn, arrive, notice, checks, after, Answer, refuse, done, step}
use Rattle.common.proofs.Tests.{both, clash, split, cond_ind}
use Rattle.common.proofs.Benches.{bench_in}
use Rattle.common.proofs.Checks.{judge_ind}
use Rattle.common.specs.Checks.{Holds, nothing, also, Fails}
use Rattle.published.proofs.Numbers.{refusal_range}

-- ---- states

-- fresh or running: the bench still takes messages and notices
unfoldable pub live : State → Bool
live k = is_fresh k || is_running k

-- not failed
abbrev pub Up : State → Type 0
Up k = k ≡ failed → ⊥

pub fresh_live : {k : State} → k ≡ fresh → live k ≡ true
unfolding live is_fresh
fresh_live e = cc

pub running_live : {k : State} → k ≡ running → live k ≡ true
unfolding live is_fresh is_running
running_live e = cc

pub live_up : (k : State) → live k ≡ true → Up k
unfolding live is_fresh is_running
live_up k e q = clash (cc)

pub here_up : (k : State) → is_gone k ≡ false → Up k
unfolding is_gone
here_up k e q = clash (cc)

pub fresh_is : (k : State) → is_fresh k ≡ true → k ≡ fresh
unfolding is_fresh
fresh_is fresh e = refl
fresh_is running e = absurd (false≢true e)
fresh_is decided e = absurd (false≢true e)
fresh_is abstained e = absurd (false≢true e)
fresh_is left e = absurd (false≢true e)
fresh_is failed e = absurd (false≢true e)

pub running_is : (k : State) → is_running k ≡ true → k ≡ running
unfolding is_running
running_is fresh e = absurd (false≢true e)
running_is running e = refl
running_is decided e = absurd (false≢true e)
running_is abstained e = absurd (false≢true e)
running_is left e = absurd (false≢true e)
running_is failed e = absurd (false≢true e)

pub failed_is : (k : State) → is_failed k ≡ true → k ≡ failed
unfolding is_failed
failed_is fresh e = absurd (false≢true e)
failed_is running e = absurd (false≢true e)
failed_is decided e = absurd (false≢true e)
failed_is abstained e = absurd (false≢true e)
failed_is left e = absurd (false≢true e)
failed_is failed e = refl

-- not failed, as the test says it
pub up_not_failed : (k : State) → Up k → is_failed k ≡ false
up_not_failed k u = split (is_failed k) (λ e. absurd (u (failed_is k e))) (λ e. e)

-- ---- moves

-- the step is done: bench b becomes x
pub data Move (n : ℕ) (s : Run) : Step → ℕ → Bench → Type 0 where
  starts : (b v w : ℕ) → In n b → (s b).state ≡ fresh → v ≤ 65535 → w < 2 ^ n → member b w ≡ true → has_all n s w ≡ true → in_all n s b ≡ true
      → Move n s (start b v w) b (entering 1 v w (s b))
  abstains : (b : ℕ) → In n b → (s b).state ≡ fresh → Move n s (abstain b) b (parting abstained (s b))
  leaves : (b : ℕ) → In n b → is_gone (s b).state ≡ false → has_out (s b).sent ≡ false → Move n s (leave b) b (parting left (s b))
  leaves_silent : (b : ℕ) → In n b → is_gone (s b).state ≡ false → has_out (s b).sent ≡ true → Move n s (leave b) b (in_state left (s b))
  fails : (b : ℕ) → In n b → is_gone (s b).state ≡ false → Move n s (fail b) b (in_state failed (s b))
  concludes : (b : ℕ) → In n b → (s b).state ≡ running → decides n b (s b) ≡ true → Move n s (turn b) b (deciding (s b))
  advances : (b : ℕ) → In n b → (s b).state ≡ running → decides n b (s b) ≡ false → settled n b (s b) ≡ true
      → Move n s (turn b) b (advancing n b (s b))
  takes : (b f : ℕ) (m : Message) (q : List Message) → In n b → In n f → (b ≡ f → ⊥) → live (s b).state ≡ true → (s b).noticed f ≡ false → waiting s b f ≡ m ∷ q
      → Move n s (arrive b f) b (taking f m (s b))
  notices : (b f : ℕ) → In n b → In n f → (b ≡ f → ⊥) → live (s b).state ≡ true → (s f).state ≡ failed → (s b).noticed f ≡ false
      → Move n s (notice b f) b (noticing f (s b))

pub data Outcome (n : ℕ) (s : Run) (a : Step) : Answer → Type 0 where
  refused : (k : ℕ) → Fails (checks n s a) (suc k) → Outcome n s a (refuse (suc k) s)
  moved : (b : ℕ) (x : Bench) → Move n s a b x → Outcome n s a (done (put s b x))

module _ (n : ℕ) (s : Run) where
  -- where a step's checks hold, it is a move
  abbrev Moved : Step → Type 0
  Moved a = Holds (checks n s a) → Outcome n s a (done (after n s a))

  start_moves : (b v w : ℕ) → Moved (start b v w)
  unfolding checks after
  start_moves b v w (also i₁ c₁ l₁ e₁ (also i₃ c₃ l₃ e₃ (also i₄ c₄ l₄ e₄ (also i₅ c₅ l₅ e₅ (also i₆ c₆ l₆ e₆ (also i₇ c₇ l₇ e₇ nothing)))))) =
      let p = both (ltb w (2 ^ n)) (member b w) e₅ in
      moved b _ (starts b v w (bench_in n b e₁) (fresh_is (s b).state e₃) (leb-true v 65535 e₄) (ltb-true w (2 ^ n) p.0) p.1 e₆ e₇)

  abstain_moves : (b : ℕ) → Moved (abstain b)
  unfolding checks after
  abstain_moves b (also i₁ c₁ l₁ e₁ (also i₃ c₃ l₃ e₃ nothing)) = moved b _ (abstains b (bench_in n b e₁) (fresh_is (s b).state e₃))

  leave_moves : (b : ℕ) → Moved (leave b)
  unfolding checks after leaving
  leave_moves b (also i₁ c₁ l₁ e₁ (also i₃ c₃ l₃ e₃ nothing)) =
      cond_ind (λ x. Outcome n s (leave b) (done (put s b x))) (has_out (s b).sent) (in_state left (s b)) (parting left (s b))
      (λ e. moved b _ (leaves_silent b (bench_in n b e₁) (not-true (is_gone (s b).state) e₃) e))
      (λ e. moved b _ (leaves b (bench_in n b e₁) (not-true (is_gone (s b).state) e₃) e))

  fail_moves : (b : ℕ) → Moved (fail b)
  unfolding checks after
  fail_moves b (also i₁ c₁ l₁ e₁ (also i₃ c₃ l₃ e₃ nothing)) = moved b _ (fails b (bench_in n b e₁) (not-true (is_gone (s b).state) e₃))

  turn_moves : (b : ℕ) → Moved (turn b)
  unfolding checks after turned
  turn_moves b (also i₁ c₁ l₁ e₁ (also i₃ c₃ l₃ e₃ (also i₁₁ c₁₁ l₁₁ e₁₁ nothing))) =
      cond_ind (λ x. Outcome n s (turn b) (done (put s b x))) (decides n b (s b)) (deciding (s b)) (advancing n b (s b))
      (λ e. moved b _ (concludes b (bench_in n b e₁) (running_is (s b).state e₃) e))
      (λ e. moved b _ (advances b (bench_in n b e₁) (running_is (s b).state e₃) e e₁₁))

  arrive_moves : (b f : ℕ) → Moved (arrive b f)
  unfolding checks after live
  arrive_moves b f (also i₁ c₁ l₁ e₁ (also i₂ c₂ l₂ e₂ (also i₃ c₃ l₃ e₃ (also i₉ c₉ l₉ e₉ (also i₈ c₈ l₈ e₈ nothing))))) =
      let p = both (is_bench n b) (is_bench n f) e₁ in take (waiting s b f) refl e₈ (bench_in n b p.0) (bench_in n f p.1)
    where
      take : (l : List Message) → waiting s b f ≡ l → some l ≡ true → In n b → In n f → Outcome n s (arrive b f) (done (put s b (taking_first f l (s b))))
      take [] z e hb hf = clash (unfold some in cc)
      take (m ∷ q) z e hb hf = unfold taking_first in
          moved b _ (takes b f m q hb hf (eqb-false b f (not-true (eqb b f) e₂)) e₃ (not-true ((s b).noticed f) e₉) z)

  notice_moves : (b f : ℕ) → Moved (notice b f)
  unfolding checks after live
  notice_moves b f (also i₁ c₁ l₁ e₁ (also i₂ c₂ l₂ e₂ (also i₃ c₃ l₃ e₃ (also i₁₀ c₁₀ l₁₀ e₁₀ (also i₉ c₉ l₉ e₉ nothing))))) =
      let p = both (is_bench n b) (is_bench n f) e₁ in
      moved b _ (notices b f (bench_in n b p.0) (bench_in n f p.1) (eqb-false b f (not-true (eqb b f) e₂)) e₃ (failed_is (s f).state e₁₀) (not-true ((s b).noticed f) e₉))

  moves : (a : Step) → Moved a
  moves (start b v w) = start_moves b v w
  moves (abstain b) = abstain_moves b
  moves (leave b) = leave_moves b
  moves (fail b) = fail_moves b
  moves (turn b) = turn_moves b
  moves (arrive b f) = arrive_moves b f
  moves (notice b f) = notice_moves b f

  pub step_outcome : (a : Step) → Outcome n s a (step n s a)
  unfolding step
  step_outcome a = judge_ind (Outcome n s a) (λ k. refuse k s) (checks n s a) (done (after n s a)) positive (moves a)
    where
      positive : (k : ℕ) → Fails (checks n s a) k → Outcome n s a (refuse k s)
      positive zero f = absurd (omega (arith, refusal_range n s a zero f))
      positive (suc k) f = refused k f
