-- W9: with n benches no round above 2 n + 1 is ever sent. After f failures some round r up to 2 f + 1 is one that no failed bench went past, so by theorem 5.4
-- nobody is past r + 2; one more failure makes it r + 2. Who goes on is one of the n and has not failed, so f is below n. Assumes nothing.
use mathlib.Core.Path.{◌≡◌}
use Prim.Native.Nat.{ℕ, suc, ◌+◌, ◌*◌, ◌≤◌}
use mathlib.Core.Bool.{Bool, true, false}
use native.Mathlib.Omega.{arith}
use Rattle.published.specs.Rounds.{Run, running, is_failed, decides, settled}
use Rattle.published.specs.Pause.{NoRoundAbove}
use Rattle.common.specs.Counts.{count}
use Rattle.common.proofs.Counts.{count_lt}
use Rattle.common.proofs.Tests.{clash}
use Rattle.published.proofs.Moves.{up_not_failed}
use Rattle.published.proofs.Invariant.{Base, running_bench}
use Rattle.published.proofs.Pause.{stops}
use Rattle.published.proofs.Standing.{NoneFailedAbove}

abbrev pub lost : Run → ℕ → Bool
lost s i = is_failed (s i).state

abbrev pub failures : ℕ → Run → ℕ
failures n s = count n (lost s)

-- how far rounds have come, by failures and by benches
pub record Few (n : ℕ) (s : Run) : Type 0 where
  -- a round that no failed bench went past
  pub floor : ℕ
  pub pos : 1 ≤ floor
  pub few : floor ≤ 2 * failures n s + 1
  pub fallen : NoneFailedAbove floor s
  pub rounds : NoRoundAbove (floor + 2) s
  pub all : NoRoundAbove (2 * n + 1) s

module _ (n : ℕ) (s : Run) (g : Base n s) (h : Few n s) where
  pub goes_to : (b : ℕ) → (s b).state ≡ running → decides n b (s b) ≡ false → settled n b (s b) ≡ true → suc (s b).round ≤ 2 * n + 1
  goes_to b k d t =
      omega (
        arith,
        stops n s g h.floor h.pos h.fallen h.rounds b k d t,
        h.few,
        count_lt n (lost s) b (running_bench n s g b k) (up_not_failed (s b).state (λ z. clash (cc))),
      )
