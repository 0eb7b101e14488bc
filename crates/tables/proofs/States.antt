-- The tests of a bench's state number are the published tests of the state that it stands for. Assumes nothing.
use mathlib.Core.Path.{◌≡◌, refl, sym}
use mathlib.Core.Bool.{not, ◌||◌}
use Prim.Native.Nat.{ℕ, zero, suc}
use native.Mathlib.Omega.{arith}
use lib.Dec.{eqb, ltb}
use borrow.Author.Tests.{ne_eqb, lt-ltb}
use Rattle.published.specs.Rounds.{is_fresh, is_running, is_failed, is_gone}
use Rattle.tables.specs.Runs.{state_of}

-- by cases on the number: five states, and 5 and above, which is failed
pub by_state : (P : ℕ → Type 0) → P 0 → P 1 → P 2 → P 3 → P 4 → ((n : ℕ) → P (suc (suc (suc (suc (suc n)))))) → (n : ℕ) → P n
by_state P p₀ p₁ p₂ p₃ p₄ p₅ zero = p₀
by_state P p₀ p₁ p₂ p₃ p₄ p₅ (suc zero) = p₁
by_state P p₀ p₁ p₂ p₃ p₄ p₅ (suc (suc zero)) = p₂
by_state P p₀ p₁ p₂ p₃ p₄ p₅ (suc (suc (suc zero))) = p₃
by_state P p₀ p₁ p₂ p₃ p₄ p₅ (suc (suc (suc (suc zero)))) = p₄
by_state P p₀ p₁ p₂ p₃ p₄ p₅ (suc (suc (suc (suc (suc n))))) = p₅ n

pub fresh_is : (n : ℕ) → is_fresh (state_of n) ≡ eqb n 0
unfolding is_fresh state_of
fresh_is = by_state (λ n. is_fresh (state_of n) ≡ eqb n 0) refl refl refl refl refl (λ n. sym (ne_eqb (suc (suc (suc (suc (suc n))))) 0 (omega arith)))

pub running_is : (n : ℕ) → is_running (state_of n) ≡ eqb n 1
unfolding is_running state_of
running_is = by_state (λ n. is_running (state_of n) ≡ eqb n 1) refl refl refl refl refl (λ n. sym (ne_eqb (suc (suc (suc (suc (suc n))))) 1 (omega arith)))

pub live_is : (n : ℕ) → (is_fresh (state_of n) || is_running (state_of n)) ≡ not (ltb 1 n)
unfolding is_fresh is_running state_of
live_is = by_state (λ n. (is_fresh (state_of n) || is_running (state_of n)) ≡ not (ltb 1 n)) refl refl refl refl refl
    (λ n. rw (lt-ltb 1 (suc (suc (suc (suc (suc n))))) (omega arith)) refl)

pub gone_is : (n : ℕ) → is_gone (state_of n) ≡ ltb 3 n
unfolding is_gone state_of
gone_is = by_state (λ n. is_gone (state_of n) ≡ ltb 3 n) refl refl refl refl refl (λ n. sym (lt-ltb 3 (suc (suc (suc (suc (suc n))))) (omega arith)))

pub failed_is : (n : ℕ) → is_failed (state_of n) ≡ ltb 4 n
unfolding is_failed state_of
failed_is = by_state (λ n. is_failed (state_of n) ≡ ltb 4 n) refl refl refl refl refl (λ n. sym (lt-ltb 4 (suc (suc (suc (suc (suc n))))) (omega arith)))
