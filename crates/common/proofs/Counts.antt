-- Laws of counts: one more bench, tests that hold of more, and of all but some. By induction over the benches. Assumes nothing.
use mathlib.Core.Path.{◌≡◌, refl}
use Prim.Native.Nat.{ℕ, zero, suc, ◌+◌, ◌≤◌}
use mathlib.Core.Bool.{Bool, true, false, cond}
use native.Mathlib.Numerals.{add-one}
use native.Mathlib.Omega.{arith}
use lib.Dec.{eqb}
use borrow.Author.Tests.{eqb-true, eqb-false}
use Rattle.common.specs.Benches.{In}
use Rattle.common.specs.Counts.{count}
use Rattle.common.proofs.Tests.{split}

-- one more bench, as a loop counts
pub count_next : (i : ℕ) (p : ℕ → Bool) → count (i + 1) p ≡ cond (p (i + 1)) 1 0 + count i p
unfolding count
count_next i p = rw add-one

-- where the test q holds of every bench of which p holds
module _ (p q : ℕ → Bool) (up : (i : ℕ) → p i ≡ true → q i ≡ true) where
  one_more : (i : ℕ) → cond (p i) 1 0 ≤ cond (q i) 1 0
  one_more i = split (p i) (λ e. rw (e, up i e) (let g : 1 ≤ 1 = omega arith in g)) (λ e. rw e (omega arith))

  pub count_mono : (n : ℕ) → count n p ≤ count n q
  unfolding count
  count_mono zero = omega arith
  count_mono (suc n) = omega (arith, one_more (suc n), count_mono n)

  -- and of one more
  pub count_more : (n i : ℕ) → In n i → p i ≡ false → q i ≡ true → suc (count n p) ≤ count n q
  unfolding count
  count_more zero i hi e f = absurd (omega arith)
  count_more (suc n) i hi e f = split (eqb i (suc n))
      (λ z. let g = eqb-true i (suc n) z in rw (rw g at e, rw g at f) (omega (arith, count_mono n)))
      (λ z. let g = eqb-false i (suc n) z in omega (arith, one_more (suc n), count_more n i (omega arith) e f))

pub count_all : (n : ℕ) → count n (λ i. true) ≡ n
unfolding count
count_all zero = refl
count_all (suc n) = omega (arith, count_all n)

pub count_le : (n : ℕ) (p : ℕ → Bool) → count n p ≤ n
count_le n p = omega (arith, count_mono p (λ j. true) (λ j z. refl) n, count_all n)

-- where the test fails of one bench
pub count_lt : (n : ℕ) (p : ℕ → Bool) (i : ℕ) → In n i → p i ≡ false → suc (count n p) ≤ n
count_lt n p i hi e = omega (arith, count_more p (λ j. true) (λ j z. refl) n i hi e refl, count_all n)
