-- Laws of the numbers 1 to n, and of tests of each of them. Assumes nothing.
use mathlib.Core.Path.{◌≡◌, refl}
use Prim.Native.Nat.{ℕ, zero, suc, ◌+◌}
use mathlib.Core.Bool.{Bool, true, false, ◌&&◌}
use native.Mathlib.Numerals.{add-one}
use native.Mathlib.Omega.{arith}
use lib.Dec.{eqb, leb}
use borrow.Author.Tests.{eqb-true, eqb-false, leb-true, le-leb}
use Rattle.common.specs.Benches.{In, is_bench, every}
use Rattle.common.proofs.Tests.{both, clash, split}

pub bench_in : (n b : ℕ) → is_bench n b ≡ true → In n b
unfolding is_bench
bench_in n b e = let p = both (leb 1 b) (leb b n) e in (leb-true 1 b p.0, leb-true b n p.1)

pub in_bench : (n b : ℕ) → In n b → is_bench n b ≡ true
unfolding is_bench
in_bench n b h = rw (le-leb 1 b h.0, le-leb b n h.1) refl

-- ---- every bench

pub every_get : (n : ℕ) (p : ℕ → Bool) (i : ℕ) → every n p ≡ true → In n i → p i ≡ true
unfolding every
every_get zero p i e h = absurd (omega arith)
every_get (suc n) p i e h = split (eqb i (suc n))
    (λ q. rw (eqb-true i (suc n) q) (both (every n p) (p (suc n)) e).1)
    (λ q. let ne = eqb-false i (suc n) q in every_get n p i (both (every n p) (p (suc n)) e).0 (omega arith))

pub every_make : (n : ℕ) (p : ℕ → Bool) → ((i : ℕ) → In n i → p i ≡ true) → every n p ≡ true
unfolding every
every_make zero p f = refl
every_make (suc n) p f = let a = every_make n p (λ i h. f i (omega arith)) in let b = f (suc n) (omega arith) in cc

-- where the test fails of some bench, one of which it fails
pub every_fails : (n : ℕ) (p : ℕ → Bool) → every n p ≡ false → (i : ℕ) × In n i × (p i ≡ false)
unfolding every
every_fails zero p e = clash (cc)
every_fails (suc n) p e = split (p (suc n))
    (λ z. let r = every_fails n p (first_fails (every n p) (p (suc n)) e z) in (r.0, (omega arith), r.2))
    (λ z. (suc n, (omega arith), z))
  where
    first_fails : (a c : Bool) → (a && c) ≡ false → c ≡ true → a ≡ false
    first_fails true c e z = clash (cc)
    first_fails false c e z = refl

-- two tests of every bench are one test of both
pub every_both : (n : ℕ) (p q : ℕ → Bool) → every n (λ i. p i && q i) ≡ (every n p && every n q)
unfolding every
every_both zero p q = refl
every_both (suc n) p q = rw (every_both n p q) (middle (every n p) (every n q) (p (suc n)) (q (suc n)))
  where
    middle : (a b c d : Bool) → ((a && b) && (c && d)) ≡ ((a && c) && (b && d))
    middle true true c d = refl
    middle true false true d = refl
    middle true false false d = refl
    middle false b c d = refl

-- one more bench, as a loop counts
pub every_next : (i : ℕ) (p : ℕ → Bool) → every (i + 1) p ≡ (every i p && p (i + 1))
unfolding every
every_next i p = rw add-one
