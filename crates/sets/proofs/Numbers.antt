-- Laws of bench numbers and their places: 1 to n are benches. Assumes nothing.
use mathlib.Core.Path.{◌≡◌, refl, ◌∙◌}
use mathlib.Core.Bool.{true}
use Prim.Native.Nat.{ℕ, suc, ◌-◌, ◌<◌, ◌≤◌}
use native.Mathlib.Omega.{arith}
use borrow.Author.Tests.{le-leb}
use Rattle.common.specs.Benches.{is_bench}
use Rattle.common.specs.Places.{place_of}
use Rattle.common.proofs.Benches.{bench_in}
use Rattle.kinds.specs.Sizes.{benches_of, places}
use Rattle.kinds.specs.declared.Size.{Size}
use Rattle.kinds.proofs.Sizes.{benches_fit}

module _ (n : ℕ) where
  pub bench_first : (f : ℕ) → is_bench n f ≡ true → 1 ≤ f
  bench_first f e = (bench_in n f e).0

  -- a bench has a place below n
  pub bench_place : (f : ℕ) → is_bench n f ≡ true → f - 1 < n
  bench_place f e = omega (arith, bench_in n f e)

-- a bench among n has a place in every table of m places or more
pub bench_wider : (n m : ℕ) → n ≤ m → (f : ℕ) → is_bench n f ≡ true → is_bench m f ≡ true
unfolding is_bench
bench_wider n m h f e = let i = bench_in n f e in rw (le-leb 1 f i.0, le-leb f m (omega (arith, i.1))) refl

-- and a bench of a run has one
pub bench_placed : (z : Size) (f : ℕ) → is_bench (benches_of z) f ≡ true → f - 1 < places
bench_placed z f e = omega (arith, bench_place (benches_of z) f e, benches_fit z)

-- a bench stands right behind its place
pub place_next : (m f r : ℕ) → r ≡ place_of m f → is_bench m f ≡ true → suc r ≡ f
unfolding place_of
place_next m f r e h = let p : r ≡ f - 1 = e ∙ rw h refl in omega (arith, bench_first m f h)
