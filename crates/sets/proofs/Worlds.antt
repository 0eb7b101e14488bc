-- Laws of worlds as words: which of them names only benches up to n, as the code asks it of a number m that is n. Assumes nothing.
use mathlib.Core.Path.{◌≡◌, sym}
use mathlib.Core.Bool.{true}
use Prim.Native.Nat.{ℕ, ◌/◌, ◌*◌, ◌^◌, ◌<◌}
use native.Mathlib.Nat.{lt_of_lt_of_le, pow-le-pow_right, zero-lt-suc, div-eq_of_lt, div-lt_iff_lt-mul}
use native.Mathlib.Omega.{arith}
use lib.Dec.{eqb, ltb}
use lib.Pow.{pow_pos}
use borrow.Author.Tests.{lt-ltb, ltb-true, ltb-false, eq-eqb, ne_eqb}
use Rattle.common.proofs.Tests.{split}

shifted : (w m : ℕ) → eqb (w / 2 ^ m) 0 ≡ ltb w (2 ^ m)
shifted w m = split (ltb w (2 ^ m))
    (λ e. rw e (eq-eqb (w / 2 ^ m) 0 (div-eq_of_lt (ltb-true w (2 ^ m) e))))
    (λ e. rw e (ne_eqb (w / 2 ^ m) 0 (λ z. let l : w < 1 * 2 ^ m = (div-lt_iff_lt-mul (pow_pos m)).0 (omega (arith, z)) in absurd (omega (arith, l, ltb-false w (2 ^ m) e)))))

module _ (w n m : ℕ) (is_m : m ≡ n) where
  -- a word has no bit above 31
  pub fits_all : w < 2 ^ 32 → 31 < m → true ≡ ltb w (2 ^ n)
  fits_all h l = rw (← is_m) (sym (lt-ltb w (2 ^ m) (lt_of_lt_of_le h (pow-le-pow_right (zero-lt-suc 1) l))))

  pub fits_shift : eqb (w / 2 ^ m) 0 ≡ ltb w (2 ^ n)
  fits_shift = rw (← is_m) (shifted w m)
