-- Laws of sets of benches as words, and of `some`, a visit of the places below n. Assumes nothing.
use mathlib.Core.Path.{◌≡◌, sym, ap, ◌∙◌, subst}
use mathlib.Core.Bool.{Bool, true, false, ◌||◌, or-true}
use mathlib.Core.Logic.{⊎_elim}
use Prim.Native.Nat.{ℕ, zero, suc, ◌+◌, ◌-◌, ◌/◌, ◌%◌, ◌^◌, ◌<◌, ◌≤◌}
use native.Mathlib.Nat.{mod-eq_of_lt, le_of_suc-le-suc, not-suc-le-zero, le_antisymm, eq-or-lt_of_le, zero-lt-suc, div-eq_of_lt, zero-div, div-div-eq-div-mul, mul-mod_left, pow-suc, pow-le-pow_right, lt_of_lt_of_le}
use native.Mathlib.Numerals.{add-one}
use native.Mathlib.Omega.{arith}
use lib.Dec.{eqb}
use lib.Pow.{pow-lt, pow-add}
use borrow.Author.Tests.{eq-eqb, ne_eqb}
use Rattle.common.specs.Places.{has, some}

-- a word of 32 bits has no place past 31
pub has_past : (w k : ℕ) → w < 2 ^ 32 → 31 < k → false ≡ has w k
has_past w k h l = sym (ap (λ (n : ℕ). eqb (n % 2) 1) (div-eq_of_lt (lt_of_lt_of_le h (pow-le-pow_right (zero-lt-suc 1) l))))

pub only_past : (k : ℕ) → 31 < k → 0 ≡ 2 ^ k % 2 ^ 32
only_past k l =
    let e : k ≡ (k - 32) + 32 = omega arith in
    sym (ap (λ (n : ℕ). 2 ^ n % 2 ^ 32) e ∙ ap (λ (n : ℕ). n % 2 ^ 32) (pow-add 2 (k - 32) 32) ∙ mul-mod_left (2 ^ (k - 32)) (2 ^ 32))

pub only_small : (k : ℕ) → k < 32 → 2 ^ k % 2 ^ 32 ≡ 2 ^ k
only_small k h = mod-eq_of_lt (pow-lt {j = 32} h)

-- ---- a set that is halved at each place: what is left before place i are the places from i on

module _ (w i rest : ℕ) (is : rest ≡ w / 2 ^ i) where
  pub rest_next : rest / 2 ≡ w / 2 ^ (i + 1)
  rest_next = ap (λ (n : ℕ). n / 2) is ∙ div-div-eq-div-mul w (2 ^ i) 2 ∙ ap (λ (n : ℕ). w / n) (sym (pow-suc 2 i)) ∙ ap (λ (n : ℕ). w / 2 ^ n) (sym (add-one i))

  pub rest_has : rest % 2 ≡ 1 → has w i ≡ true
  rest_has h = eq-eqb (w / 2 ^ i % 2) 1 (ap (λ (n : ℕ). n % 2) (sym is) ∙ h)

  pub rest_misses : (rest % 2 ≡ 1 → ⊥) → has w i ≡ false
  rest_misses h = ne_eqb (w / 2 ^ i % 2) 1 (λ e. h (ap (λ (n : ℕ). n % 2) is ∙ e))

  -- where nothing is left, no place from i on is in the set
  pub rest_none : rest ≡ 0 → (k : ℕ) → i ≤ k → has w k ≡ false
  rest_none z k h =
      let far : k ≡ i + (k - i) = omega arith in
      ap (λ (n : ℕ). eqb (n % 2) 1)
      (ap (λ (n : ℕ). w / 2 ^ n) far ∙ ap (λ (n : ℕ). w / n) (pow-add 2 i (k - i)) ∙ sym (div-div-eq-div-mul w (2 ^ i) (2 ^ (k - i))) ∙ ap (λ (n : ℕ). n / 2 ^ (k - i)) (sym is ∙ z) ∙ zero-div (2 ^ (k - i)))

-- ---- a visit of the places: found at k, passed k, found none

some_at : (p : ℕ → Bool) (k n : ℕ) → k < n → p k ≡ true → some p n ≡ true
unfolding some
some_at p k zero h e = absurd (not-suc-le-zero h)
some_at p k (suc n) h e =
    ⊎_elim (λ (q : k ≡ n). ap (λ (m : ℕ). p m || some p n) (sym q) ∙ simp e)
    (λ (l : k < n). ap (λ (t : Bool). p n || t) (some_at p k n l e) ∙ or-true (p n)) (eq-or-lt_of_le (le_of_suc-le-suc h))

pub some_found : (p : ℕ → Bool) (k n : ℕ) (q : Bool) → k < n → q ≡ p k → q ≡ true → true ≡ some p n
some_found p k n q h e t = sym (some_at p k n h (sym e ∙ t))

pub some_passed : (p : ℕ → Bool) (k : ℕ) (q : Bool) → q ≡ p k → q ≡ false → some p k ≡ false → some p (k + 1) ≡ false
unfolding some
some_passed p k q h t e = rw add-one (simp (sym h ∙ t, e))

pub some_none : (p : ℕ → Bool) (k n : ℕ) → k ≤ n → n ≤ k → some p k ≡ false → false ≡ some p n
some_none p k n a b e = sym (subst (λ (m : ℕ). some p m ≡ false) (le_antisymm a b) e)
