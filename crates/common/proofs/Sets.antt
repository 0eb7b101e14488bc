-- Laws of sets of benches held as numbers: what they have, and that they are the worlds of `published`, where place j is bench j + 1.
-- Assumes nothing.
use mathlib.Core.Path.{◌≡◌, refl, sym, ap, ◌∙◌}
use mathlib.Core.Bool.{Bool, true, false, not, ◌&&◌, ◌||◌, or-true, or-false}
use Prim.Native.Nat.{ℕ, zero, suc, ◌/◌, ◌%◌, ◌^◌, ◌<◌, min, max}
use native.Mathlib.Nat.{mod-lt, zero-lt-suc, zero-div, pow-suc, mul-div_cancel, mul-mod_left, lt_of_le_of_lt}
use native.Mathlib.Omega.{arith}
use lib.Dec.{eqb, eqb-zero-suc, eqb-suc-zero, eqb-suc-suc}
use lib.Bits.{bit_and, bit_or, and_step, or_step, and_shr, or_shr, and_le_l}
use borrow.Author.Tests.{eqb-true, eqb-false, eq-eqb, ne_eqb}
use Rattle.common.specs.Worlds.{bit, member, within}
use Rattle.common.specs.Benches.{every, In}
use Rattle.common.proofs.Tests.{clash, split}
use Rattle.common.proofs.Worlds.{within_get, within_make, bit_pow}
use Rattle.common.specs.Places.{has, some}

-- ---- members

pub member_has : (j w : ℕ) → member (suc j) w ≡ has w j
unfolding member
member_has j w = bit_pow j w

pub has_none : (j : ℕ) → has 0 j ≡ false
has_none j = ap (λ (n : ℕ). eqb (n % 2) 1) (zero-div (2 ^ j))

-- digit by digit
has_first : (a : ℕ) → has a 0 ≡ eqb (a % 2) 1
unfolding bit
has_first a = sym (bit_pow 0 a)

has_next : (a k : ℕ) → has a (suc k) ≡ has (a / 2) k
unfolding bit
has_next a k = sym (bit_pow (suc k) a) ∙ bit_pow k (a / 2)

-- ---- both, either, one alone

digit : (a : ℕ) → a % 2 < 2
digit a = mod-lt a (zero-lt-suc 1)

least_digit : (x y : ℕ) → x < 2 → y < 2 → eqb (min x y) 1 ≡ (eqb x 1 && eqb y 1)
least_digit zero y hx hy = ne_eqb (min 0 y) 1 (omega arith)
least_digit (suc zero) zero hx hy = refl
least_digit (suc zero) (suc zero) hx hy = refl
least_digit (suc zero) (suc (suc y)) hx hy = absurd (omega arith)
least_digit (suc (suc x)) y hx hy = absurd (omega arith)

most_digit : (x y : ℕ) → x < 2 → y < 2 → eqb (max x y) 1 ≡ (eqb x 1 || eqb y 1)
most_digit zero zero hx hy = refl
most_digit zero (suc zero) hx hy = refl
most_digit zero (suc (suc y)) hx hy = absurd (omega arith)
most_digit (suc zero) y hx hy = eq-eqb (max 1 y) 1 (omega arith)
most_digit (suc (suc x)) y hx hy = absurd (omega arith)

pub has_and : (a b k : ℕ) → has (bit_and a b) k ≡ (has a k && has b k)
has_and a b k =
    let x = a / 2 ^ k in let y = b / 2 ^ k in
    let e : bit_and x y % 2 ≡ min (x % 2) (y % 2) = omega (arith, and_step x y, digit x, digit y) in
    rw (and_shr a b k, e) (least_digit (x % 2) (y % 2) (digit x) (digit y))

pub has_or : (a b k : ℕ) → has (bit_or a b) k ≡ (has a k || has b k)
has_or a b k =
    let x = a / 2 ^ k in let y = b / 2 ^ k in
    let e : bit_or x y % 2 ≡ max (x % 2) (y % 2) = omega (arith, or_step x y, digit x, digit y) in
    rw (or_shr a b k, e) (most_digit (x % 2) (y % 2) (digit x) (digit y))

has_only : (j k : ℕ) → has (2 ^ j) k ≡ eqb j k
has_only zero zero = refl
has_only zero (suc k) = has_next 1 k ∙ has_none k ∙ sym (eqb-zero-suc k)
has_only (suc j) zero = has_first (2 ^ suc j) ∙ rw (pow-suc 2 j, mul-mod_left (2 ^ j) 2) (sym (eqb-suc-zero j))
has_only (suc j) (suc k) = has_next (2 ^ suc j) k ∙ rw (pow-suc 2 j, mul-div_cancel (2 ^ j) (zero-lt-suc 1)) (has_only j k ∙ sym (eqb-suc-suc j k))

-- bench j joins the set a
pub joined_same : (a j : ℕ) → has (bit_or a (2 ^ j)) j ≡ true
joined_same a j = has_or a (2 ^ j) j ∙ rw (has_only j j, eq-eqb j j refl) (or-true (has a j))

pub joined_other : (a j i : ℕ) → (i ≡ j → ⊥) → has (bit_or a (2 ^ j)) i ≡ has a i
joined_other a j i h = has_or a (2 ^ j) i ∙ rw (has_only j i, ne_eqb j i (λ p. h (sym p))) (or-false (has a i))

-- ---- equal by their members

same_digit : (x y : ℕ) → x < 2 → y < 2 → eqb x 1 ≡ eqb y 1 → x ≡ y
same_digit x y hx hy e = split (eqb x 1)
    (λ c. let p = eqb-true x 1 c in let q = eqb-true y 1 (sym e ∙ c) in omega arith)
    (λ c. let p = eqb-false x 1 c in let q = eqb-false y 1 (sym e ∙ c) in omega arith)

-- two sets of places below n with the same members are equal
pub same_members : (n a b : ℕ) → a < 2 ^ n → b < 2 ^ n → ((k : ℕ) → k < n → has a k ≡ has b k) → a ≡ b
same_members zero a b ha hb h = omega arith
same_members (suc n) a b ha hb h =
    let low = same_digit (a % 2) (b % 2) (digit a) (digit b) (sym (has_first a) ∙ h 0 (omega arith) ∙ has_first b) in
    let high = same_members n (a / 2) (b / 2) (omega arith) (omega arith) (λ k l. sym (has_next a k) ∙ h (suc k) (omega arith) ∙ has_next b k) in
    omega arith

-- ---- within, by one test of numbers

and_is : (u w k : ℕ) → bit_and u w ≡ u → has u k ≡ true → has w k ≡ true
and_is u w k e h = second (has u k) (has w k) (sym (has_and u w k) ∙ ap (λ (n : ℕ). has n k) e) h
  where
    second : (x y : Bool) → (x && y) ≡ x → x ≡ true → y ≡ true
    second true y p q = p
    second false y p q = clash (cc)

and_within : (n u w : ℕ) → u < 2 ^ n → ((k : ℕ) → k < n → has u k ≡ true → has w k ≡ true) → bit_and u w ≡ u
and_within n u w l h = same_members n (bit_and u w) u (lt_of_le_of_lt (and_le_l u w) l) l (λ k m. has_and u w k ∙ first (has u k) (has w k) (h k m))
  where
    first : (x y : Bool) → (x ≡ true → y ≡ true) → (x && y) ≡ x
    first true y f = f refl
    first false y f = refl

pub within_is : (n u w : ℕ) → u < 2 ^ n → eqb (bit_and u w) u ≡ within n u w
within_is n u w h = split (eqb (bit_and u w) u)
    (λ e. e ∙ sym (within_make n u w (inside (eqb-true (bit_and u w) u e))))
    (λ e. e ∙ outside (within n u w) refl (eqb-false (bit_and u w) u e))
  where
    inside : bit_and u w ≡ u → (i : ℕ) → In n i → member i u ≡ true → member i w ≡ true
    inside e zero hi m = absurd (omega arith)
    inside e (suc j) hi m = member_has j w ∙ and_is u w j e (sym (member_has j u) ∙ m)

    outside : (c : Bool) → within n u w ≡ c → (bit_and u w ≡ u → ⊥) → false ≡ within n u w
    outside true c ne = absurd (ne (and_within n u w h (λ j l m. sym (member_has j w) ∙ within_get n u w c (suc j) (omega arith) (member_has j u ∙ m))))
    outside false c ne = sym c

-- ---- a test of every bench, by a test of some place

pub every_some : (p q : ℕ → Bool) (n : ℕ) → ((j : ℕ) → j < n → q (suc j) ≡ not (p j)) → every n q ≡ not (some p n)
unfolding some every
every_some p q zero f = refl
every_some p q (suc n) f = rw (f n (omega arith), every_some p q n (λ j h. f j (omega arith))) (neither (p n) (some p n))
  where
    neither : (a c : Bool) → (not c && not a) ≡ not (a || c)
    neither true true = refl
    neither true false = refl
    neither false true = refl
    neither false false = refl
