-- Laws of worlds: tests of every member, the world of a test, bits. Assumes nothing.
use mathlib.Core.Path.{◌≡◌, ◌∙◌}
use Prim.Native.Nat.{ℕ, zero, suc, ◌+◌, ◌*◌, ◌/◌, ◌%◌, ◌^◌, ◌<◌}
use mathlib.Core.Bool.{Bool, true, false, cond, not, ◌||◌}
use native.Mathlib.Nat.{div-div-eq-div-mul, pow-succ'}
use native.Mathlib.Omega.{arith}
use lib.Dec.{eqb}
use borrow.Author.Tests.{eq-eqb, ne_eqb}
use Rattle.common.specs.Worlds.{bit, member, every_in, within, world_of}
use Rattle.common.proofs.Tests.{implies, imply, not_implied, split}
use Rattle.common.proofs.Benches.{every_get, every_make, every_fails}
use Rattle.common.specs.Benches.{In}

-- ---- every member

pub every_in_get : (n w : ℕ) (p : ℕ → Bool) (i : ℕ) → every_in n w p ≡ true → In n i → member i w ≡ true → p i ≡ true
unfolding every_in
every_in_get n w p i e h m = implies (member i w) (p i) (every_get n (λ j. not (member j w) || p j) i e h) m

pub every_in_make : (n w : ℕ) (p : ℕ → Bool) → ((i : ℕ) → In n i → member i w ≡ true → p i ≡ true) → every_in n w p ≡ true
unfolding every_in
every_in_make n w p f = every_make n (λ i. not (member i w) || p i) (λ i h. imply (member i w) (p i) (f i h))

-- where the test fails of some member, one of which it fails
pub every_in_fails : (n w : ℕ) (p : ℕ → Bool) → every_in n w p ≡ false → (i : ℕ) × In n i × (member i w ≡ true) × (p i ≡ false)
unfolding every_in
every_in_fails n w p e =
    let r = every_fails n (λ i. not (member i w) || p i) e in let z = not_implied (member r.0 w) (p r.0) r.2 in (r.0, r.1, z.0, z.1)

-- each bench of the world u is one of the world w
abbrev pub Sub : ℕ → ℕ → ℕ → Type 0
Sub n u w = (j : ℕ) → In n j → member j u ≡ true → member j w ≡ true

pub within_get : (n u w : ℕ) → within n u w ≡ true → Sub n u w
unfolding within
within_get n u w e j h m = every_in_get n u (λ i. member i w) j e h m

pub within_make : (n u w : ℕ) → Sub n u w → within n u w ≡ true
unfolding within
within_make n u w f = every_in_make n u (λ i. member i w) f

-- ---- the world of a test

bit_world_of : (n : ℕ) (p : ℕ → Bool) (i : ℕ) → i < n → bit i (world_of n p) ≡ p (suc i)
unfolding bit world_of
bit_world_of zero p i h = absurd (omega arith)
bit_world_of (suc n) p zero h = go (p 1)
  where
    go : (c : Bool) → eqb ((cond c 1 0 + 2 * world_of n (λ i. p (suc i))) % 2) 1 ≡ c
    go true = eq-eqb ((1 + 2 * world_of n (λ i. p (suc i))) % 2) 1 (omega arith)
    go false = ne_eqb ((0 + 2 * world_of n (λ i. p (suc i))) % 2) 1 (omega arith)
bit_world_of (suc n) p (suc i) h = rw (half (p 1)) (bit_world_of n (λ i. p (suc i)) i (omega arith))
  where
    half : (c : Bool) → (cond c 1 0 + 2 * world_of n (λ i. p (suc i))) / 2 ≡ world_of n (λ i. p (suc i))
    half true = omega arith
    half false = omega arith

pub member_world_of : (n : ℕ) (p : ℕ → Bool) (i : ℕ) → In n i → member i (world_of n p) ≡ p i
unfolding member
member_world_of n p zero h = absurd (omega arith)
member_world_of n p (suc i) h = bit_world_of n p i (omega arith)

pub world_of_lt : (n : ℕ) (p : ℕ → Bool) → world_of n p < 2 ^ n
unfolding world_of
world_of_lt zero p = omega arith
world_of_lt (suc n) p = let ih = world_of_lt n (λ i. p (suc i)) in
    split (p 1) (λ e. rw e (omega arith)) (λ e. rw e (omega arith))

-- ---- bits and places, as code counts them

pub bit_pow : (i w : ℕ) → bit i w ≡ eqb (w / 2 ^ i % 2) 1
unfolding bit
bit_pow zero w = let e : w / 1 ≡ w = omega arith in rw e
bit_pow (suc i) w = bit_pow i (w / 2) ∙ rw (div-div-eq-div-mul w 2 (2 ^ i), ← pow-succ' 2 i)
