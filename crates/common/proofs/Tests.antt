-- Laws of tests: conjunctions, implications, and proofs by cases on a test. Every other file rests on these. Assumes nothing.
use mathlib.Core.Path.{◌≡◌, refl, sym, ◌∙◌}
use Prim.Native.Nat.{ℕ, ◌<◌, ◌≤◌}
use mathlib.Core.Bool.{Bool, true, false, cond, not, ◌&&◌, ◌||◌, false≢true}
use native.Mathlib.Omega.{arith}
use lib.Dec.{eqb, ltb}
use borrow.Author.Tests.{eq-eqb, ne_eqb, lt-ltb, le-ltb}

pub both : (a b : Bool) → (a && b) ≡ true → (a ≡ true) × (b ≡ true)
both true true e = (refl, refl)
both true false e = absurd (false≢true e)
both false b e = absurd (false≢true e)

pub implies : (a b : Bool) → (not a || b) ≡ true → a ≡ true → b ≡ true
implies true b e h = e
implies false b e h = absurd (false≢true h)

pub imply : (a b : Bool) → (a ≡ true → b ≡ true) → (not a || b) ≡ true
imply true b f = f refl
imply false b f = refl

pub not_implied : (a b : Bool) → (not a || b) ≡ false → (a ≡ true) × (b ≡ false)
not_implied true b e = (refl, e)
not_implied false b e = absurd (false≢true (sym e))

-- what follows from 0 ≡ 1, which `cc` proves of any two equations that clash
pub clash : {A : Type 0} → ◌≡◌ {A = ℕ} 0 1 → A
clash e = absurd (omega arith)

-- by cases on a test, with its equation
pub split : {A : Type 0} (c : Bool) → (c ≡ true → A) → (c ≡ false → A) → A
split true f g = f refl
split false f g = g refl

-- the same where what is to be shown changes with the test
pub cond_ind : {A : Type 0} (P : A → Type 0) (c : Bool) (x y : A) → (c ≡ true → P x) → (c ≡ false → P y) → P (cond c x y)
cond_ind P true x y f g = f refl
cond_ind P false x y f g = g refl

-- what was tested of a number that was read is so of what it was read from
module _ {s x : ℕ} (is : s ≡ x) where
  pub word_eq : (n : ℕ) → s ≡ n → eqb x n ≡ true
  word_eq n h = eq-eqb x n (sym is ∙ h)

  pub word_ne : (n : ℕ) → (s ≡ n → ⊥) → eqb x n ≡ false
  word_ne n h = ne_eqb x n (λ e. h (is ∙ e))

  pub word_above : (n : ℕ) → n < s → ltb n x ≡ true
  word_above n h = lt-ltb n x (rw (← is) h)

  pub word_within : (n : ℕ) → s ≤ n → ltb n x ≡ false
  word_within n h = le-ltb n x (rw (← is) h)
