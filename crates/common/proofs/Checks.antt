-- Why a step is refused or done: the first check that fails gives the number; where all hold the step is done. Assumes nothing.
use mathlib.Core.Path.{◌≡◌, refl}
use Prim.Native.Nat.{ℕ}
use mathlib.Core.Bool.{Bool, true, false, ◌&&◌}
use mathlib.Core.List.{List, [], ◌∷◌, ◌++◌}
use Rattle.common.specs.Checks.{Check, needs, judge, Holds, nothing, also, Fails, here, later}
use Rattle.common.specs.Lists.{OneOf, first, further}
use Rattle.common.proofs.Tests.{both}

pub first_check : (k : ℕ) (c : Bool) (l : List Check) → Holds (needs k c ∷ l) → c ≡ true
first_check k c l (also j d m e h) = e

pub other_checks : (k : ℕ) (c : Bool) (l : List Check) → Holds (needs k c ∷ l) → Holds l
other_checks k c l (also j d m e h) = h

-- ---- refused by the first that fails, or done

pub data Verdict {A : Type 0} (refuse : ℕ → A) (l : List Check) (done : A) : A → Type 0 where
  against : (k : ℕ) → Fails l k → Verdict refuse l done (refuse k)
  for : Holds l → Verdict refuse l done done

pub judged : {A : Type 0} (refuse : ℕ → A) (l : List Check) (done : A) → Verdict refuse l done (judge refuse l done)
unfolding judge
judged refuse [] done = for nothing
judged refuse (needs k false ∷ l) done = against k (here k false l refl)
judged {A} refuse (needs k true ∷ l) done = go (judge refuse l done) (judged refuse l done)
  where
    go : (r : A) → Verdict refuse l done r → Verdict refuse (needs k true ∷ l) done r
    go r (against j f) = against j (later k true l j refl f)
    go r (for h) = for (also k true l refl h)

-- the same as a rule
pub judge_ind : {A : Type 0} (P : A → Type 0) (refuse : ℕ → A) (l : List Check) (done : A)
    → ((k : ℕ) → Fails l k → P (refuse k)) → (Holds l → P done) → P (judge refuse l done)
judge_ind {A} P refuse l done f h = go (judge refuse l done) (judged refuse l done)
  where
    go : (r : A) → Verdict refuse l done r → P r
    go r (against k e) = f k e
    go r (for e) = h e

-- ---- exactly when: the answer is what the checks say

pub judge_fails : {A : Type 0} (refuse : ℕ → A) (l : List Check) (done : A) (k : ℕ) → Fails l k → judge refuse l done ≡ refuse k
unfolding judge
judge_fails refuse l done k (here j c m e) = rw e refl
judge_fails refuse l done k (later j c m i e f) = rw e (judge_fails refuse m done i f)

pub judge_holds : {A : Type 0} (refuse : ℕ → A) (l : List Check) (done : A) → Holds l → judge refuse l done ≡ done
unfolding judge
judge_holds refuse l done nothing = refl
judge_holds refuse l done (also k c m e h) = rw e (judge_holds refuse m done h)

-- what holds of both refusals and of both that are done holds of two judged by the same checks
pub judge_both : {A B : Type 0} (P : A → B → Type 0) (r : ℕ → A) (r' : ℕ → B) (d : A) (d' : B) (l : List Check)
    → ((k : ℕ) → P (r k) (r' k)) → P d d' → P (judge r l d) (judge r' l d')
unfolding judge
judge_both P r r' d d' [] f h = h
judge_both P r r' d d' (needs k true ∷ l) f h = judge_both P r r' d d' l f h
judge_both P r r' d d' (needs k false ∷ l) f h = f k

-- checks that stand behind others are asked where those hold
pub judge_append : {A : Type 0} (refuse : ℕ → A) (l m : List Check) (done : A) → judge refuse (l ++ m) done ≡ judge refuse l (judge refuse m done)
unfolding judge
judge_append refuse [] m done = refl
judge_append refuse (needs k true ∷ l) m done = judge_append refuse l m done
judge_append refuse (needs k false ∷ l) m done = refl

-- two that are the same where all checks hold are judged the same
pub judge_same : {A : Type 0} (refuse : ℕ → A) (l : List Check) (d d' : A) → (Holds l → d ≡ d') → judge refuse l d ≡ judge refuse l d'
unfolding judge
judge_same refuse [] d d' f = f nothing
judge_same refuse (needs k true ∷ l) d d' f = judge_same refuse l d d' (λ h. f (also k true l refl h))
judge_same refuse (needs k false ∷ l) d d' f = refl

-- ---- the numbers

unfoldable pub numbers : List Check → List ℕ
numbers [] = []
numbers (needs k c ∷ l) = k ∷ numbers l

pub fails_among : (l : List Check) (k : ℕ) → Fails l k → OneOf k (numbers l)
unfolding numbers
fails_among l k (here j c m e) = first (numbers m)
fails_among l k (later j c m i e f) = further j (numbers m) (fails_among m i f)

-- a test that holds of all numbers of a list holds of each
unfoldable pub all : (ℕ → Bool) → List ℕ → Bool
all p [] = true
all p (k ∷ l) = p k && all p l

pub among : (p : ℕ → Bool) (k : ℕ) (l : List ℕ) → all p l ≡ true → OneOf k l → p k ≡ true
unfolding all
among p k l e (first m) = (both (p k) (all p m) e).0
among p k l e (further j m o) = among p k m (both (p j) (all p m) e).1 o
