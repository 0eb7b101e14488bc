-- What is printed of answers: how many bytes it takes, and how the code stores it part by part; and examples of it. Assumes nothing.
use Prim.Native.Nat.{ℕ, ◌+◌, ◌≤◌}
use native.Mathlib.Omega.{arith}
use mathlib.Core.List.{[], ◌∷◌}
use mathlib.Core.Path.{◌≡◌, refl}
use lib.Dec.{eqb}
use lib.ListN.{length, length-append}
use Rattle.common.proofs.Tests.{split}
use Rattle.spelling.specs.Numbers.{ascii, digits, leads}
use Rattle.spelling.specs.Answers.{answer_text, totals, refusal_of, refusal_text}
use Rattle.spelling.proofs.Decimals.{digits_length}

-- ---- the front of an answer's line

pub answer_length : (k a : ℕ) → length (answer_text k a) ≡ 13 + length (digits k) + length (digits a)
answer_length k a = simp length-append (omega arith)

-- ---- the last line

pub totals_length : (n r : ℕ) → length (totals n r) ≡ 16 + length (digits n) + length (digits r)
totals_length n r = simp length-append (omega arith)

pub totals_short : (n r : ℕ) → length (totals n r) ≤ 36
totals_short n r = omega (arith, totals_length n r, digits_length n, digits_length r)

pub totals_measured : (n r : ℕ) {k m : ℕ} → k ≡ length (digits n) → m ≡ length (digits r) → 16 + k + m ≡ length (totals n r)
totals_measured n r p q = omega (arith, totals_length n r)

pub refusal_one : (a n : ℕ) → n ≡ refusal_of a → n ≤ 1
refusal_one a n e = rw e (split (eqb a 0) (λ h. rw h (omega arith)) (λ h. rw h (omega arith)))

-- ---- a refusal

pub refusal_length : (k : ℕ) → length (refusal_text k) ≡ 9 + length (digits k)
refusal_length k = simp length-append (omega arith)

pub refusal_measured : (k : ℕ) {m : ℕ} → m ≡ length (digits k) → 9 + m ≡ length (refusal_text k)
refusal_measured k e = omega (arith, refusal_length k)

-- ---- examples, by computation

pub answer_example : answer_text 10 22 ≡ ascii "line=10 answer=22"
unfolding digits leads
answer_example = refl

pub totals_example : totals 4294967295 0 ≡ ascii "lines=4294967295 refused=0\n"
unfolding digits leads
totals_example = refl

pub refusal_example : refusal_text 23 ≡ ascii "refused=23\n"
unfolding digits leads
refusal_example = refl

pub counted_example : refusal_of 0 ∷ refusal_of 1 ∷ refusal_of 20 ∷ [] ≡ 0 ∷ 1 ∷ 1 ∷ []
counted_example = refl
