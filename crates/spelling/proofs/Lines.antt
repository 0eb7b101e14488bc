-- Where a line ends: the length of the line at the front of a text, and what the front of a text says of it. Assumes nothing.
use Prim.Native.Nat.{ℕ, suc, ◌+◌, ◌≤◌, ◌<◌}
use native.Mathlib.Omega.{arith}
use mathlib.Core.Bool.{Bool, true, false, false≢true, ◌||◌}
use mathlib.Core.List.{List, [], ◌∷◌}
use mathlib.Core.Path.{◌≡◌, refl, sym, ◌∙◌}
use lib.Dec.{eqb}
use lib.ListN.{length, get_or, drop, drop_of_length-le}
use borrow.Author.Tests.{eq-eqb, ne_eqb, eqb-false, lt-ltb, le-ltb}
use Rattle.common.proofs.Tests.{cond_ind}
use Rattle.spelling.proofs.Places.{cut}
use Rattle.spelling.specs.Fields.{line_length, next_from, next_at}

-- ---- the end, byte by byte, as the code looks for it

module _ (text : List ℕ) (i : ℕ) where
  length_out : length text ≤ i → line_length (drop i text) ≡ 0
  unfolding line_length
  length_out h = rw (drop_of_length-le text h) refl

  length_here : i < length text → get_or text i 0 ≡ 10 → line_length (drop i text) ≡ 0
  unfolding line_length
  length_here h e = rw (cut text i h) (rw (eq-eqb (get_or text i 0) 10 e) refl)

  length_more : i < length text → (get_or text i 0 ≡ 10 → ⊥) → line_length (drop i text) ≡ suc (line_length (drop (i + 1) text))
  unfolding line_length
  length_more h e = rw (cut text i h) (rw (ne_eqb (get_or text i 0) 10 e) refl)

-- the line from `from` on ends where that from i on does
pub record Passed (text : List ℕ) (from i : ℕ) : Type 0 where
  pub same_end : from + line_length (drop from text) ≡ i + line_length (drop i text)

module _ (text : List ℕ) (from : ℕ) where
  pub passed_none : Passed text from from
  passed_none = record { same_end = refl }

  module _ (i : ℕ) (p : Passed text from i) where
    pub passed_more : i < length text → (get_or text i 0 ≡ 10 → ⊥) → Passed text from (i + 1)
    passed_more h e = record { same_end = omega (arith, p.same_end, length_more text i h e) }

    pub passed_ten : i < length text → get_or text i 0 ≡ 10 → i ≡ from + line_length (drop from text)
    passed_ten h e = omega (arith, p.same_end, length_here text i h e)

    pub passed_all : length text ≤ i → i ≡ from + line_length (drop from text)
    passed_all h = omega (arith, p.same_end, length_out text i h)

    -- behind n bytes of which none is 10
    pub passed_many : (n : ℕ) → line_length (drop i text) ≡ n + line_length (drop (i + n) text) → Passed text from (i + n)
    passed_many n e = record { same_end = omega (arith, p.same_end, e) }

    pub passed_on : {r : ℕ} → r ≡ i + line_length (drop i text) → r ≡ from + line_length (drop from text)
    passed_on e = e ∙ sym p.same_end

-- ---- many bytes at a time

none_of : (a b c d : Bool) → (((a || b) || c) || d) ≡ false → (a ≡ false) × (b ≡ false) × (c ≡ false) × (d ≡ false)
none_of true b c d e = absurd (false≢true (sym e))
none_of false true c d e = absurd (false≢true (sym e))
none_of false false true d e = absurd (false≢true (sym e))
none_of false false false d e = (refl, refl, refl, e)

module _ (text : List ℕ) (i : ℕ) where
  abbrev ten : ℕ → Bool
  ten k = eqb (get_or text (i + k) 0) 10

  -- a byte behind k others
  one_more : (k : ℕ) → i + k < length text → ten k ≡ false → line_length (drop (i + k) text) ≡ suc (line_length (drop (i + (k + 1)) text))
  one_more k h e =
      let a : i + (k + 1) ≡ i + k + 1 = omega arith in
      rw a (length_more text (i + k) h (eqb-false (get_or text (i + k) 0) 10 e))

  pub four_passed : i + 4 ≤ length text → (((eqb (get_or text i 0) 10 || ten 1) || ten 2) || ten 3) ≡ false → line_length (drop i text) ≡ 4 + line_length (drop (i + 4) text)
  four_passed h e =
      let p = none_of (eqb (get_or text i 0) 10) (ten 1) (ten 2) (ten 3) e in
      omega (
        arith,
        length_more text i (omega arith) (eqb-false (get_or text i 0) 10 p.0),
        one_more 1 (omega arith) p.1,
        one_more 2 (omega arith) p.2,
        one_more 3 (omega arith) p.3,
      )

  -- four times four
  abbrev Four : ℕ → Bool → Type 0
  Four k r = r ≡ false → line_length (drop (i + k) text) ≡ 4 + line_length (drop (i + k + 4) text)

  next_four : (k : ℕ) {r : Bool} → Four k r → r ≡ false → line_length (drop (i + k) text) ≡ 4 + line_length (drop (i + (k + 4)) text)
  next_four k p e = let a : i + (k + 4) ≡ i + k + 4 = omega arith in rw a (p e)

  pub sixteen_passed : {a b c d : Bool} → (a ≡ false → line_length (drop i text) ≡ 4 + line_length (drop (i + 4) text)) → Four 4 b → Four 8 c → Four 12 d
      → (((a || b) || c) || d) ≡ false → line_length (drop i text) ≡ 16 + line_length (drop (i + 16) text)
  sixteen_passed {a} {b} {c} {d} p q r s e =
      let z = none_of a b c d e in
      omega (arith, p z.0, next_four 4 q z.1, next_four 8 r z.2, next_four 12 s z.3)

pub length_within : (l : List ℕ) → line_length l ≤ length l
unfolding line_length
length_within [] = omega arith
length_within (c ∷ l) = let h = length_within l in cond_ind (λ n. n ≤ suc (length l)) (eqb c 10) 0 (suc (line_length l)) (λ e. omega arith) (λ e. omega arith)

-- ---- the place of the next line

module _ (text : List ℕ) (at : ℕ) {end : ℕ} (e : end ≡ at + line_length (drop at text)) where
  pub place_more : end < length text → end + 1 ≡ next_at text at
  unfolding next_at next_from
  place_more h = rw (← e, lt-ltb end (length text) h) refl

  pub place_last : length text ≤ end → end ≡ next_at text at
  unfolding next_at next_from
  place_last h = rw (← e, le-ltb end (length text) h) refl
