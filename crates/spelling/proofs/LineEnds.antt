-- Where a line ends: at the text's end or at byte 10. What has no byte 10 and stands up to such an end is the line. Assumes nothing.
use Prim.Native.Nat.{ℕ, suc, ◌+◌, ◌/◌, ◌%◌, ◌≤◌, ◌<◌}
use native.Mathlib.Omega.{arith}
use mathlib.Core.Bool.{Bool, true, false, cond, false≢true}
use mathlib.Core.List.{List, [], ◌∷◌, ◌++◌}
use mathlib.Core.Path.{◌≡◌, refl, sym, ap, ◌∙◌}
use lib.Dec.{eqb, leb, lit≤}
use lib.ListN.{length, get_or, drop, drop_of_length-le, take-append-drop}
use lib.Seq.{take_at}
use borrow.Author.Tests.{ne_eqb, eqb-true}
use Rattle.common.proofs.Tests.{split, clash}
use Rattle.spelling.specs.Numbers.{leads, digits}
use Rattle.spelling.specs.Storing.{places}
use Rattle.spelling.specs.Fields.{digit_at, line_length, line_at}
use Rattle.spelling.proofs.Places.{head_at, here, past, cut, Spans}

pub data Ends : List ℕ → Type 0 where
  at_end : Ends []
  at_ten : (l : List ℕ) → Ends (10 ∷ l)

-- ---- what stands at an end, and what is an end

pub ends_byte : (text : List ℕ) (at : ℕ) {rest : List ℕ} → Ends rest → drop at text ≡ rest → (10 ≤ digit_at text at) × (get_or text at 0 ≤ 10)
unfolding digit_at
ends_byte text at at_end e =
    let z : get_or text at 0 ≡ 0 = head_at text at ∙ ap (λ (l : List ℕ). get_or l 0 0) e in
    (rw z (lit≤ tt), omega arith)
ends_byte text at (at_ten l) e =
    let z : get_or text at 0 ≡ 10 = here text at e in
    (rw z (lit≤ tt), omega arith)

module _ (text : List ℕ) (end : ℕ) where
  pub ends_last : length text ≤ end → Ends (drop end text)
  ends_last h = let z : drop end text ≡ [] = drop_of_length-le text h in rw z at_end

  pub ends_next : end < length text → get_or text end 0 ≡ 10 → Ends (drop end text)
  ends_next h t =
      let z : drop end text ≡ 10 ∷ drop (end + 1) text = cut text end h ∙ ap (λ (c : ℕ). c ∷ drop (end + 1) text) t in
      rw z (at_ten (drop (end + 1) text))

  pub ends_not : end < length text → (get_or text end 0 ≡ 10 → ⊥) → Ends (drop end text) → ⊥
  ends_not h t n = other (drop end text) n (cut text end h)
    where
      other : (l : List ℕ) → Ends l → l ≡ get_or text end 0 ∷ drop (end + 1) text → ⊥
      other [] at_end g = clash (cc)
      other (c ∷ l) (at_ten m) g = t (cc)

-- ---- what has no byte 10

unfoldable pub no_ten : List ℕ → Bool
no_ten [] = true
no_ten (c ∷ l) = cond (eqb c 10) false (no_ten l)

pub ten_append : (a b : List ℕ) → no_ten a ≡ true → no_ten b ≡ true → no_ten (a ++ b) ≡ true
unfolding no_ten
ten_append [] b p q = q
ten_append (c ∷ a) b p q = split (eqb c 10) (λ e. absurd (false≢true (rw e at p))) (λ e. rw e (ten_append a b (rw e at p) q))

ten_digit : (x : ℕ) → no_ten ((48 + x) ∷ []) ≡ true
unfolding no_ten
ten_digit x = rw (ne_eqb (48 + x) 10 (λ e. omega arith)) refl

ten_leads : (ps : List ℕ) (n : ℕ) → no_ten (leads ps n) ≡ true
unfolding no_ten leads
ten_leads [] n = refl
ten_leads (p ∷ ps) n = split (leb p n) (λ e. rw (e, ne_eqb (48 + n / p % 10) 10 (λ z. omega arith)) (ten_leads ps n)) (λ e. rw e (ten_leads ps n))

pub ten_digits : (n : ℕ) → no_ten (digits n) ≡ true
unfolding digits
ten_digits n = ten_append (leads places n) _ (ten_leads places n) (ten_digit (n % 10))

ten_length : (w rest : List ℕ) → no_ten w ≡ true → Ends rest → line_length (w ++ rest) ≡ length w
unfolding no_ten line_length
ten_length [] [] h at_end = refl
ten_length [] (c ∷ l) h (at_ten m) = refl
ten_length (c ∷ w) rest h n = split (eqb c 10) (λ e. absurd (false≢true (rw e at h))) (λ e. rw e (ap suc (ten_length w rest (rw e at h) n)))

-- ---- a line where it stands in its text

-- what stands up to an end is the line
module _ (text : List ℕ) (at : ℕ) (w : List ℕ) (end : ℕ) (p : Spans text at w end) (t : no_ten w ≡ true) (n : Ends (drop end text)) where
  spans_length : line_length (drop at text) ≡ length w
  spans_length = ap line_length p.stands ∙ ten_length w (drop end text) t n

  pub spans_line : line_at text at ≡ w
  unfolding line_at
  spans_line = rw (spans_length, p.stands) (take_at w (drop end text) (length w) refl)

  pub spans_end : at + line_length (drop at text) ≡ end
  spans_end = omega (arith, spans_length, p.place)

front_ends : (l : List ℕ) → Ends (drop (line_length l) l)
unfolding line_length
front_ends [] = at_end
front_ends (c ∷ l) = split (eqb c 10) (λ e. rw (e, eqb-true c 10 e) (at_ten l)) (λ e. rw e (front_ends l))

-- the line stands there, and ends
pub line_stands : (text : List ℕ) (at : ℕ) (w : List ℕ) → line_at text at ≡ w
    → (rest : List ℕ) × (drop at text ≡ w ++ rest) × Ends rest × Ends (drop (at + length w) text)
unfolding line_at
line_stands text at w is =
    let n = line_length (drop at text) in
    let rest = drop n (drop at text) in
    let e : drop at text ≡ w ++ rest = sym (take-append-drop n (drop at text)) ∙ ap (λ (z : List ℕ). z ++ rest) is in
    let q : Ends rest = front_ends (drop at text) in
    (rest, e, q, rw (past text at w e) q)
