-- Places of a text, by what stands from there on: `drop at text ≡ w ++ rest`, and `Spans` where w is known with the place behind it. Assumes nothing.
use Prim.Native.Nat.{ℕ, ◌+◌, ◌≤◌, ◌<◌}
use native.Mathlib.Nat.{add-zero}
use native.Mathlib.Omega.{arith}
use native.Mathlib.Numerals.{add-one}
use mathlib.Core.List.{List, [], ◌∷◌, ◌++◌, append_assoc}
use mathlib.Core.Logic.{◌⊎◌, inl, inr, ⊎_elim}
use mathlib.Core.Path.{◌≡◌, refl, sym, ap, ◌∙◌}
use lib.Dec.{leb}
use lib.ListN.{length, get_or, drop, length-append, get_or-eq_default}
use lib.Seq.{drop-cons, drop-drop, get_or-drop, drop-append_seam}
use borrow.Author.Tests.{leb-true, leb-false}
use Rattle.common.proofs.Tests.{split}

pub le_or_lt : (a b : ℕ) → (a ≤ b) ⊎ (b < a)
le_or_lt a b = split (leb a b) (λ e. inl (leb-true a b e)) (λ e. inr (leb-false a b e))

pub head_at : (text : List ℕ) (at : ℕ) → get_or text at 0 ≡ get_or (drop at text) 0 0
head_at text at = ap (λ (k : ℕ). get_or text k 0) (sym (add-zero at)) ∙ sym (get_or-drop at text 0 0)

pub here : (text : List ℕ) (at : ℕ) {c : ℕ} {l : List ℕ} → drop at text ≡ c ∷ l → get_or text at 0 ≡ c
here text at e = head_at text at ∙ ap (λ (z : List ℕ). get_or z 0 0) e

pub past : (text : List ℕ) (at : ℕ) (w : List ℕ) {rest : List ℕ} → drop at text ≡ w ++ rest → drop (at + length w) text ≡ rest
past text at w {rest} e = sym (drop-drop (length w) at text) ∙ ap (drop (length w)) e ∙ drop-append_seam w rest

pub past_one : (text : List ℕ) (at : ℕ) {c : ℕ} {l : List ℕ} → drop at text ≡ c ∷ l → drop (at + 1) text ≡ l
past_one text at {c} {l} e = past text at (c ∷ []) e

pub cut : (text : List ℕ) (at : ℕ) → at < length text → drop at text ≡ get_or text at 0 ∷ drop (at + 1) text
cut text at h = rw add-one (drop-cons text at 0 h)

-- a byte other than 0 stands within the text
pub byte_within : (text : List ℕ) (at : ℕ) → 0 < get_or text at 0 → at + 1 ≤ length text
byte_within text at h =
    ⊎_elim (λ (out : length text ≤ at). let z : get_or text at 0 ≡ 0 = get_or-eq_default text 0 out in omega arith)
    (λ (w : at < length text). omega arith) (le_or_lt (length text) at)

-- w stands in the text from `at` on, and `next` is the place behind it
pub record Spans (text : List ℕ) (at : ℕ) (w : List ℕ) (next : ℕ) : Type 0 where
  pub stands : drop at text ≡ w ++ drop next text
  pub place : next ≡ at + length w

pub spans_then : {text : List ℕ} {at next last : ℕ} {w v : List ℕ} → Spans text at w next → Spans text next v last → Spans text at (w ++ v) last
spans_then {text = text} {last = last} {w = w} {v = v} p q =
    record {
      stands = p.stands ∙ ap (λ (z : List ℕ). w ++ z) q.stands ∙ sym (append_assoc w v (drop last text));
      place = omega (arith, p.place, q.place, length-append w v);
    }

pub spans_byte : (text : List ℕ) (at : ℕ) {c : ℕ} → at < length text → get_or text at 0 ≡ c → Spans text at (c ∷ []) (at + 1)
spans_byte text at h e = record { stands = cut text at h ∙ ap (λ (z : ℕ). z ∷ drop (at + 1) text) e; place = refl }
