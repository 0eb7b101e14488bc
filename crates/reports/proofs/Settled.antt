-- What the promise of a report function comes to: the answer and every byte of the room. It is shown of any text and any bytes as its report; where
-- the length alone must tell a report from a refusal, the report must not be empty. Assumes nothing.
use Prim.Native.Nat.{ℕ, ◌≤◌, ◌<◌}
use native.Mathlib.Omega.{arith}
use native.Mathlib.Nat.{zero-add}
use mathlib.Core.List.{List}
use mathlib.Core.Path.{◌≡◌, refl, sym, ap, ◌∙◌}
use lib.Dec.{eqb, leb}
use lib.ListN.{length, get_or, take}
use lib.Seq.{sets, length-sets}
use borrow.Author.Tests.{eq-eqb, ne_eqb, eqb-true, eqb-false, leb-true, le-leb, lt-leb}
use Rattle.common.specs.Checks.{judge}
use Rattle.common.proofs.Tests.{clash, split}
use Rattle.spelling.specs.Stored.{Stored}
use Rattle.spelling.proofs.Puts.{front, past_sets}
use Rattle.std.specs.Prelude.{Result, Ok, Err}
use Rattle.kinds.specs.declared.Refusal.{Refusal}
use Rattle.kinds.specs.declared.Refusal.TheVariants.{ShortRoom, LongText}
use Rattle.kinds.specs.Refusals.{number_of, answer_of}
use Rattle.kinds.proofs.Refusals.{same_refusal, never_done}
use Rattle.reports.specs.Reported.{length_of, longest, number_for, length_for, room_after, Reports}

module _ (text report room : List ℕ) where
  -- ---- by the checks

  number_23 : longest < length text → number_for text report room ≡ 23
  unfolding number_for judge
  number_23 h = rw (lt-leb (length text) longest h) refl

  number_22 : length text ≤ longest → length room < length report → number_for text report room ≡ 22
  unfolding number_for judge
  number_22 h g = rw (le-leb (length text) longest h, lt-leb (length report) (length room) g) refl

  pub room_enough : length text ≤ longest → length report ≤ length room → number_for text report room ≡ 0
  unfolding number_for judge
  room_enough h g = rw (le-leb (length text) longest h, le-leb (length report) (length room) g) refl

  -- 22 means that the room is short of the report
  pub never_22 : (length text ≤ longest → length report ≤ length room) → number_for text report room ≡ 22 → ⊥
  unfolding number_for judge
  never_22 f e = split (leb (length text) longest)
      (λ h. absurd (let g = leb-true (length text) longest h in let z : 22 ≡ 0 = sym e ∙ room_enough g (f g) in omega arith))
      (λ h. absurd (let z : 23 ≡ 22 = sym (rw h refl) ∙ e in omega arith))

  -- 0: the room holds the report
  fits : number_for text report room ≡ 0 → length report ≤ length room
  unfolding number_for judge
  fits e = split (leb (length text) longest)
      (λ h. split (leb (length report) (length room))
      (λ g. leb-true (length report) (length room) g)
      (λ g. clash (let z : 22 ≡ 0 = sym (rw (h, g) refl) ∙ e in omega arith)))
      (λ h. clash (let z : 23 ≡ 0 = sym (rw h refl) ∙ e in omega arith))

  -- ---- by the number

  module _ (e : number_for text report room ≡ 0) where
    done_length : length_for text report room ≡ length report
    unfolding length_for
    done_length = rw (eq-eqb (number_for text report room) 0 e) refl

    done_room : room_after text report room ≡ sets room 0 report
    unfolding room_after
    done_room = rw (eq-eqb (number_for text report room) 0 e) refl

  module _ (e : number_for text report room ≡ 0 → ⊥) where
    refused_length : length_for text report room ≡ 0
    unfolding length_for
    refused_length = rw (ne_eqb (number_for text report room) 0 e) refl

    refused_room : room_after text report room ≡ room
    unfolding room_after
    refused_room = rw (ne_eqb (number_for text report room) 0 e) refl

  -- ---- the three cases

  refused_reports : (k : Refusal) → number_for text report room ≡ number_of k → Reports text report room (Err k) room
  refused_reports k e =
      let n : number_for text report room ≡ 0 → ⊥ = λ h. never_done k (sym e ∙ h) in
      record { number = sym e; bytes = sym (refused_length n); held = sym (refused_room n) }

  pub text_long : longest < length text → Reports text report room (Err LongText) room
  text_long h = refused_reports LongText (number_23 h)

  pub room_short : length text ≤ longest → length room < length report → Reports text report room (Err ShortRoom) room
  room_short h g = refused_reports ShortRoom (number_22 h g)

  pub report_done : length text ≤ longest → length report ≤ length room → {after : List ℕ} {n : ℕ} → Stored room 0 report n after → Reports text report room (Ok n) after
  report_done h g s =
      let e = room_enough h g in
      record { number = sym e; bytes = s.place ∙ zero-add (length report) ∙ sym (done_length e); held = s.held ∙ sym (done_room e) }

  -- ---- the answer

  module _ (some : 1 ≤ length report) where
    pub zero_is_refused : (length_for text report room ≡ 0 → number_for text report room ≡ 0 → ⊥) × ((number_for text report room ≡ 0 → ⊥) → length_for text report room ≡ 0)
    zero_is_refused = (λ z e. absurd (omega (arith, done_length e)), refused_length)

    same_answer : (r r' : Result ℕ Refusal) → answer_of r ≡ number_for text report room → length_of r ≡ length_for text report room
        → answer_of r' ≡ number_for text report room → length_of r' ≡ length_for text report room → r ≡ r'
    same_answer (Ok n) (Ok m) p q p' q' = ap Ok (q ∙ sym q')
    same_answer (Ok n) (Err k) p q p' q' = absurd (never_done k (p' ∙ sym p))
    same_answer (Err k) (Ok n) p q p' q' = absurd (never_done k (p ∙ sym p'))
    same_answer (Err k) (Err j) p q p' q' = ap Err (same_refusal k j (p ∙ sym p'))

    pub report_settles : {a a' : List ℕ} {r r' : Result ℕ Refusal} → Reports text report room r a → Reports text report room r' a' → (r ≡ r') × (a ≡ a')
    report_settles {r = r} {r'} p q = (same_answer r r' p.number p.bytes q.number q.bytes, p.held ∙ sym q.held)

-- ---- the room

module _ {text report room a : List ℕ} {r : Result ℕ Refusal} (p : Reports text report room r a) where
  pub refused_keeps : (answer_of r ≡ 0 → ⊥) → a ≡ room
  refused_keeps e = p.held ∙ refused_room text report room (λ z. e (p.number ∙ z))

  pub report_stands : answer_of r ≡ 0 → take (length_of r) a ≡ report
  report_stands e =
      let z = sym p.number ∙ e in
      front report (fits text report room z)
      (record { place = p.bytes ∙ done_length text report room z ∙ sym (zero-add (length report)); held = p.held ∙ done_room text report room z })

  pub past_kept : (i : ℕ) → length_of r ≤ i → get_or a i 0 ≡ get_or room i 0
  past_kept i h = split (eqb (number_for text report room) 0)
      (λ e.
      let z = eqb-true (number_for text report room) 0 e in
      ap (λ (l : List ℕ). get_or l i 0) (p.held ∙ done_room text report room z)
      ∙ past_sets report room 0 i (omega (arith, p.bytes, done_length text report room z)))
      (λ e. ap (λ (l : List ℕ). get_or l i 0) (p.held ∙ refused_room text report room (eqb-false (number_for text report room) 0 e)))

  pub room_length : length a ≡ length room
  room_length = split (eqb (number_for text report room) 0)
      (λ e. ap length (p.held ∙ done_room text report room (eqb-true (number_for text report room) 0 e)) ∙ length-sets room 0 report)
      (λ e. ap length (p.held ∙ refused_room text report room (eqb-false (number_for text report room) 0 e)))

  -- and a report lies within the room
  pub length_inside : (n : ℕ) → r ≡ Ok n → n ≤ length a
  length_inside n e =
      let z : number_for text report room ≡ 0 = sym p.number ∙ ap answer_of e in
      omega (arith, ap length_of e, p.bytes, done_length text report room z, fits text report room z, room_length)
