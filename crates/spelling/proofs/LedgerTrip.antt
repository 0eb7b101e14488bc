-- Steps of a ledger script there and back: where a step is spelled and the line ends behind it, `ledger_step_at` reads it, and what it reads is
-- spelled there. Assumes nothing.
use Prim.Native.Nat.{ℕ, ◌+◌, ◌≤◌, ◌<◌}
use native.Mathlib.Omega.{arith}
use mathlib.Core.Bool.{true}
use mathlib.Core.List.{List, ◌∷◌, ◌++◌, append_assoc}
use mathlib.Core.Path.{◌≡◌, refl, ap, ◌∙◌}
use lib.ListN.{length, drop, length-append}
use borrow.Author.Tests.{lt-ltb, ltb-true, leb-true}
use Rattle.std.specs.Prelude.{Some, None}
use Rattle.common.proofs.Tests.{both, split}
use Rattle.kinds.specs.declared.BenchNo.{BenchNo}
use Rattle.kinds.specs.declared.SlotNo.{SlotNo}
use Rattle.spelling.specs.declared.LedgerStep.{LedgerStep}
use Rattle.spelling.specs.declared.LedgerStep.TheVariants.{Join, Sweep, Close, End, HandOut}
use Rattle.spelling.specs.declared.LedgerVerb.{LedgerVerb}
use Rattle.spelling.specs.declared.LedgerVerb.TheVariants as verb
use Rattle.spelling.specs.Numbers.{ascii, digits}
use Rattle.spelling.specs.Spelling.{is_small}
use Rattle.spelling.specs.LedgerSpelling.{ledger_step_text, most_tag, is_tag, is_scriptable}
use Rattle.spelling.specs.Fields.{behind, Found, is_prefix, digit_at, number_upto, number_at, field_at}
use Rattle.spelling.specs.LedgerReading.{as_tag, tag_at, tag_field_at, ledger_key_of, ledger_verbs, ledger_verb_at, slot_at, sweep_at, ledger_rest_at, ledger_step_at}
use Rattle.spelling.proofs.Places.{past, Spans, spans_then}
use Rattle.spelling.proofs.Keys.{same_found, named_sound, none_found, behind_own, behind_spans}
use Rattle.spelling.proofs.Decimals.{digits_length}
use Rattle.spelling.proofs.NumberTrip.{upto_reads, upto_sound, number_reads, number_sound}
use Rattle.spelling.proofs.LineEnds.{Ends, ends_byte}
use Rattle.spelling.proofs.FieldTrip.{both_true, space_stops, field_reads, field_sound, found_first}

-- ---- tags

tag_reads : (t : ℕ) (text : List ℕ) (at : ℕ) (rest : List ℕ) → is_tag t ≡ true → drop at text ≡ digits t ++ rest → 10 ≤ digit_at text (at + length (digits t))
    → tag_at text at ≡ Some (t, at + length (digits t))
unfolding tag_at
tag_reads t text at rest h e stop =
    let r = upto_reads 9 t text at rest (omega (arith, leb-true t most_tag h)) (digits_length t).1 e stop in
    ap as_tag r ∙ rw h refl

tag_sound : (text : List ℕ) (at t next : ℕ) → tag_at text at ≡ Some (t, next) → Spans text at (digits t) next × (is_tag t ≡ true)
unfolding tag_at
tag_sound text at t next got = go (number_upto 9 text at) refl got
  where
    go : (f : Found ℕ) → number_upto 9 text at ≡ f → as_tag f ≡ Some (t, next) → Spans text at (digits t) next × (is_tag t ≡ true)
    go None e g = none_found g
    go (Some (v, end)) e g = split (is_tag v)
        (λ h.
        let same = same_found (rw h at g) in
        let r = upto_sound 9 text at v end (omega arith) e in
        rw (← same.0, ← same.1) (r.spans, h))
        (λ h. none_found (rw h at g))

-- ---- what is written is read

verb_reads : (v : LedgerVerb) (text : List ℕ) (at : ℕ) (rest : List ℕ) → drop at text ≡ ledger_key_of v ++ rest → ledger_verb_at text at ≡ Some (v, at + length (ledger_key_of v))
unfolding ledger_verb_at ledger_key_of behind is_prefix
verb_reads verb.Join text at rest e = rw e refl
verb_reads verb.Sweep text at rest e = rw e refl
verb_reads verb.Close text at rest e = rw e refl
verb_reads verb.End text at rest e = rw e refl
verb_reads verb.HandOut text at rest e = rw e refl

-- the first number of a step, and what follows it
module _ (v : LedgerVerb) (text : List ℕ) (at n : ℕ) where
  abbrev after : ℕ
  after = at + 5 + length (ledger_key_of v) + length (digits n)

  head_reads : (rest : List ℕ) → n < 100000 → drop at text ≡ ascii "step=" ++ (ledger_key_of v ++ (digits n ++ rest))
      → 10 ≤ digit_at text after → ledger_step_at text at ≡ ledger_rest_at text after v n
  unfolding ledger_step_at behind is_prefix
  head_reads rest h e stop =
      let e₅ : drop (at + 5) text ≡ ledger_key_of v ++ (digits n ++ rest) = past text at (ascii "step=") e in
      let r = number_reads n text (at + 5 + length (ledger_key_of v)) rest h (past text (at + 5) (ledger_key_of v) e₅) stop in
      rw (e, verb_reads v text (at + 5) (digits n ++ rest) e₅, r) refl

  -- a step with nothing behind that number
  abbrev one : List ℕ
  one = ascii "step=" ++ (ledger_key_of v ++ digits n)

  one_reads : (rest : List ℕ) → is_small n ≡ true → Ends rest → drop at text ≡ one ++ rest → ledger_step_at text at ≡ ledger_rest_at text (at + length one) v n
  one_reads rest h end e =
      let len : after ≡ at + length one = omega (arith, length-append (ledger_key_of v) (digits n)) in
      let e' : drop at text ≡ ascii "step=" ++ (ledger_key_of v ++ (digits n ++ rest)) = e ∙ ap (λ (z : List ℕ). ascii "step=" ++ z) (append_assoc (ledger_key_of v) (digits n) rest) in
      let s = ends_byte text (at + length one) end (past text at one e) in
      head_reads rest (ltb-true n 100000 h) e' (rw len s.0) ∙ rw len refl

  -- a step with a second number, whose key begins with a space
  module _ (key : List ℕ) (m : ℕ) where
    abbrev two : List ℕ
    two = ascii "step=" ++ (ledger_key_of v ++ (digits n ++ ((32 ∷ key) ++ digits m)))

    record Second (rest : List ℕ) : Type 0 where
      first_read : ledger_step_at text at ≡ ledger_rest_at text after v n
      stands : drop after text ≡ (32 ∷ key) ++ (digits m ++ rest)
      stops : 10 ≤ digit_at text (after + length (32 ∷ key) + length (digits m))
      place : after + length (32 ∷ key) + length (digits m) ≡ at + length two

    two_reads : (rest : List ℕ) → is_small n ≡ true → Ends rest → drop at text ≡ two ++ rest → Second rest
    two_reads rest h end e =
        let F : List ℕ = 32 ∷ key in
        let e₀ : drop at text ≡ ascii "step=" ++ (ledger_key_of v ++ (digits n ++ (F ++ (digits m ++ rest)))) =
        e
        ∙ ap (λ (z : List ℕ). ascii "step=" ++ z) (append_assoc (ledger_key_of v) (digits n ++ (F ++ digits m)) rest
        ∙ ap (λ (z : List ℕ). ledger_key_of v ++ z) (append_assoc (digits n) (F ++ digits m) rest ∙ ap (λ (z : List ℕ). digits n ++ z) (append_assoc F (digits m) rest))) in
        let e₁ : drop after text ≡ F ++ (digits m ++ rest) = past text (at + 5 + length (ledger_key_of v)) (digits n) (past text (at + 5) (ledger_key_of v) (past text at (ascii "step=") e₀)) in
        let len : after + length F + length (digits m) ≡ at + length two =
        omega (arith, length-append (ledger_key_of v) (digits n ++ (F ++ digits m)), length-append (digits n) (F ++ digits m), length-append F (digits m)) in
        let s = ends_byte text (at + length two) end (past text at two e) in
        record {
          first_read = head_reads (F ++ (digits m ++ rest)) (ltb-true n 100000 h) e₀ (space_stops text after e₁);
          stands = e₁;
          stops = rw len s.0;
          place = len;
        }

slot_reads : (v : LedgerVerb) (step : BenchNo → SlotNo → LedgerStep) (text : List ℕ) (at s n : ℕ) (rest : List ℕ) → ((k : ℕ) → ledger_rest_at text k v s ≡ slot_at step text k s)
    → is_small s ≡ true → is_small n ≡ true → Ends rest → drop at text ≡ two v text at s (ascii "slot=") n ++ rest
    → ledger_step_at text at ≡ Some (step (record { 0 = s }) (record { 0 = n }), at + length (two v text at s (ascii "slot=") n))
unfolding slot_at
slot_reads v step text at s n rest same hs hn end e =
    let r = two_reads v text at s (ascii "slot=") n rest hs end e in
    let k = after v text at s in
    r.first_read ∙ same k ∙ rw (field_reads (ascii " slot=") text k n rest (ltb-true n 100000 hn) r.stands r.stops, r.place) refl

sweep_reads : (text : List ℕ) (at s t : ℕ) (rest : List ℕ) → is_small s ≡ true → is_tag t ≡ true → Ends rest → drop at text ≡ two verb.Sweep text at s (ascii "tag=") t ++ rest
    → ledger_step_at text at ≡ Some (Sweep (record { 0 = s }) t, at + length (two verb.Sweep text at s (ascii "tag=") t))
unfolding ledger_rest_at sweep_at tag_field_at
sweep_reads text at s t rest hs ht end e =
    let r = two_reads verb.Sweep text at s (ascii "tag=") t rest hs end e in
    let k = after verb.Sweep text at s in
    r.first_read ∙ rw (behind_own (ascii " tag=") text k (digits t ++ rest) r.stands, tag_reads t text (k + 5) rest ht (past text k (ascii " tag=") r.stands) r.stops, r.place) refl

pub step_reads : (s : LedgerStep) (text : List ℕ) (at : ℕ) (rest : List ℕ) → is_scriptable s ≡ true → Ends rest → drop at text ≡ ledger_step_text s ++ rest
    → ledger_step_at text at ≡ Some (s, at + length (ledger_step_text s))
unfolding ledger_step_text is_scriptable ledger_rest_at ledger_key_of
step_reads (Join s f) text at rest h n e =
    let q = both (is_small s.0) (is_small f.0) h in
    slot_reads verb.Join Join text at s.0 f.0 rest (λ k. refl) q.0 q.1 n e
step_reads (Sweep s t) text at rest h n e =
    let q = both (is_small s.0) (is_tag t) h in
    sweep_reads text at s.0 t rest q.0 q.1 n e
step_reads (Close s) text at rest h n e = one_reads verb.Close text at s.0 rest h n e
step_reads (End s f) text at rest h n e =
    let q = both (is_small s.0) (is_small f.0) h in
    slot_reads verb.End End text at s.0 f.0 rest (λ k. refl) q.0 q.1 n e
step_reads (HandOut r) text at rest h n e = one_reads verb.HandOut text at r rest h n e

-- ---- what is read is what is written

-- the step s is spelled from `at` to `end`, and is one that can be
pub record StepIs (text : List ℕ) (at : ℕ) (s : LedgerStep) (end : ℕ) : Type 0 where
  pub spans : Spans text at (ledger_step_text s) end
  pub scriptable : is_scriptable s ≡ true

-- the first number n was read, up to `next`; what the rest makes of it
module _ (text : List ℕ) (at n next : ℕ) (small : is_small n ≡ true) where
  here_is : (s t : LedgerStep) (end : ℕ) → ◌≡◌ {A = Found LedgerStep} (Some (s, next)) (Some (t, end)) → StepIs text at s next → StepIs text at t end
  here_is s t end e r = let same = same_found e in rw (← same.0, ← same.1) r

  slot_sound : (step : BenchNo → SlotNo → LedgerStep) (t : LedgerStep) (end : ℕ) → slot_at step text next n ≡ Some (t, end)
      → ((f : ℕ) → is_small f ≡ true → Spans text next (ascii " slot=" ++ digits f) end → StepIs text at (step (record { 0 = n }) (record { 0 = f })) end) → StepIs text at t end
  unfolding slot_at
  slot_sound step t end e k =
      let p = found_first (field_at (ascii " slot=") text next) _ e in
      let r = field_sound (ascii " slot=") text next p.0.0 p.0.1 p.1 in
      let same = same_found p.2 in
      rw (← same.0) (k p.0.0 r.1 (rw same.1 at r.0))

  tag_field_sound : (t end : ℕ) → tag_field_at text next ≡ Some (t, end) → Spans text next (ascii " tag=" ++ digits t) end × (is_tag t ≡ true)
  unfolding tag_field_at
  tag_field_sound t end got =
      let p = found_first (behind (ascii " tag=") text next) _ got in
      let r = tag_sound text p.0 t end p.2 in
      (spans_then (behind_spans (ascii " tag=") text next p.1) r.0, r.1)

  sweep_sound : (t : LedgerStep) (end : ℕ) → sweep_at text next n ≡ Some (t, end)
      → ((m : ℕ) → is_tag m ≡ true → Spans text next (ascii " tag=" ++ digits m) end → StepIs text at (Sweep (record { 0 = n }) m) end) → StepIs text at t end
  unfolding sweep_at
  sweep_sound t end e k =
      let p = found_first (tag_field_at text next) _ e in
      let r = tag_field_sound p.0.0 p.0.1 p.1 in
      let same = same_found p.2 in
      rw (← same.0) (k p.0.0 r.1 (rw same.1 at r.0))

  rest_sound : (v : LedgerVerb) (t : LedgerStep) (end : ℕ) → Spans text at (ascii "step=" ++ (ledger_key_of v ++ digits n)) next → ledger_rest_at text next v n ≡ Some (t, end) → StepIs text at t end
  unfolding ledger_rest_at ledger_key_of ledger_step_text is_scriptable
  rest_sound verb.Join t end s e = slot_sound Join t end e (λ f hf r. record { spans = spans_then s r; scriptable = both_true small hf })
  rest_sound verb.Sweep t end s e = sweep_sound t end e (λ m hm r. record { spans = spans_then s r; scriptable = both_true small hm })
  rest_sound verb.Close t end s e = here_is (Close (record { 0 = n })) t end e (record { spans = s; scriptable = small })
  rest_sound verb.End t end s e = slot_sound End t end e (λ f hf r. record { spans = spans_then s r; scriptable = both_true small hf })
  rest_sound verb.HandOut t end s e = here_is (HandOut n) t end e (record { spans = s; scriptable = small })

pub step_sound : (text : List ℕ) (at : ℕ) (s : LedgerStep) (end : ℕ) → ledger_step_at text at ≡ Some (s, end) → StepIs text at s end
unfolding ledger_step_at ledger_verb_at
step_sound text at s end got =
    let h = found_first (behind (ascii "step=") text at) _ got in
    let p = found_first (ledger_verb_at text h.0) _ h.2 in
    let q = found_first (number_at text p.0.1) _ p.2 in
    let r = number_sound text p.0.1 q.0.0 q.0.1 q.1 in
    rest_sound text at q.0.0 q.0.1 (lt-ltb q.0.0 100000 r.small) p.0.0 s end
    (spans_then (behind_spans (ascii "step=") text at h.1) (spans_then (named_sound ledger_key_of text h.0 ledger_verbs p.1) r.spans)) q.2
