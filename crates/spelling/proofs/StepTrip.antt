-- Steps there and back: where a step is spelled and the line ends behind it, `step_at` reads it, and what it reads is spelled there. Assumes nothing.
use Prim.Native.Nat.{ℕ, ◌+◌, ◌≤◌, ◌<◌}
use native.Mathlib.Omega.{arith}
use mathlib.Core.Bool.{true, ◌&&◌}
use mathlib.Core.List.{List, ◌++◌, append_assoc}
use mathlib.Core.Path.{◌≡◌, refl, ap, ◌∙◌}
use lib.ListN.{length, drop, length-append}
use borrow.Author.Tests.{lt-ltb, ltb-true}
use Rattle.std.specs.Prelude.{Some}
use Rattle.common.proofs.Tests.{both}
use Rattle.kinds.specs.declared.BenchNo.{BenchNo}
use Rattle.kinds.specs.declared.Step.{Step}
use Rattle.kinds.specs.declared.Step.TheVariants.{Start, Abstain, Leave, Fail, Turn, Arrive, Notice}
use Rattle.spelling.specs.declared.Verb.{Verb}
use Rattle.spelling.specs.declared.Verb.TheVariants as verb
use Rattle.spelling.specs.Numbers.{ascii, digits}
use Rattle.spelling.specs.Spelling.{world_text, step_text, is_small, is_world, is_writable}
use Rattle.spelling.specs.Fields.{behind, is_prefix, digit_at, number_at, field_at, Found}
use Rattle.spelling.specs.Reading.{world_at, key_of, verbs, verb_at, start_at, from_at, rest_at, step_at}
use Rattle.spelling.proofs.Places.{past, Spans, spans_then}
use Rattle.spelling.proofs.Keys.{same_found, named_sound, behind_spans}
use Rattle.spelling.proofs.NumberTrip.{number_reads, number_sound}
use Rattle.spelling.proofs.LineEnds.{Ends, ends_byte}
use Rattle.spelling.proofs.FieldTrip.{both_true, space_stops, field_reads, field_sound, found_first}
use Rattle.spelling.proofs.WorldTrip.{Stops, world_reads, world_sound}

-- ---- what stands behind a number or a world

ends_stop : (text : List ℕ) (at : ℕ) {rest : List ℕ} → Ends rest → drop at text ≡ rest → Stops text at
ends_stop text at n e = let b = ends_byte text at n e in record { no_digit = b.0; no_comma = λ c. omega arith }

-- ---- what is written is read

verb_reads : (v : Verb) (text : List ℕ) (at : ℕ) (rest : List ℕ) → drop at text ≡ key_of v ++ rest → verb_at text at ≡ Some (v, at + length (key_of v))
unfolding verb_at key_of behind is_prefix
verb_reads verb.Start text at rest e = rw e refl
verb_reads verb.Abstain text at rest e = rw e refl
verb_reads verb.Leave text at rest e = rw e refl
verb_reads verb.Fail text at rest e = rw e refl
verb_reads verb.Turn text at rest e = rw e refl
verb_reads verb.Arrive text at rest e = rw e refl
verb_reads verb.Notice text at rest e = rw e refl

-- the bench of a step, and what follows it
head_reads : (limit : ℕ) (v : Verb) (text : List ℕ) (at b : ℕ) (rest : List ℕ) → b < 100000 → drop at text ≡ ascii "step=" ++ (key_of v ++ (digits b ++ rest))
    → 10 ≤ digit_at text (at + 5 + length (key_of v) + length (digits b)) → step_at limit text at ≡ rest_at limit text (at + 5 + length (key_of v) + length (digits b)) v b
unfolding step_at behind is_prefix
head_reads limit v text at b rest h e stop =
    let e₅ : drop (at + 5) text ≡ key_of v ++ (digits b ++ rest) = past text at (ascii "step=") e in
    let n = number_reads b text (at + 5 + length (key_of v)) rest h (past text (at + 5) (key_of v) e₅) stop in
    rw (e, verb_reads v text (at + 5) (digits b ++ rest) e₅, n) refl

-- a step with nothing behind its bench
one_reads : (limit : ℕ) (v : Verb) (text : List ℕ) (at b : ℕ) (rest : List ℕ) → is_small b ≡ true → Ends rest → drop at text ≡ (ascii "step=" ++ (key_of v ++ digits b)) ++ rest
    → step_at limit text at ≡ rest_at limit text (at + length (ascii "step=" ++ (key_of v ++ digits b))) v b
one_reads limit v text at b rest h n e =
    let w = ascii "step=" ++ (key_of v ++ digits b) in
    let len : at + 5 + length (key_of v) + length (digits b) ≡ at + length w = omega (arith, length-append (key_of v) (digits b)) in
    let e' : drop at text ≡ ascii "step=" ++ (key_of v ++ (digits b ++ rest)) = e ∙ ap (λ (z : List ℕ). ascii "step=" ++ z) (append_assoc (key_of v) (digits b) rest) in
    let s = ends_stop text (at + length w) n (past text at w e) in
    head_reads limit v text at b rest (ltb-true b 100000 h) e' (rw len s.no_digit) ∙ rw len refl

-- a step with a sender behind its bench
two_reads : (limit : ℕ) (v : Verb) (step : BenchNo → BenchNo → Step) (text : List ℕ) (at b f : ℕ) (rest : List ℕ) → ((n : ℕ) → rest_at limit text n v b ≡ from_at step text n b)
    → is_small b ≡ true → is_small f ≡ true → Ends rest → drop at text ≡ (ascii "step=" ++ (key_of v ++ (digits b ++ (ascii " from=" ++ digits f)))) ++ rest
    → step_at limit text at ≡ Some (step (record { 0 = b }) (record { 0 = f }), at + length (ascii "step=" ++ (key_of v ++ (digits b ++ (ascii " from=" ++ digits f)))))
unfolding from_at
two_reads limit v step text at b f rest same hb hf n e =
    let F = ascii " from=" in
    let w = ascii "step=" ++ (key_of v ++ (digits b ++ (F ++ digits f))) in
    let n₁ = at + 5 + length (key_of v) + length (digits b) in
    let e₀ : drop at text ≡ ascii "step=" ++ (key_of v ++ (digits b ++ (F ++ (digits f ++ rest)))) =
    e ∙ ap (λ (z : List ℕ). ascii "step=" ++ z) (append_assoc (key_of v) (digits b ++ (F ++ digits f)) rest ∙ ap (λ (z : List ℕ). key_of v ++ z) (append_assoc (digits b) (F ++ digits f) rest)) in
    let e₁ : drop n₁ text ≡ F ++ (digits f ++ rest) = past text (at + 5 + length (key_of v)) (digits b) (past text (at + 5) (key_of v) (past text at (ascii "step=") e₀)) in
    let len : n₁ + 6 + length (digits f) ≡ at + length w = omega (arith, length-append (key_of v) (digits b ++ (F ++ digits f)), length-append (digits b) (F ++ digits f)) in
    let s = ends_stop text (at + length w) n (past text at w e) in
    head_reads limit v text at b (F ++ (digits f ++ rest)) (ltb-true b 100000 hb) e₀ (space_stops text n₁ e₁) ∙ same n₁
    ∙ rw (field_reads F text n₁ f rest (ltb-true f 100000 hf) e₁ (rw len s.no_digit), len) refl

start_reads : (limit : ℕ) (text : List ℕ) (at b v w : ℕ) (rest : List ℕ) → limit ≤ 32 → is_small b ≡ true → is_small v ≡ true → is_world limit w ≡ true → Ends rest
    → drop at text ≡ (ascii "step=start bench=" ++ (digits b ++ (ascii " value=" ++ (digits v ++ (ascii " world=" ++ world_text w))))) ++ rest
    → step_at limit text at ≡ Some (Start (record { 0 = b }) (record { 0 = v }) w, at + length (ascii "step=start bench=" ++ (digits b ++ (ascii " value=" ++ (digits v ++ (ascii " world=" ++ world_text w))))))
unfolding rest_at start_at key_of behind is_prefix
start_reads limit text at b v w rest lim hb hv hw n e =
    let S = ascii "step=start bench=" in
    let K = ascii " value=" in
    let W = ascii " world=" in
    let t₂ = W ++ world_text w in
    let t₁ = K ++ (digits v ++ t₂) in
    let all = S ++ (digits b ++ t₁) in
    let e₀ : drop at text ≡ S ++ (digits b ++ (K ++ (digits v ++ (W ++ (world_text w ++ rest))))) =
    e ∙ ap (λ (z : List ℕ). S ++ z) (append_assoc (digits b) t₁ rest ∙ ap (λ (z : List ℕ). digits b ++ (K ++ z)) (append_assoc (digits v) t₂ rest)) in
    let n₁ = at + 5 + 12 + length (digits b) in
    let five : at + 5 + 12 ≡ at + 17 = omega arith in
    let e₁ : drop n₁ text ≡ K ++ (digits v ++ (W ++ (world_text w ++ rest))) = rw five (past text (at + 17) (digits b) (past text at S e₀)) in
    let n₂ = n₁ + 7 + length (digits v) in
    let e₂ : drop n₂ text ≡ W ++ (world_text w ++ rest) = past text (n₁ + 7) (digits v) (past text n₁ K e₁) in
    let len : n₂ + 7 + length (world_text w) ≡ at + length all = omega (arith, length-append (digits b) t₁, length-append (digits v) t₂) in
    let s = ends_stop text (at + length all) n (past text at all e) in
    head_reads limit verb.Start text at b (K ++ (digits v ++ (W ++ (world_text w ++ rest)))) (ltb-true b 100000 hb) e₀ (space_stops text n₁ e₁)
    ∙ rw (field_reads K text n₁ v (W ++ (world_text w ++ rest)) (ltb-true v 100000 hv) e₁ (space_stops text n₂ e₂))
    (rw e₂ (rw (world_reads limit w text (n₂ + 7) rest lim hw (past text n₂ W e₂) (rw len s), len) refl))

pub step_reads : (limit : ℕ) (s : Step) (text : List ℕ) (at : ℕ) (rest : List ℕ) → limit ≤ 32 → is_writable limit s ≡ true → Ends rest → drop at text ≡ step_text s ++ rest
    → step_at limit text at ≡ Some (s, at + length (step_text s))
unfolding step_text is_writable rest_at key_of
step_reads limit (Start b v w) text at rest lim h n e =
    let p = both (is_small b.0 && is_small v.0) (is_world limit w) h in
    let q = both (is_small b.0) (is_small v.0) p.0 in
    start_reads limit text at b.0 v.0 w rest lim q.0 q.1 p.1 n e
step_reads limit (Abstain b) text at rest lim h n e = one_reads limit verb.Abstain text at b.0 rest h n e
step_reads limit (Leave b) text at rest lim h n e = one_reads limit verb.Leave text at b.0 rest h n e
step_reads limit (Fail b) text at rest lim h n e = one_reads limit verb.Fail text at b.0 rest h n e
step_reads limit (Turn b) text at rest lim h n e = one_reads limit verb.Turn text at b.0 rest h n e
step_reads limit (Arrive b f) text at rest lim h n e =
    let q = both (is_small b.0) (is_small f.0) h in
    two_reads limit verb.Arrive Arrive text at b.0 f.0 rest (λ n. refl) q.0 q.1 n e
step_reads limit (Notice b f) text at rest lim h n e =
    let q = both (is_small b.0) (is_small f.0) h in
    two_reads limit verb.Notice Notice text at b.0 f.0 rest (λ n. refl) q.0 q.1 n e

-- ---- what is read is what is written

-- the step s is spelled from `at` to `end`, and is one that can be written
pub record StepIs (limit : ℕ) (text : List ℕ) (at : ℕ) (s : Step) (end : ℕ) : Type 0 where
  pub spans : Spans text at (step_text s) end
  pub writable : is_writable limit s ≡ true

-- the bench b was read, up to `next`; what the rest makes of it
module _ (limit : ℕ) (text : List ℕ) (at b next : ℕ) (small : is_small b ≡ true) where
  here_is : (s t : Step) (end : ℕ) → ◌≡◌ {A = Found Step} (Some (s, next)) (Some (t, end)) → StepIs limit text at s next → StepIs limit text at t end
  here_is s t end e r = let same = same_found e in rw (← same.0, ← same.1) r

  from_sound : (step : BenchNo → BenchNo → Step) (t : Step) (end : ℕ) → from_at step text next b ≡ Some (t, end)
      → ((f : ℕ) → is_small f ≡ true → Spans text next (ascii " from=" ++ digits f) end → StepIs limit text at (step (record { 0 = b }) (record { 0 = f })) end) → StepIs limit text at t end
  unfolding from_at
  from_sound step t end e k =
      let p = found_first (field_at (ascii " from=") text next) _ e in
      let r = field_sound (ascii " from=") text next p.0.0 p.0.1 p.1 in
      let same = same_found p.2 in
      rw (← same.0) (k p.0.0 r.1 (rw same.1 at r.0))

  start_sound : (t : Step) (end : ℕ) → limit ≤ 32 → start_at limit text next b ≡ Some (t, end)
      → ((v w : ℕ) → is_small v ≡ true → is_world limit w ≡ true → Spans text next ((ascii " value=" ++ digits v) ++ (ascii " world=" ++ world_text w)) end → StepIs limit text at (Start (record { 0 = b }) (record { 0 = v }) w) end)
      → StepIs limit text at t end
  unfolding start_at
  start_sound t end lim e k =
      let p = found_first (field_at (ascii " value=") text next) _ e in
      let r = field_sound (ascii " value=") text next p.0.0 p.0.1 p.1 in
      let h = found_first (behind (ascii " world=") text p.0.1) _ p.2 in
      let q = found_first (world_at limit text h.0) _ h.2 in
      let u = world_sound limit text h.0 q.0.0 q.0.1 lim q.1 in
      let same = same_found q.2 in
      let s : Spans text p.0.1 (ascii " world=" ++ world_text q.0.0) q.0.1 = spans_then (behind_spans (ascii " world=") text p.0.1 h.1) u.spans in
      rw (← same.0) (k p.0.0 q.0.0 r.1 u.is_world_lem (rw same.1 at (spans_then r.0 s)))

  rest_sound : (v : Verb) (t : Step) (end : ℕ) → limit ≤ 32 → Spans text at (ascii "step=" ++ (key_of v ++ digits b)) next → rest_at limit text next v b ≡ Some (t, end) → StepIs limit text at t end
  unfolding rest_at key_of step_text is_writable
  rest_sound verb.Start t end lim s e = start_sound t end lim e (λ v w hv hw r. record { spans = spans_then s r; writable = both_true (both_true small hv) hw })
  rest_sound verb.Abstain t end lim s e = here_is (Abstain (record { 0 = b })) t end e (record { spans = s; writable = small })
  rest_sound verb.Leave t end lim s e = here_is (Leave (record { 0 = b })) t end e (record { spans = s; writable = small })
  rest_sound verb.Fail t end lim s e = here_is (Fail (record { 0 = b })) t end e (record { spans = s; writable = small })
  rest_sound verb.Turn t end lim s e = here_is (Turn (record { 0 = b })) t end e (record { spans = s; writable = small })
  rest_sound verb.Arrive t end lim s e = from_sound Arrive t end e (λ f hf r. record { spans = spans_then s r; writable = both_true small hf })
  rest_sound verb.Notice t end lim s e = from_sound Notice t end e (λ f hf r. record { spans = spans_then s r; writable = both_true small hf })

pub step_sound : (limit : ℕ) (text : List ℕ) (at : ℕ) (s : Step) (end : ℕ) → limit ≤ 32 → step_at limit text at ≡ Some (s, end) → StepIs limit text at s end
unfolding step_at verb_at
step_sound limit text at s end lim got =
    let h = found_first (behind (ascii "step=") text at) _ got in
    let p = found_first (verb_at text h.0) _ h.2 in
    let q = found_first (number_at text p.0.1) _ p.2 in
    let r = number_sound text p.0.1 q.0.0 q.0.1 q.1 in
    rest_sound limit text at q.0.0 q.0.1 (lt-ltb q.0.0 100000 r.small) p.0.0 s end lim
    (spans_then (behind_spans (ascii "step=") text at h.1) (spans_then (named_sound key_of text h.0 verbs p.1) r.spans)) q.2
