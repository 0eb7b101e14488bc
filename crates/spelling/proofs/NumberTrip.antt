-- Numbers there and back: what `digits` writes of a number with no more digits than may be read `number_upto` reads, and what it reads is what
-- `digits` writes; so for `number_at` and numbers up to 99,999. Assumes nothing.
use Prim.Native.Nat.{ℕ, zero, suc, ◌+◌, ◌-◌, ◌*◌, ◌/◌, ◌%◌, ◌≤◌, ◌<◌, ◌^◌}
use native.Mathlib.Nat.{pow-suc, pow-le-pow_right, zero-lt-suc}
use native.Mathlib.Omega.{arith}
use native.Mathlib.Numerals.{sub-one}
use mathlib.Core.List.{List, [], ◌∷◌, ◌++◌, append_assoc}
use mathlib.Core.Logic.{⊎_elim}
use mathlib.Core.Path.{◌≡◌, refl, sym, ap, ◌∙◌}
use lib.Dec.{leb}
use lib.ListN.{length, get_or, drop, length-append}
use borrow.Author.Tests.{le-leb, lt-leb}
use Rattle.std.specs.Prelude.{Some, None}
use Rattle.common.proofs.Tests.{split}
use Rattle.spelling.proofs.Keys.{same_found, none_found}
use Rattle.spelling.specs.Numbers.{digits}
use Rattle.spelling.specs.LedgerSpelling.{most_tag}
use Rattle.spelling.specs.LedgerReading.{as_tag}
use Rattle.spelling.specs.Fields.{Found, digit_of, digit_at, more_digits, number_upto, number_at, below}
use Rattle.spelling.proofs.Places.{le_or_lt, here, past, cut, Spans, spans_then}
use Rattle.spelling.proofs.Digits.{more_stop, more_none, more_step, upto_none, upto_zero, upto_more, first_none, first_more, digit_within, below_turn, below_most}
use Rattle.spelling.proofs.Decimals.{digits_small, digits_snoc, digits_large, small_length}

-- ---- a digit and its byte

digit_byte : (x : ℕ) → x < 10 → digit_of (48 + x) ≡ x
digit_byte x h = simp (le-leb 48 (48 + x) (omega arith), le-leb (48 + x) 57 (omega arith)) (omega arith)

digit_here : (text : List ℕ) (at : ℕ) {x : ℕ} {l : List ℕ} → x < 10 → drop at text ≡ (48 + x) ∷ l → digit_at text at ≡ x
unfolding digit_at
digit_here text at {x} h e = rw (here text at e) (digit_byte x h)

byte_of_digit : (c : ℕ) → digit_of c < 10 → 48 + digit_of c ≡ c
byte_of_digit c h =
    ⊎_elim
    (λ (lo : 48 ≤ c).
    ⊎_elim (λ (hi : c ≤ 57). simp (le-leb 48 c lo, le-leb c 57 hi) (omega arith))
    (λ (hi : 57 < c). let bad : 10 < 10 = simp (le-leb 48 c lo, lt-leb c 57 hi) at h in omega arith) (le_or_lt c 57))
    (λ (lo : c < 48). let bad : 10 < 10 = simp (lt-leb 48 c lo) at h in omega arith) (le_or_lt 48 c)

-- ---- what is written is read

-- after n's digits the reader stands behind them with n, and room for what is left of those that may be read; n has at most k
digits_read : (more k n : ℕ) (text : List ℕ) (at r : ℕ) (rest : List ℕ) → 0 < n → n < 10 ^ k → n < 10000000000 → r + length (digits n) ≡ suc more → drop at text ≡ digits n ++ rest
    → number_upto more text at ≡ more_digits r text (at + length (digits n)) n
digits_read more zero n text at r rest pos h t room e = absurd (omega arith)
digits_read more (suc k) n text at r rest pos h t room e =
    ⊎_elim (λ (big : 10 ≤ n).
    let v = n / 10 in
    let x = n % 10 in
    let s : digits n ≡ digits v ++ ((48 + x) ∷ []) = digits_large n big t in
    let len : length (digits n) ≡ length (digits v) + 1 = ap length s ∙ length-append (digits v) ((48 + x) ∷ []) in
    let e' : drop at text ≡ digits v ++ ((48 + x) ∷ rest) = e ∙ ap (λ (z : List ℕ). z ++ rest) s ∙ append_assoc (digits v) ((48 + x) ∷ []) rest in
    let d : digit_at text (at + length (digits v)) ≡ x = digit_here text (at + length (digits v)) (omega arith) (past text at (digits v) e') in
    let less : v < 10 ^ k = omega (arith, pow-suc 10 k) in
    let ih : number_upto more text at ≡ more_digits (suc r) text (at + length (digits v)) v = digits_read more k v text at (suc r) ((48 + x) ∷ rest) (omega arith) less (omega arith) (omega arith) e' in
    let last : v * 10 + x ≡ n = omega arith in
    let place : at + length (digits v) + 1 ≡ at + length (digits n) = omega arith in
    ih ∙ more_step r text (at + length (digits v)) v (sym d) (omega arith) ∙ rw (last, place) refl)
    (λ (small : n < 10).
    let s : digits n ≡ (48 + n) ∷ [] = digits_small n small in
    let e' : drop at text ≡ (48 + n) ∷ rest = rw s at e in
    let d : n ≡ digit_at text at = sym (digit_here text at small e') in
    let all : r ≡ more = omega (arith, ap length s) in
    sym (upto_more more text at d small (λ z. omega arith) refl) ∙ rw (s, all) refl)
    (le_or_lt 10 n)

-- behind the number stands no digit
pub upto_reads : (more n : ℕ) (text : List ℕ) (at : ℕ) (rest : List ℕ) → n < 10000000000 → length (digits n) ≤ suc more → drop at text ≡ digits n ++ rest → 10 ≤ digit_at text (at + length (digits n))
    → number_upto more text at ≡ Some (n, at + length (digits n))
upto_reads more n text at rest t h e stop =
    ⊎_elim (λ (pos : 1 ≤ n).
    digits_read more 10 n text at (suc more - length (digits n)) rest pos t t (omega arith) e ∙ more_stop _ text _ n refl stop)
    (λ (z : n < 1).
    let s : digits n ≡ (48 + n) ∷ [] = digits_small n (omega arith) in
    let e' : drop at text ≡ (48 + n) ∷ rest = rw s at e in
    let d : n ≡ digit_at text at = sym (digit_here text at (omega arith) e') in
    let stop' : 10 ≤ digit_at text (at + 1) = rw s at stop in
    sym (upto_zero more text at d (omega arith) (omega arith) refl) ∙ more_stop 0 text (at + 1) n refl stop' ∙ rw s refl)
    (le_or_lt 1 n)

pub number_reads : (n : ℕ) (text : List ℕ) (at : ℕ) (rest : List ℕ) → n < 100000 → drop at text ≡ digits n ++ rest → 10 ≤ digit_at text (at + length (digits n))
    → number_at text at ≡ Some (n, at + length (digits n))
unfolding number_at
number_reads n text at rest h e stop = upto_reads 4 n text at rest (omega arith) (small_length n h).1 e stop

-- ---- what is read is what is written

cut_digit : (text : List ℕ) (at : ℕ) → digit_at text at < 10 → Spans text at ((48 + digit_at text at) ∷ []) (at + 1)
unfolding digit_at
cut_digit text at h =
    let w : at + 1 ≤ length text = digit_within text at refl h in
    record { stands = cut text at (omega arith) ∙ ap (λ (c : ℕ). c ∷ drop (at + 1) text) (sym (byte_of_digit (get_or text at 0) h)); place = refl }

-- n stands at a place, and has no more digits than may be written
pub record NumberIs (width : ℕ) (text : List ℕ) (at n next : ℕ) : Type 0 where
  pub spans : Spans text at (digits n) next
  pub small : n < 10 ^ width

below_suc : (w r v : ℕ) → w ≤ 10 → v < below w (suc r) → v < 1000000000
unfolding below
below_suc w r v ten h = split (leb (suc r) w)
    (λ e.
    let g : v < 10 ^ (w - suc r) = rw e at h in
    let top : 10 ^ (w - suc r) ≤ 10 ^ 9 = pow-le-pow_right (zero-lt-suc 9) {j = 9} (omega arith) in
    omega arith)
    (λ e. let g : v < 0 = rw e at h in absurd (omega arith))

module _ (w : ℕ) where
  stopped : (r : ℕ) (text : List ℕ) (from at v n next : ℕ) → v < below w r → Spans text from (digits v) at → 10 ≤ digit_at text at → more_digits r text at v ≡ Some (n, next) → NumberIs w text from n next
  stopped r text from at v n next h s stop got =
      let same = same_found (sym (more_stop r text at v refl stop) ∙ got) in
      record { spans = rw (← same.0, ← same.1) s; small = omega (arith, below_most w r) }

  more_sound : (r : ℕ) (text : List ℕ) (from at v n next : ℕ) → w ≤ 10 → 0 < v → v < below w r → Spans text from (digits v) at → more_digits r text at v ≡ Some (n, next) → NumberIs w text from n next
  more_sound zero text from at v n next ten pos h s got =
      ⊎_elim (λ (stop : 10 ≤ digit_at text at). stopped 0 text from at v n next h s stop got)
      (λ (d : digit_at text at < 10). none_found (sym (more_none text at v refl d) ∙ got))
      (le_or_lt 10 (digit_at text at))
  more_sound (suc r) text from at v n next ten pos h s got =
      ⊎_elim (λ (stop : 10 ≤ digit_at text at). stopped (suc r) text from at v n next h s stop got)
      (λ (d : digit_at text at < 10).
      let x = digit_at text at in
      let s' : Spans text from (digits (v * 10 + x)) (at + 1) = rw (digits_snoc v x pos (below_suc w r v ten h) d) (spans_then s (cut_digit text at d)) in
      let top : v * 10 + x < below w r = rw sub-one at (below_turn w (suc r) v x (λ z. omega arith) h d) in
      more_sound r text from (at + 1) (v * 10 + x) n next ten (omega arith) top s' (sym (more_step r text at v refl d) ∙ got))
      (le_or_lt 10 (digit_at text at))

pub upto_sound : (more : ℕ) (text : List ℕ) (at n next : ℕ) → more ≤ 9 → number_upto more text at ≡ Some (n, next) → NumberIs (suc more) text at n next
upto_sound more text at n next nine got =
    ⊎_elim (λ (stop : 10 ≤ digit_at text at). none_found (upto_none more text at refl stop ∙ got))
    (λ (d : digit_at text at < 10).
    let x = digit_at text at in
    let s : Spans text at (digits x) (at + 1) = rw (digits_small x d) (cut_digit text at d) in
    ⊎_elim (λ (pos : 1 ≤ x). more_sound (suc more) more text at (at + 1) x n next (omega arith) pos (first_more more x d) s (upto_more more text at refl d (λ z. omega arith) refl ∙ got))
    (λ (none : x < 1).
    let got' : more_digits 0 text (at + 1) x ≡ Some (n, next) = upto_zero more text at refl d (omega arith) refl ∙ got in
    ⊎_elim (λ (stop : 10 ≤ digit_at text (at + 1)). stopped (suc more) 0 text at (at + 1) x n next (first_none (suc more) x (omega arith)) s stop got')
    (λ (more : digit_at text (at + 1) < 10). none_found (sym (more_none text (at + 1) x refl more) ∙ got'))
    (le_or_lt 10 (digit_at text (at + 1))))
    (le_or_lt 1 x))
    (le_or_lt 10 (digit_at text at))

pub number_sound : (text : List ℕ) (at n next : ℕ) → number_at text at ≡ Some (n, next) → NumberIs 5 text at n next
unfolding number_at
number_sound text at n next got = upto_sound 4 text at n next (omega arith) got

-- a number of up to 5 digits is no larger than a tag can be
pub number_is_tag : (text : List ℕ) (at : ℕ) → as_tag (number_at text at) ≡ number_at text at
number_is_tag text at = go (number_at text at) refl
  where
    go : (n : Found ℕ) → number_at text at ≡ n → as_tag n ≡ n
    go None e = refl
    go (Some (v, next)) e = let r = number_sound text at v next e in rw (le-leb v most_tag (omega (arith, r.small))) refl
