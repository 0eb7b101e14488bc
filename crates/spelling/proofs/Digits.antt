-- Numbers read: a turn of the reader, as the code takes it. Assumes nothing.
use Prim.Native.Nat.{ℕ, zero, suc, ◌+◌, ◌-◌, ◌*◌, ◌≤◌, ◌<◌, ◌^◌}
use native.Mathlib.Nat.{pow-suc, pow-le-pow_right, zero-lt-suc}
use native.Mathlib.Omega.{arith}
use native.Mathlib.Numerals.{sub-one}
use mathlib.Core.List.{List}
use mathlib.Core.Logic.{⊎_elim}
use mathlib.Core.Path.{◌≡◌, refl, sym, ap, ◌∙◌}
use lib.Dec.{leb}
use lib.Dec.{lit≤}
use lib.ListN.{length, get_or, get_or-eq_default}
use borrow.Author.Tests.{lt-ltb, le-ltb, le-leb, lt-leb, eq-eqb, ne_eqb, leb-true}
use Rattle.std.specs.Prelude.{Some, None}
use Rattle.common.proofs.Tests.{split}
use Rattle.spelling.proofs.Places.{le_or_lt}
use Rattle.spelling.specs.Fields.{Found, digit_at, more_digits, number_upto, below}

-- ---- the digit at a place

module _ (text : List ℕ) (at : ℕ) where
  pub digit_out : length text ≤ at → 10 ≤ digit_at text at
  unfolding digit_at
  digit_out h = rw (get_or-eq_default {A = ℕ} text 0 h) (lit≤ tt)

  -- of a byte that was read
  module _ {c : ℕ} (e : c ≡ get_or text at 0) where
    pub digit_is : 48 ≤ c → c ≤ 57 → (c - 48 ≡ digit_at text at) × (c - 48 < 10)
    unfolding digit_at
    digit_is h k = (rw (← e, le-leb 48 c h, le-leb c 57 k) refl, omega arith)

    pub digit_not : (48 ≤ c → c ≤ 57 → ⊥) → 10 ≤ digit_at text at
    unfolding digit_at
    digit_not n =
        rw (← e)
        (⊎_elim (λ (h : 48 ≤ c). ⊎_elim (λ (k : c ≤ 57). absurd (n h k)) (λ (k : 57 < c). rw (le-leb 48 c h, lt-leb c 57 k) (lit≤ tt)) (le_or_lt c 57))
        (λ (h : c < 48). rw (lt-leb 48 c h) (lit≤ tt))
        (le_or_lt 48 c))

-- ---- further digits

-- a turn of the reader, at a digit d that the code has found
pub more_stop : (r : ℕ) (text : List ℕ) (at v : ℕ) {d : ℕ} → d ≡ digit_at text at → 10 ≤ d → more_digits r text at v ≡ Some (v, at)
unfolding more_digits
more_stop zero text at v e h = simp (← e, le-ltb _ _ h)
more_stop (suc r) text at v e h = simp (← e, le-ltb _ _ h)

pub more_none : (text : List ℕ) (at v : ℕ) {d : ℕ} → d ≡ digit_at text at → d < 10 → more_digits 0 text at v ≡ None
unfolding more_digits
more_none text at v e h = simp (← e, lt-ltb _ _ h)

pub more_step : (r : ℕ) (text : List ℕ) (at v : ℕ) {d : ℕ} → d ≡ digit_at text at → d < 10 → more_digits (suc r) text at v ≡ more_digits r text (at + 1) (v * 10 + d)
unfolding more_digits
more_step r text at v e h = simp (← e, lt-ltb _ _ h)

-- the same as the code has it, which takes one from its count
pub more_turn : (r : ℕ) (text : List ℕ) (at v : ℕ) {d : ℕ} → d ≡ digit_at text at → d < 10 → (r ≡ 0 → ⊥) → more_digits r text at v ≡ more_digits (r - 1) text (at + 1) (v * 10 + d)
more_turn zero text at v e h n = absurd (n refl)
more_turn (suc r) text at v e h n = rw sub-one (more_step r text at v e h)

-- a digit stands within the text
pub digit_within : (text : List ℕ) (at : ℕ) {d : ℕ} → d ≡ digit_at text at → d < 10 → at + 1 ≤ length text
unfolding digit_at
digit_within text at e h =
    ⊎_elim (λ (out : length text ≤ at). let z : get_or text at 0 ≡ 0 = get_or-eq_default text 0 out in let bad : _ ≡ 10 = rw z at e in omega arith)
    (λ (w : at < length text). omega arith) (le_or_lt (length text) at)

-- one digit more, and no number is longer than its width
pub below_turn : (w r v d : ℕ) → (r ≡ 0 → ⊥) → v < below w r → d < 10 → v * 10 + d < below w (r - 1)
unfolding below
below_turn w r v d n h k = split (leb r w)
    (λ e.
    let i = leb-true r w e in
    let q : w - (r - 1) ≡ suc (w - r) = omega arith in
    let g : v < 10 ^ (w - r) = rw e at h in
    rw (le-leb (r - 1) w (omega arith), q) (omega (arith, pow-suc 10 (w - r))))
    (λ e. let g : v < 0 = rw e at h in absurd (omega arith))

pub below_most : (w r : ℕ) → below w r ≤ 10 ^ w
unfolding below
below_most w r = split (leb r w)
    (λ e. rw e (pow-le-pow_right (zero-lt-suc 9) (omega arith)))
    (λ e. rw e (omega arith))

-- ---- a number of up to `suc more` digits

module _ (more : ℕ) (text : List ℕ) (at : ℕ) {d : ℕ} (e : d ≡ digit_at text at) where
  pub upto_none : 10 ≤ d → None ≡ number_upto more text at
  upto_none h = simp (← e, le-ltb _ _ h)

  pub upto_zero : d < 10 → d ≡ 0 → {r : Found ℕ} → r ≡ more_digits 0 text (at + 1) d → r ≡ number_upto more text at
  upto_zero h z q = q ∙ simp (← e, lt-ltb _ _ h, eq-eqb _ _ z)

  pub upto_more : d < 10 → (d ≡ 0 → ⊥) → {r : Found ℕ} → r ≡ more_digits more text (at + 1) d → r ≡ number_upto more text at
  upto_more h z q = q ∙ simp (← e, lt-ltb _ _ h, ne_eqb _ _ z)

-- what a first digit is below, by how many may follow
pub first_none : (width d : ℕ) → d ≡ 0 → d < below width 0
unfolding below
first_none width d z = rw (le-leb 0 width (omega arith)) (omega (arith, pow-le-pow_right (zero-lt-suc 9) {i = 0} {j = width - 0} (omega arith)))

pub first_more : (more d : ℕ) → d < 10 → d < below (suc more) more
unfolding below
first_more more d h = let one : suc more - more ≡ 1 = omega arith in rw (le-leb more (suc more) (omega arith), one) h

-- ---- a number, digit by digit as the code reads it

-- of the number at a place the reader has v and stands at `end`; `room` digits may follow the first
pub record Upto (more : ℕ) (text : List ℕ) (at room end v : ℕ) : Type 0 where
  pub ahead : at < end
  pub few : end ≤ at + 1 + room
  pub inside : end ≤ length text
  pub under : v < below (suc more) (at + 1 + room - end)
  pub rest : number_upto more text at ≡ more_digits (at + 1 + room - end) text end v

module _ (more : ℕ) (text : List ℕ) (at : ℕ) where
  module _ {d : ℕ} (e : d ≡ digit_at text at) (h : d < 10) where
    first : (room : ℕ) → d < below (suc more) room → number_upto more text at ≡ more_digits room text (at + 1) d → Upto more text at room (at + 1) d
    first room u q =
        let left : at + 1 + room - (at + 1) ≡ room = omega arith in
        record { ahead = omega arith; few = omega arith; inside = digit_within text at e h; under = rw left u; rest = rw left q }

    pub upto_first_zero : d ≡ 0 → Upto more text at 0 (at + 1) d
    upto_first_zero z = first 0 (first_none (suc more) d z) (sym (upto_zero more text at e h z refl))

    pub upto_first : (d ≡ 0 → ⊥) → Upto more text at more (at + 1) d
    upto_first z = first more (first_more more d h) (sym (upto_more more text at e h z refl))

  module _ (room end v : ℕ) (p : Upto more text at room end v) where
    pub upto_fits : v < 10 ^ suc more
    upto_fits = omega (arith, p.under, below_most (suc more) (at + 1 + room - end))

    pub upto_small : more ≤ 9 → v < 10000000000
    upto_small m = let top : 10 ^ suc more ≤ 10 ^ 10 = pow-le-pow_right (zero-lt-suc 9) {j = 10} (omega arith) in omega (arith, upto_fits)

    pub upto_stop : 10 ≤ digit_at text end → Some (v, end) ≡ number_upto more text at
    upto_stop h = sym (p.rest ∙ more_stop (at + 1 + room - end) text end v refl h)

    module _ {d : ℕ} (e : d ≡ digit_at text end) (h : d < 10) where
      pub upto_over : room < end - at → None ≡ number_upto more text at
      upto_over full =
          let z : at + 1 + room - end ≡ 0 = omega (arith, p.few) in
          sym (p.rest ∙ ap (λ (r : ℕ). more_digits r text end v) z ∙ more_none text end v e h)

      pub upto_next : end - at ≤ room → Upto more text at room (end + 1) (v * 10 + d)
      upto_next few =
          let left : at + 1 + room - (end + 1) ≡ at + 1 + room - end - 1 = omega (arith, p.ahead) in
          let n : at + 1 + room - end ≡ 0 → ⊥ = λ z. omega (arith, p.ahead) in
          record {
            ahead = omega (arith, p.ahead);
            few = omega (arith, p.ahead);
            inside = digit_within text end e h;
            under = rw left (below_turn (suc more) (at + 1 + room - end) v d n p.under h);
            rest = p.rest ∙ more_turn (at + 1 + room - end) text end v e h n ∙ rw left refl;
          }
