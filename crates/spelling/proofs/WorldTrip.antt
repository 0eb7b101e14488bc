-- Worlds there and back: what `world_text` writes `world_at` reads, and what it reads is what `world_text` writes. Assumes nothing.
use Prim.Native.Nat.{ℕ, zero, suc, ◌+◌, ◌-◌, ◌*◌, ◌/◌, ◌%◌, ◌^◌, ◌≤◌, ◌<◌}
use native.Mathlib.Omega.{arith}
use native.Mathlib.Nat.{add-zero, zero-add, mul-one, one-mul, zero-mul, mul_assoc, mul_comm, add-mul}
use mathlib.Core.Bool.{true, cond}
use mathlib.Core.List.{List, [], ◌∷◌, ◌++◌, append_assoc, append-nil}
use mathlib.Core.Logic.{◌⊎◌, inl, inr, ⊎_elim}
use mathlib.Core.Path.{◌≡◌, refl, sym, ap, ◌∙◌}
use lib.Dec.{eqb, ltb, lit<, lit≤}
use lib.ListN.{length, get_or, drop, length-append}
use lib.Pow.{pow-add, pow_pos}
use borrow.Author.Tests.{lt-ltb, ltb-true, eq-eqb, ne_eqb, eqb-true}
use Rattle.std.specs.Prelude.{Some, None}
use Rattle.common.proofs.Tests.{both, split, clash}
use Rattle.spelling.proofs.Keys.{same_found}
use Rattle.spelling.specs.Numbers.{digits}
use Rattle.spelling.specs.Spelling.{members, world_text, is_world}
use Rattle.spelling.specs.Fields.{Found, ◌>>=◌, digit_at}
use Rattle.spelling.specs.Reading.{bit_of, member_at, members_at, world_at}
use Rattle.spelling.proofs.Places.{le_or_lt, here, past, past_one, byte_within, Spans, spans_then, spans_byte}
use Rattle.spelling.proofs.NumberTrip.{number_reads, number_sound}
use Rattle.spelling.proofs.Members.{pow_next, member_got, MemberIs, member_sound, members_odd, members_even, members_nil, members_zero}

pub parity : (q : ℕ) → (q % 2 ≡ 1) ⊎ (q % 2 ≡ 0)
parity q = ⊎_elim (λ (h : 1 ≤ q % 2). inl (omega arith)) (λ (h : q % 2 < 1). inr (omega arith)) (le_or_lt 1 (q % 2))

half_below : (q k : ℕ) → q < 2 ^ suc k → q / 2 < 2 ^ k
half_below q k h = omega (arith, pow_next k)

-- benches above the highest member are not spelled
members_few : (k j b q : ℕ) (sep : List ℕ) → q < 2 ^ k → members (k + j) b q sep ≡ members k b q sep
members_few zero j b q sep h = let z : q ≡ 0 = omega arith in rw (z, zero-add, members_zero j b sep, members_zero 0 b sep) refl
members_few (suc k) j b q sep h =
    let e : suc k + j ≡ suc (k + j) = omega arith in
    rw e (⊎_elim (λ (o : q % 2 ≡ 1). rw (members_odd (k + j) b q sep o, members_odd k b q sep o, members_few k j (b + 1) (q / 2) (44 ∷ []) (half_below q k h)) refl)
    (λ (z : q % 2 ≡ 0). rw (members_even (k + j) b q sep z, members_even k b q sep z, members_few k j (b + 1) (q / 2) sep (half_below q k h)) refl)
    (parity q))

world_few : (limit w : ℕ) → limit ≤ 32 → w < 2 ^ limit → world_text w ≡ members limit 1 w []
unfolding world_text
world_few limit w h top = let e : 32 ≡ limit + (32 - limit) = omega arith in ap (λ (k : ℕ). members k 1 w []) e ∙ members_few limit (32 - limit) 1 w [] top

-- ---- what is written is read

-- what follows a world: neither a digit nor a comma
pub record Stops (text : List ℕ) (at : ℕ) : Type 0 where
  pub no_digit : 10 ≤ digit_at text at
  pub no_comma : get_or text at 0 ≡ 44 → ⊥

-- the reader behind a member
abbrev after : ℕ → ℕ → List ℕ → ℕ → ℕ → ℕ → Found ℕ
after f limit text at last acc = cond (eqb (get_or text at 0) 44) (members_at f limit text (at + 1) last acc) (Some (acc, at))

members_after : (f limit : ℕ) (text : List ℕ) (at last acc b next : ℕ) → member_at limit text at last ≡ Some (b, next) → members_at (suc f) limit text at last acc ≡ after f limit text next b (acc + bit_of b)
unfolding members_at
members_after f limit text at last acc b next e = rw e refl

-- bench b's bit counts q's lowest
bit_next : (b : ℕ) → 0 < b → bit_of (b + 1) ≡ bit_of b * 2
bit_next b h = let e : b + 1 - 1 ≡ suc (b - 1) = omega arith in rw e (pow_next (b - 1))

twice_p : (x p : ℕ) → x * 2 * p ≡ x * (p * 2)
twice_p x p = mul_assoc x 2 p ∙ ap (λ (z : ℕ). x * z) (mul_comm 2 p)

odd_value : (q p acc : ℕ) → q % 2 ≡ 1 → acc + p + q / 2 * (p * 2) ≡ acc + q * p
odd_value q p acc e =
    let q' : q ≡ q / 2 * 2 + 1 = omega arith in
    let s : q * p ≡ q / 2 * (p * 2) + p = ap (λ (z : ℕ). z * p) q' ∙ add-mul (q / 2 * 2) 1 p ∙ rw (twice_p (q / 2) p, one-mul p) refl in
    omega arith

even_value : (q p : ℕ) → q % 2 ≡ 0 → q / 2 * (p * 2) ≡ q * p
even_value q p e = let q' : q / 2 * 2 ≡ q = omega arith in sym (twice_p (q / 2) p) ∙ ap (λ (z : ℕ). z * p) q'

bits_odd : (q b acc : ℕ) → 0 < b → q % 2 ≡ 1 → acc + bit_of b + q / 2 * bit_of (b + 1) ≡ acc + q * bit_of b
bits_odd q b acc h e = rw (bit_next b h) (odd_value q (bit_of b) acc e)

bits_even : (q b : ℕ) → 0 < b → q % 2 ≡ 0 → q / 2 * bit_of (b + 1) ≡ q * bit_of b
bits_even q b h e = rw (bit_next b h) (even_value q (bit_of b) e)

-- behind a member stands a comma or what stands behind the world
tail_stops : (k b q : ℕ) (text : List ℕ) (at : ℕ) (rest : List ℕ) → drop at text ≡ members k b q (44 ∷ []) ++ rest → 10 ≤ digit_at text (at + length (members k b q (44 ∷ []))) → 10 ≤ digit_at text at
unfolding members digit_at
tail_stops zero b q text at rest e h = rw add-zero at h
tail_stops (suc k) b q text at rest e h =
    ⊎_elim (λ (o : q % 2 ≡ 1).
    let e' : drop at text ≡ 44 ∷ ((digits b ++ members k (b + 1) (q / 2) (44 ∷ [])) ++ rest) = rw (members_odd k b q (44 ∷ []) o) at e in
    rw (here text at e') (lit≤ tt))
    (λ (z : q % 2 ≡ 0). tail_stops k (b + 1) (q / 2) text at rest (rw (members_even k b q (44 ∷ []) z) at e) (rw (members_even k b q (44 ∷ []) z) at h))
    (parity q)

-- one member, with what stands behind it
member_reads : (b limit : ℕ) (text : List ℕ) (at last : ℕ) (rest : List ℕ) → drop at text ≡ digits b ++ rest → 10 ≤ digit_at text (at + length (digits b)) → last < b → b ≤ limit → limit < 100000
    → member_at limit text at last ≡ Some (b, at + length (digits b))
member_reads b limit text at last rest e stop lb bl lim = sym (member_got limit text at last b _ (sym (number_reads b text at rest (omega arith) e stop)) lb bl)

-- from behind a member on
one_reads : (k b q f limit : ℕ) (text : List ℕ) (at last acc : ℕ) (rest : List ℕ) → ((acc' place : ℕ) → drop place text ≡ members k (b + 1) q (44 ∷ []) ++ rest → Stops text (place + length (members k (b + 1) q (44 ∷ [])))
    → after f limit text place b acc' ≡ Some (acc' + q * bit_of (b + 1), place + length (members k (b + 1) q (44 ∷ []))))
    → drop at text ≡ (digits b ++ members k (b + 1) q (44 ∷ [])) ++ rest → Stops text (at + length (digits b ++ members k (b + 1) q (44 ∷ [])))
    → last < b → b ≤ limit → limit < 100000
    → members_at (suc f) limit text at last acc ≡ Some (acc + bit_of b + q * bit_of (b + 1), at + length (digits b ++ members k (b + 1) q (44 ∷ [])))
one_reads k b q f limit text at last acc rest tail e s lb bl lim =
    let M = members k (b + 1) q (44 ∷ []) in
    let p = at + length (digits b) in
    let len : at + length (digits b ++ M) ≡ p + length M = omega (arith, length-append (digits b) M) in
    let e₁ : drop at text ≡ digits b ++ (M ++ rest) = e ∙ append_assoc (digits b) M rest in
    let e₂ : drop p text ≡ M ++ rest = past text at (digits b) e₁ in
    let s₂ : Stops text (p + length M) = rw len at s in
    let stop : 10 ≤ digit_at text p = tail_stops k (b + 1) q text p rest e₂ s₂.no_digit in
    members_after f limit text at last acc b p (member_reads b limit text at last (M ++ rest) e₁ stop lb bl lim) ∙ tail (acc + bit_of b) p e₂ s₂ ∙ rw len refl

tail_reads : (k b q f limit : ℕ) (text : List ℕ) (at last acc : ℕ) (rest : List ℕ) → drop at text ≡ members k b q (44 ∷ []) ++ rest → Stops text (at + length (members k b q (44 ∷ [])))
    → last < b → b + k ≡ limit + 1 → limit < 100000 → k ≤ f → q < 2 ^ k → after f limit text at last acc ≡ Some (acc + q * bit_of b, at + length (members k b q (44 ∷ [])))
tail_reads zero b q f limit text at last acc rest e s lb bk lim kf top =
    let z : q ≡ 0 = omega arith in
    let M : members 0 b q (44 ∷ []) ≡ [] = members_nil b q (44 ∷ []) in
    let s' : Stops text at = rw (M, add-zero) at s in
    rw (M, ne_eqb (get_or text at 0) 44 s'.no_comma, z, zero-mul, add-zero, add-zero) refl
tail_reads (suc k) b q zero limit text at last acc rest e s lb bk lim kf top = absurd (omega arith)
tail_reads (suc k) b q (suc f) limit text at last acc rest e s lb bk lim kf top =
    ⊎_elim (λ (o : q % 2 ≡ 1).
    let D = digits b ++ members k (b + 1) (q / 2) (44 ∷ []) in
    let M : members (suc k) b q (44 ∷ []) ≡ 44 ∷ D = members_odd k b q (44 ∷ []) o in
    let e' : drop at text ≡ 44 ∷ (D ++ rest) = rw M at e in
    let len : at + length (44 ∷ D) ≡ at + 1 + length D = omega arith in
    let one = one_reads k b (q / 2) f limit text (at + 1) last acc rest
    (λ acc' place e'' s''. tail_reads k (b + 1) (q / 2) f limit text place b acc' rest e'' s'' (omega arith) (omega arith) lim (omega arith) (half_below q k top))
    (past_one text at e') (rw (M, len) at s) lb (omega arith) lim in
    rw (M, len, eq-eqb (get_or text at 0) 44 (here text at e')) (one ∙ ap (λ (v : ℕ). Some (v, at + 1 + length D)) (bits_odd q b acc (omega arith) o)))
    (λ (z : q % 2 ≡ 0).
    let M : members (suc k) b q (44 ∷ []) ≡ members k (b + 1) (q / 2) (44 ∷ []) = members_even k b q (44 ∷ []) z in
    rw (M, ← bits_even q b (omega arith) z) (tail_reads k (b + 1) (q / 2) (suc f) limit text at last acc rest (rw M at e) (rw M at s) (omega arith) (omega arith) lim (omega arith) (half_below q k top)))
    (parity q)

-- from the first member on
first_reads : (k b q f limit : ℕ) (text : List ℕ) (at last acc : ℕ) (rest : List ℕ) → drop at text ≡ members k b q [] ++ rest → Stops text (at + length (members k b q []))
    → 0 < q → last < b → b + k ≡ limit + 1 → limit < 100000 → k ≤ f → q < 2 ^ k → members_at f limit text at last acc ≡ Some (acc + q * bit_of b, at + length (members k b q []))
first_reads zero b q f limit text at last acc rest e s pos lb bk lim kf top = absurd (omega arith)
first_reads (suc k) b q zero limit text at last acc rest e s pos lb bk lim kf top = absurd (omega arith)
first_reads (suc k) b q (suc f) limit text at last acc rest e s pos lb bk lim kf top =
    ⊎_elim (λ (o : q % 2 ≡ 1).
    let D = digits b ++ members k (b + 1) (q / 2) (44 ∷ []) in
    let M : members (suc k) b q [] ≡ D = members_odd k b q [] o in
    let one = one_reads k b (q / 2) f limit text at last acc rest
    (λ acc' place e'' s''. tail_reads k (b + 1) (q / 2) f limit text place b acc' rest e'' s'' (omega arith) (omega arith) lim (omega arith) (half_below q k top))
    (rw M at e) (rw M at s) lb (omega arith) lim in
    rw M (one ∙ ap (λ (v : ℕ). Some (v, at + length D)) (bits_odd q b acc (omega arith) o)))
    (λ (z : q % 2 ≡ 0).
    let M : members (suc k) b q [] ≡ members k (b + 1) (q / 2) [] = members_even k b q [] z in
    rw (M, ← bits_even q b (omega arith) z) (first_reads k (b + 1) (q / 2) (suc f) limit text at last acc rest (rw M at e) (rw M at s) (omega arith) (omega arith) (omega arith) lim (omega arith) (half_below q k top)))
    (parity q)

pub world_reads : (limit w : ℕ) (text : List ℕ) (at : ℕ) (rest : List ℕ) → limit ≤ 32 → is_world limit w ≡ true → drop at text ≡ world_text w ++ rest → Stops text (at + length (world_text w)) → world_at limit text at ≡ Some (w, at + length (world_text w))
unfolding world_at is_world
world_reads limit w text at rest lim h e s =
    let b = both (ltb 0 w) (ltb w (2 ^ limit)) h in
    let pos : 0 < w = ltb-true 0 w b.0 in
    let top : w < 2 ^ limit = ltb-true w (2 ^ limit) b.1 in
    let W : world_text w ≡ members limit 1 w [] = world_few limit w lim top in
    let r = first_reads limit 1 w limit limit text at 0 0 rest (rw W at e) (rw W at s) pos (lit< tt) (omega arith) (omega arith) (omega arith) top in
    let v : 0 + w * bit_of 1 ≡ w = zero-add (w * 1) ∙ mul-one w in
    rw W (r ∙ ap (λ (x : ℕ). Some (x, at + length (members limit 1 w []))) v)

-- ---- what is read is what is written

-- benches below the lowest member are not spelled
members_skip : (j k b q : ℕ) (sep : List ℕ) → members (j + k) b (q * 2 ^ j) sep ≡ members k (b + j) q sep
members_skip zero k b q sep = rw (zero-add, add-zero, mul-one) refl
members_skip (suc j) k b q sep =
    let e : suc j + k ≡ suc (j + k) = omega arith in
    let d : q * 2 ^ suc j ≡ q * 2 ^ j * 2 = ap (λ (z : ℕ). q * z) (pow_next j) ∙ sym (mul_assoc q (2 ^ j) 2) in
    let n : b + 1 + j ≡ b + suc j = omega arith in
    let h : q * 2 ^ j * 2 / 2 ≡ q * 2 ^ j = omega arith in
    rw (e, d) (members_even (j + k) b (q * 2 ^ j * 2) sep (omega arith) ∙ rw h (members_skip j k (b + 1) q sep ∙ rw n refl))

-- a member in front has a comma in front of it
members_comma : (k b q : ℕ) → 0 < q → q < 2 ^ k → members k b q (44 ∷ []) ≡ 44 ∷ members k b q []
members_comma zero b q pos top = absurd (omega arith)
members_comma (suc k) b q pos top =
    ⊎_elim (λ (o : q % 2 ≡ 1). rw (members_odd k b q (44 ∷ []) o, members_odd k b q [] o) refl)
    (λ (z : q % 2 ≡ 0). rw (members_even k b q (44 ∷ []) z, members_even k b q [] z) (members_comma k (b + 1) (q / 2) (omega arith) (half_below q k top)))
    (parity q)

-- the bits of bench b and of the world q above it, where the benches are counted from `last` on
above : (last b q : ℕ) → last < b → (1 + q * 2) * 2 ^ (b - (last + 1)) * 2 ^ last ≡ bit_of b + q * 2 ^ b
above last b q h =
    let j = b - (last + 1) in
    let e : j + last ≡ b - 1 = omega arith in
    let s : b ≡ suc (b - 1) = omega arith in
    let p : 2 ^ b ≡ 2 ^ (b - 1) * 2 = ap (λ (z : ℕ). 2 ^ z) s ∙ pow_next (b - 1) in
    mul_assoc (1 + q * 2) (2 ^ j) (2 ^ last) ∙ ap (λ (z : ℕ). (1 + q * 2) * z) (sym (pow-add 2 j last) ∙ ap (λ (z : ℕ). 2 ^ z) e)
    ∙ add-mul 1 (q * 2) (2 ^ (b - 1)) ∙ rw (one-mul (2 ^ (b - 1)), twice_p q (2 ^ (b - 1)), ← p) refl

-- what was read from `at` on, with the benches up to `last` behind and w for all
record Reads (limit : ℕ) (text : List ℕ) (at last world w next : ℕ) : Type 0 where
  bits : ℕ
  sum : w ≡ world + bits * 2 ^ last
  some : 0 < bits
  top : bits < 2 ^ (limit - last)
  spans : Spans text at (members (limit - last) (last + 1) bits []) next

-- one member b, and the world q above it
module _ (limit : ℕ) (text : List ℕ) (at last world b n : ℕ) (m : MemberIs limit text at last b n) (q : ℕ) where
  scaled : ℕ
  scaled = (1 + q * 2) * 2 ^ (b - (last + 1))

  scaled_top : q < 2 ^ (limit - b) → scaled < 2 ^ (limit - last)
  unfolding scaled
  scaled_top h =
      let j = b - (last + 1) in
      let e : limit - last ≡ suc (limit - b) + j = omega (arith, m.above, m.most) in
      let t : 1 + q * 2 + 1 ≤ 2 ^ suc (limit - b) = omega (arith, pow_next (limit - b)) in
      rw (e, pow-add 2 (suc (limit - b)) j) (product (1 + q * 2) (2 ^ suc (limit - b)) (2 ^ j) t (pow_pos j))
    where
      product : (a c p : ℕ) → a + 1 ≤ c → 0 < p → a * p < c * p
      product a c p h k =
          let d : c ≡ a + (c - a) = omega arith in
          let s : c * p ≡ a * p + (c - a) * p = ap (λ (z : ℕ). z * p) d ∙ add-mul a (c - a) p in
          let g : (c - a) * p ≡ (c - a - 1) * p + 1 * p = ap (λ (z : ℕ). z * p) (step (c - a) (omega arith)) ∙ add-mul (c - a - 1) 1 p in
          omega (arith, one-mul p)
        where
          step : (x : ℕ) → 0 < x → x ≡ x - 1 + 1
          step x h = omega arith

  scaled_some : 0 < scaled
  unfolding scaled
  scaled_some = omega (arith, positive (1 + q * 2) (2 ^ (b - (last + 1))) (omega arith) (pow_pos (b - (last + 1))))
    where
      positive : (a p : ℕ) → 0 < a → 0 < p → 0 < a * p
      positive a p h k =
          let d : a ≡ a - 1 + 1 = omega arith in
          omega (arith, ap (λ (z : ℕ). z * p) d ∙ add-mul (a - 1) 1 p, one-mul p)

  scaled_text : members (limit - last) (last + 1) scaled [] ≡ digits b ++ members (limit - b) (b + 1) q (44 ∷ [])
  unfolding scaled
  scaled_text =
      let j = b - (last + 1) in
      let e : limit - last ≡ j + suc (limit - b) = omega (arith, m.above, m.most) in
      let s : last + 1 + j ≡ b = omega (arith, m.above) in
      let odd : (1 + q * 2) % 2 ≡ 1 = omega arith in
      let half : (1 + q * 2) / 2 ≡ q = omega arith in
      rw e (members_skip j (suc (limit - b)) (last + 1) (1 + q * 2) [] ∙ rw s (members_odd (limit - b) b (1 + q * 2) [] odd ∙ rw half refl))

  scaled_sum : world + bit_of b + q * 2 ^ b ≡ world + scaled * 2 ^ last
  unfolding scaled
  scaled_sum = omega (arith, above last b q m.above)

-- the last member, and one with others behind it
last_sound : (limit : ℕ) (text : List ℕ) (at last world b n : ℕ) → MemberIs limit text at last b n → Reads limit text at last world (world + bit_of b) n
last_sound limit text at last world b n m =
    let t : members (limit - last) (last + 1) (scaled limit text at last world b n m 0) [] ≡ digits b =
    scaled_text limit text at last world b n m 0 ∙ ap (λ (z : List ℕ). digits b ++ z) (members_zero (limit - b) (b + 1) (44 ∷ [])) ∙ append-nil (digits b) in
    let v : world + bit_of b + 0 * 2 ^ b ≡ world + bit_of b = ap (λ (z : ℕ). world + bit_of b + z) (zero-mul (2 ^ b)) ∙ add-zero (world + bit_of b) in
    record {
      bits = scaled limit text at last world b n m 0;
      sum = sym v ∙ scaled_sum limit text at last world b n m 0;
      some = scaled_some limit text at last world b n m 0;
      top = scaled_top limit text at last world b n m 0 (pow_pos (limit - b));
      spans = rw t (number_sound text at b n m.number).spans;
    }

more_sound : (limit : ℕ) (text : List ℕ) (at last world b n w next : ℕ) → MemberIs limit text at last b n → get_or text n 0 ≡ 44 → Reads limit text (n + 1) b (world + bit_of b) w next → Reads limit text at last world w next
more_sound limit text at last world b n w next m comma r =
    let q = r.bits in
    let inside : n + 1 ≤ length text = byte_within text n (omega arith) in
    let t : members (limit - last) (last + 1) (scaled limit text at last world b n m q) [] ≡ digits b ++ ((44 ∷ []) ++ members (limit - b) (b + 1) q []) =
    scaled_text limit text at last world b n m q ∙ ap (λ (z : List ℕ). digits b ++ z) (members_comma (limit - b) (b + 1) q r.some r.top) in
    record {
      bits = scaled limit text at last world b n m q;
      sum = r.sum ∙ scaled_sum limit text at last world b n m q;
      some = scaled_some limit text at last world b n m q;
      top = scaled_top limit text at last world b n m q r.top;
      spans = rw t (spans_then (number_sound text at b n m.number).spans (spans_then (spans_byte text n (omega arith) comma) r.spans));
    }

members_sound : (f limit : ℕ) (text : List ℕ) (at last world w next : ℕ) → members_at f limit text at last world ≡ Some (w, next) → Reads limit text at last world w next
unfolding members_at
members_sound zero limit text at last world w next got = clash (cc)
members_sound (suc f) limit text at last world w next got =
    go (member_at limit text at last) refl got (λ b n g. members_sound f limit text (n + 1) b (world + bit_of b) w next g)
  where
    go : (m : Found ℕ) → member_at limit text at last ≡ m
        → (m >>= (λ (b, n). cond (eqb (get_or text n 0) 44) (members_at f limit text (n + 1) b (world + bit_of b)) (Some (world + bit_of b, n)))) ≡ Some (w, next)
        → ((b n : ℕ) → members_at f limit text (n + 1) b (world + bit_of b) ≡ Some (w, next) → Reads limit text (n + 1) b (world + bit_of b) w next)
        → Reads limit text at last world w next
    go None e g ih = clash (cc)
    go (Some (b, n)) e g ih =
        let m = member_sound limit text at last b n e in
        split (eqb (get_or text n 0) 44)
        (λ t. more_sound limit text at last world b n w next m (eqb-true (get_or text n 0) 44 t) (ih b n (rw t at g)))
        (λ t.
        let same = same_found (rw t at g) in
        rw (← same.0, ← same.1) (last_sound limit text at last world b n m))

-- w stands at a place, and is one that can be written
pub record WorldIs (limit : ℕ) (text : List ℕ) (at w next : ℕ) : Type 0 where
  pub spans : Spans text at (world_text w) next
  pub is_world_lem : is_world limit w ≡ true

pub world_sound : (limit : ℕ) (text : List ℕ) (at w next : ℕ) → limit ≤ 32 → world_at limit text at ≡ Some (w, next) → WorldIs limit text at w next
unfolding world_at is_world
world_sound limit text at w next lim got =
    let r = members_sound limit limit text at 0 0 w next got in
    let e : w ≡ r.bits = r.sum ∙ zero-add (r.bits * 1) ∙ mul-one r.bits in
    let z : limit - 0 ≡ limit = omega arith in
    let top : r.bits < 2 ^ limit = rw z at r.top in
    let s : Spans text at (members limit 1 r.bits []) next = rw z at r.spans in
    rw e (record { spans = rw (world_few limit r.bits lim top) s; is_world_lem = rw (lt-ltb 0 r.bits r.some, lt-ltb r.bits (2 ^ limit) top) refl })
