-- A number's digits are those that std writes, and how many there are. Assumes nothing.
use Rattle.std.proofs.Common.{◌≡◌, ℕ, ◌+◌, ◌/◌, ◌%◌, ◌^◌, ◌<◌, ◌≤◌, List, [], ◌∷◌, ◌++◌, length, take, drop, refl, sym, ◌∙◌, arith, cond, leb, Bool, true, ◌&&◌, length-append}
use Rattle.std.specs.Fmt.{decimal}
use Rattle.std.specs.List.{prefix_len}
use Rattle.std.proofs.lemmas.Fmt.{decimal_by_steps}
use borrow.Author.Tests.{leb-true, leb-false, lt-leb}
use Rattle.common.proofs.Tests.{both, split}
use Rattle.spelling.specs.Numbers.{digits, leads}
use Rattle.spelling.specs.Stored.{Stored}
use Rattle.room.specs.declared.decimal.TheConstants.{POWERS}
use Rattle.spelling.specs.Storing.{places, low, four}
use Rattle.spelling.proofs.Decimals.{digits_small, digits_large, digits_low, lead_none, lead_some}
use Rattle.room.proofs.Cuts.{stored_from}

digits_decimal : (n : ℕ) → n < 2 ^ 32 → digits n ≡ decimal n
digits_decimal n t =
    decimal_by_steps (λ m ds. m < 10000000000 → digits m ≡ ds) (λ m h _. digits_small m h)
    (λ m ds h ih u. digits_large m h u ∙ rw (ih (omega arith)) refl) n (omega arith) (omega arith)

-- up to five digits, each of them by what it is
module _ (n : ℕ) where
  pub one_digit : {a : ℕ} → n < 10 → a ≡ 48 + n % 10 → digits n ≡ a ∷ []
  unfolding low four
  one_digit t ea = digits_low n (omega arith) ∙ simp (lead_none 10000 n (omega arith), lead_none 1000 n (omega arith), lead_none 100 n (omega arith), lead_none 10 n (omega arith), ea)

  pub two_digits : {a b : ℕ} → 10 ≤ n → n < 100 → a ≡ 48 + n / 10 % 10 → b ≡ 48 + n % 10 → digits n ≡ a ∷ b ∷ []
  unfolding low four
  two_digits h t ea eb = digits_low n (omega arith) ∙ simp (lead_none 10000 n (omega arith), lead_none 1000 n (omega arith), lead_none 100 n (omega arith), lead_some 10 n h, ea, eb)

  pub three_digits : {a b c : ℕ} → 100 ≤ n → n < 1000 → a ≡ 48 + n / 100 % 10 → b ≡ 48 + n / 10 % 10 → c ≡ 48 + n % 10 → digits n ≡ a ∷ b ∷ c ∷ []
  unfolding low four
  three_digits h t ea eb ec = digits_low n (omega arith) ∙ simp (lead_none 10000 n (omega arith), lead_none 1000 n (omega arith), lead_some 100 n h, lead_some 10 n (omega arith), ea, eb, ec)

  pub four_digits : {a b c d : ℕ} → 1000 ≤ n → n < 10000 → a ≡ 48 + n / 1000 % 10 → b ≡ 48 + n / 100 % 10 → c ≡ 48 + n / 10 % 10 → d ≡ 48 + n % 10 → digits n ≡ a ∷ b ∷ c ∷ d ∷ []
  unfolding low four
  four_digits h t ea eb ec ed = digits_low n (omega arith) ∙ simp (lead_none 10000 n (omega arith), lead_some 1000 n h, lead_some 100 n (omega arith), lead_some 10 n (omega arith), ea, eb, ec, ed)

  pub five_digits : {a b c d e : ℕ} → 10000 ≤ n → n < 100000 → a ≡ 48 + n / 10000 % 10 → b ≡ 48 + n / 1000 % 10 → c ≡ 48 + n / 100 % 10 → d ≡ 48 + n / 10 % 10 → e ≡ 48 + n % 10 → digits n ≡ a ∷ b ∷ c ∷ d ∷ e ∷ []
  unfolding low four
  five_digits h t ea eb ec ed ee = digits_low n (omega arith) ∙ simp (lead_some 10000 n h, lead_some 1000 n (omega arith), lead_some 100 n (omega arith), lead_some 10 n (omega arith), ea, eb, ec, ed, ee)

-- what `write_digits` asks for and leaves, where the digits of n are k and m is n
module _ (l : List ℕ) (at n m k : ℕ) (t : n < 2 ^ 32) (same : m ≡ n) (long : k ≡ length (digits n)) (inside : at + length (digits n) ≤ length l) where
  is_decimal : decimal m ≡ digits n
  is_decimal = rw same (sym (digits_decimal n t))

  pub decimal_room : (length (decimal m) ≤ at + k) × (at + k ≤ length l)
  decimal_room = rw is_decimal (omega arith)

  pub decimal_stored : (l' : List ℕ) (r : ℕ) → r + length (decimal m) ≡ at + k → drop r l' ≡ decimal m ++ drop (at + k) l → take r l' ≡ take r l → Stored l at (digits n) (at + k) l'
  decimal_stored l' r start written before =
      let first : r ≡ at = omega (arith, rw is_decimal at start) in
      let end : at + k ≡ at + length (digits n) = omega arith in
      rw end (stored_from l at (digits n) inside l' (rw first at before) (rw (first, is_decimal, end) at written))

-- ---- how many digits: one, and one at each place that n reaches

reached : ℕ → List ℕ → ℕ
reached n [] = 0
reached n (p ∷ ps) = cond (leb p n) 1 0 + reached n ps

leads_reached : (ps : List ℕ) (n : ℕ) → length (leads ps n) ≡ reached n ps
unfolding leads reached
leads_reached [] n = refl
leads_reached (p ∷ ps) n = split (leb p n) (λ e. rw e (omega (arith, leads_reached ps n))) (λ e. rw e (omega (arith, leads_reached ps n)))

-- none falls
rises : ℕ → List ℕ → Bool
rises m [] = true
rises m (p ∷ ps) = leb m p && rises p ps

none_reached : (ps : List ℕ) (m n : ℕ) → rises m ps ≡ true → n < m → reached n ps ≡ 0
unfolding reached rises
none_reached [] m n up h = refl
none_reached (p ∷ ps) m n up h =
    let b = both (leb m p) (rises p ps) up in
    let below : n < p = omega (arith, leb-true m p b.0) in
    rw (lt-leb p n below) (omega (arith, none_reached ps p n b.1 below))

front_reached : (ps : List ℕ) (m n : ℕ) → rises m ps ≡ true → prefix_len (λ p. leb p n) ps ≡ reached n ps
unfolding reached rises
front_reached [] m n up = refl
front_reached (p ∷ ps) m n up =
    let b = both (leb m p) (rises p ps) up in
    split (leb p n) (λ e. rw e (omega (arith, front_reached ps p n b.1)))
    (λ e. rw e (omega (arith, none_reached ps p n b.1 (leb-false p n e))))

same_reached : (n : ℕ) → reached n POWERS ≡ reached n places
unfolding reached
same_reached n = omega arith

pub digits_reached : (n k : ℕ) → k ≡ prefix_len (λ p. leb p n) POWERS → 1 + k ≡ length (digits n)
unfolding digits rises
digits_reached n k e =
    omega (arith, front_reached POWERS 0 n refl, same_reached n, leads_reached places n, length-append (leads places n) ((48 + n % 10) ∷ []))
