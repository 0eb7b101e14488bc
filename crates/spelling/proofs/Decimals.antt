-- Numbers written: the digits of n, by their places, and from n / 10 with one digit more. Assumes nothing.
use Prim.Native.Nat.{ℕ, ◌+◌, ◌*◌, ◌/◌, ◌%◌, ◌≤◌, ◌<◌}
use native.Mathlib.Omega.{arith}
use mathlib.Core.List.{List, [], ◌∷◌, ◌++◌, append_assoc, append-nil}
use mathlib.Core.Logic.{⊎_elim}
use mathlib.Core.Path.{◌≡◌, refl, sym, ap, ◌∙◌, subst}
use lib.Dec.{leb}
use lib.ListN.{length, length-append}
use borrow.Author.Tests.{le-leb, lt-leb}
use Rattle.common.proofs.Tests.{split}
use Rattle.spelling.proofs.Places.{le_or_lt}
use Rattle.spelling.specs.Numbers.{leads, digits}
use Rattle.spelling.specs.Storing.{lead, four, high, low}

pub lead_none : (p n : ℕ) → n < p → lead p n ≡ []
unfolding lead
lead_none p n h = simp (lt-leb p n h)

pub lead_some : (p n : ℕ) → p ≤ n → lead p n ≡ (48 + n / p % 10) ∷ []
unfolding lead
lead_some p n h = simp (le-leb p n h)

leads_nil : (n : ℕ) → leads [] n ≡ []
unfolding leads
leads_nil n = refl

pub leads_lead : (p : ℕ) (ps : List ℕ) (n : ℕ) → leads (p ∷ ps) n ≡ lead p n ++ leads ps n
unfolding lead leads
leads_lead p ps n = split (leb p n) (λ e. rw e refl) (λ e. rw e refl)

-- ---- the parts that the code stores

pub high_low : (n : ℕ) → digits n ≡ high n ++ low n
unfolding digits high low four
high_low n = simp (leads_lead, leads_nil, append_assoc, append-nil)

pub high_none : (n : ℕ) → n < 100000 → high n ≡ []
unfolding high four
high_none n h = simp (lead_none 1000000000 n (omega arith), lead_none 100000000 n (omega arith), lead_none 10000000 n (omega arith), lead_none 1000000 n (omega arith), lead_none 100000 n (omega arith))

pub digits_low : (n : ℕ) → n < 100000 → digits n ≡ low n
digits_low n h = high_low n ∙ rw (high_none n h) refl

pub digits_small : (n : ℕ) → n < 10 → digits n ≡ (48 + n) ∷ []
unfolding low four
digits_small n h =
    let e : n % 10 ≡ n = omega arith in
    digits_low n (omega arith) ∙ simp (lead_none 10000 n (omega arith), lead_none 1000 n (omega arith), lead_none 100 n (omega arith), lead_none 10 n (omega arith), e)

-- ---- one digit more

lead_same : (p n q m : ℕ) → (p ≤ n → q ≤ m) → (n < p → m < q) → n / p % 10 ≡ m / q % 10 → lead p n ≡ lead q m
lead_same p n q m up down e =
    ⊎_elim (λ (h : p ≤ n). lead_some p n h ∙ ap (λ (d : ℕ). (48 + d) ∷ []) e ∙ sym (lead_some q m (up h)))
    (λ (h : n < p). lead_none p n h ∙ sym (lead_none q m (down h))) (le_or_lt p n)

pub digits_snoc : (v x : ℕ) → 0 < v → v < 1000000000 → x < 10 → digits (v * 10 + x) ≡ digits v ++ ((48 + x) ∷ [])
unfolding high low four
digits_snoc v x pos top hx =
    let n = v * 10 + x in
    let e9 : lead 1000000000 n ≡ lead 100000000 v = lead_same 1000000000 n 100000000 v (λ h. omega arith) (λ h. omega arith) (omega arith) in
    let e8 : lead 100000000 n ≡ lead 10000000 v = lead_same 100000000 n 10000000 v (λ h. omega arith) (λ h. omega arith) (omega arith) in
    let e7 : lead 10000000 n ≡ lead 1000000 v = lead_same 10000000 n 1000000 v (λ h. omega arith) (λ h. omega arith) (omega arith) in
    let e6 : lead 1000000 n ≡ lead 100000 v = lead_same 1000000 n 100000 v (λ h. omega arith) (λ h. omega arith) (omega arith) in
    let e5 : lead 100000 n ≡ lead 10000 v = lead_same 100000 n 10000 v (λ h. omega arith) (λ h. omega arith) (omega arith) in
    let e4 : lead 10000 n ≡ lead 1000 v = lead_same 10000 n 1000 v (λ h. omega arith) (λ h. omega arith) (omega arith) in
    let e3 : lead 1000 n ≡ lead 100 v = lead_same 1000 n 100 v (λ h. omega arith) (λ h. omega arith) (omega arith) in
    let e2 : lead 100 n ≡ lead 10 v = lead_same 100 n 10 v (λ h. omega arith) (λ h. omega arith) (omega arith) in
    let e1 : lead 10 n ≡ (48 + v % 10) ∷ [] = lead_some 10 n (omega arith) ∙ ap (λ (d : ℕ). (48 + d) ∷ []) (omega arith) in
    let e0 : n % 10 ≡ x = omega arith in
    let z : lead 1000000000 v ≡ [] = lead_none 1000000000 v (omega arith) in
    rw (high_low n, high_low v) (simp (e9, e8, e7, e6, e5, e4, e3, e2, e1, e0, z, append_assoc))

pub digits_large : (n : ℕ) → 10 ≤ n → n < 10000000000 → digits n ≡ digits (n / 10) ++ ((48 + n % 10) ∷ [])
digits_large n h t =
    let e : n / 10 * 10 + n % 10 ≡ n = omega arith in
    subst (λ (m : ℕ). digits m ≡ digits (n / 10) ++ ((48 + n % 10) ∷ [])) e (digits_snoc (n / 10) (n % 10) (omega arith) (omega arith) (omega arith))

-- ---- how many there are

lead_length : (p n : ℕ) → length (lead p n) ≤ 1
unfolding lead
lead_length p n = ⊎_elim (λ (h : p ≤ n). simp (le-leb p n h) (omega arith)) (λ (h : n < p). simp (lt-leb p n h) (omega arith)) (le_or_lt p n)

pub low_length : (n : ℕ) → (1 ≤ length (low n)) × (length (low n) ≤ 5)
unfolding low four
low_length n = simp length-append (omega (arith, lead_length 10000 n, lead_length 1000 n, lead_length 100 n, lead_length 10 n))

pub high_length : (n : ℕ) → length (high n) ≤ 5
unfolding high four
high_length n = simp length-append (omega (arith, lead_length 1000000000 n, lead_length 100000000 n, lead_length 10000000 n, lead_length 1000000 n, lead_length 100000 n))

pub digits_length : (n : ℕ) → (1 ≤ length (digits n)) × (length (digits n) ≤ 10)
digits_length n = rw (high_low n) (omega (arith, length-append (high n) (low n), high_length n, low_length n))

pub number_short : (n : ℕ) {k : ℕ} → k ≡ length (digits n) → k ≤ 10
number_short n e = omega (arith, digits_length n)

pub small_length : (n : ℕ) → n < 100000 → (1 ≤ length (digits n)) × (length (digits n) ≤ 5)
small_length n h = rw (digits_low n h) (low_length n)
