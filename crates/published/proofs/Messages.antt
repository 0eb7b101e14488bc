-- Laws of lists of messages: what is found in them, what stands behind OUT, what was taken of what was sent. Assumes nothing.
use mathlib.Core.Path.{◌≡◌, refl, sym, ap, ◌∙◌}
use Prim.Native.Nat.{ℕ, zero, suc, ◌<◌}
use mathlib.Core.Bool.{Bool, true, false, ◌||◌, true≢false, false≢true, or-true}
use mathlib.Core.List.{List, [], ◌∷◌, ◌++◌, append_assoc, append-nil}
use native.Mathlib.Omega.{arith}
use lib.ListN.{length, drop}
use lib.Dec.{eqb}
use borrow.Author.Tests.{eqb-true}
use Rattle.published.specs.Rounds.{Message, Round, Out, Found, absent, found, find, has_out}
use Rattle.common.proofs.Tests.{clash, split}

-- ---- the round r message, and OUT

pub never : {A : Type 0} (k : Found) (v w : ℕ) → k ≡ absent → k ≡ found v w → A
never k v w p q = clash (cc)

pub find_found : (r : ℕ) (p q : List Message) (v w : ℕ) → find r p ≡ found v w → find r (p ++ q) ≡ found v w
unfolding find
find_found r [] q v w e = cc
find_found r (Out ∷ p) q v w e = find_found r p q v w e
find_found r (Round k u y ∷ p) q v w e = split (eqb k r)
    (λ c. cc)
    (λ c. let e' : find r p ≡ found v w = cc in let ih = find_found r p q v w e' in cc)

pub find_absent : (r : ℕ) (p q : List Message) → find r p ≡ absent → find r (p ++ q) ≡ find r q
unfolding find
find_absent r [] q e = refl
find_absent r (Out ∷ p) q e = find_absent r p q e
find_absent r (Round k u y ∷ p) q e = split (eqb k r)
    (λ c. cc)
    (λ c. let e' : find r p ≡ absent = cc in let ih = find_absent r p q e' in cc)

pub find_one : (r q v₀ w₀ v w : ℕ) → find r (Round q v₀ w₀ ∷ []) ≡ found v w → (r ≡ q) × (v ≡ v₀) × (w ≡ w₀)
unfolding find
find_one r q v₀ w₀ v w e = split (eqb q r)
    (λ c. let p = eqb-true q r c in (sym p, (cc), (cc)))
    (λ c. never absent v w refl (cc))

-- what is found in two lists is found in the first or in the second
pub find_append : {A : Type 0} (r : ℕ) (p q : List Message) (v w : ℕ) → find r (p ++ q) ≡ found v w → (find r p ≡ found v w → A) → (find r q ≡ found v w → A) → A
find_append {A} r p q v w e f g = go (find r p) refl
  where
    go : (k : Found) → find r p ≡ k → A
    go absent z = g (sym (find_absent r p q z) ∙ e)
    go (found u y) z = f (z ∙ sym (find_found r p q u y z) ∙ e)

pub find_out : (r : ℕ) (l : List Message) → find r (l ++ (Out ∷ [])) ≡ find r l
unfolding find
find_out r [] = refl
find_out r (Out ∷ l) = find_out r l
find_out r (Round q v w ∷ l) = rw (find_out r l) refl

pub has_out_append : (p q : List Message) → has_out (p ++ q) ≡ (has_out p || has_out q)
unfolding has_out
has_out_append [] q = refl
has_out_append (Out ∷ p) q = refl
has_out_append (Round k u y ∷ p) q = has_out_append p q

pub has_out_last : (l : List Message) → has_out (l ++ (Out ∷ [])) ≡ true
unfolding has_out
has_out_last l = has_out_append l (Out ∷ []) ∙ or-true (has_out l)

-- ---- nothing stands behind OUT

pub tidy : List Message → Bool
tidy [] = true
tidy (Out ∷ []) = true
tidy (Out ∷ m ∷ l) = false
tidy (Round k u y ∷ l) = tidy l

pub tidy_nil : tidy [] ≡ true
unfolding tidy
tidy_nil = refl

pub tidy_snoc : (l : List Message) (m : Message) → has_out l ≡ false → tidy (l ++ (m ∷ [])) ≡ true
unfolding tidy has_out
tidy_snoc [] Out e = refl
tidy_snoc [] (Round k u y) e = refl
tidy_snoc (Out ∷ l) m e = absurd (true≢false e)
tidy_snoc (Round k u y ∷ l) m e = tidy_snoc l m e

tidy_rest : (p q : List Message) → tidy (p ++ q) ≡ true → has_out p ≡ true → q ≡ []
unfolding tidy has_out
tidy_rest [] q t e = absurd (false≢true e)
tidy_rest (Out ∷ []) [] t e = refl
tidy_rest (Out ∷ []) (m ∷ q) t e = absurd (false≢true t)
tidy_rest (Out ∷ m ∷ p) q t e = absurd (false≢true t)
tidy_rest (Round k u y ∷ p) q t e = tidy_rest p q t e

-- ---- what was taken is the first part of what was sent

-- the messages p are the first of l
abbrev pub Pre : List Message → List Message → Type 0
Pre p l = l ≡ p ++ drop (length p) l

-- where OUT is among the messages taken, they are all that was sent
pub all_taken : (l p q : List Message) → l ≡ p ++ q → tidy l ≡ true → has_out p ≡ true → l ≡ p
all_taken l p q e t h = e ∙ ap (λ z. p ++ z) (tidy_rest p q (rw e at t) h) ∙ append-nil p

pub drop_length : (p q : List Message) → drop (length p) (p ++ q) ≡ q
drop_length [] q = refl
drop_length (m ∷ p) q = drop_length p q

-- more was sent than is left out exactly where a message is left
pub drop_some : (k : ℕ) (l : List Message) → k < length l → (m : Message) × (q : List Message) × (drop k l ≡ m ∷ q)
drop_some zero [] h = absurd (omega arith)
drop_some zero (x ∷ l) h = (x, l, refl)
drop_some (suc k) [] h = absurd (omega arith)
drop_some (suc k) (x ∷ l) h = drop_some k l (omega arith)

pub drop_short : (k : ℕ) (l : List Message) (m : Message) (q : List Message) → drop k l ≡ m ∷ q → k < length l
drop_short zero [] m q e = clash (cc)
drop_short zero (x ∷ l) m q e = omega arith
drop_short (suc k) [] m q e = clash (cc)
drop_short (suc k) (x ∷ l) m q e = omega (arith, drop_short k l m q e)

pub length_last : (l : List Message) (m : Message) → length (l ++ (m ∷ [])) ≡ suc (length l)
length_last [] m = refl
length_last (x ∷ l) m = ap suc (length_last l m)

-- the next message is taken
pub pre_next : (l p : List Message) (m : Message) (q : List Message) → Pre p l → drop (length p) l ≡ m ∷ q → Pre (p ++ (m ∷ [])) l
pre_next l p m q e d =
    let e' : l ≡ (p ++ (m ∷ [])) ++ q = e ∙ ap (λ z. p ++ z) d ∙ sym (append_assoc p (m ∷ []) q) in
    e' ∙ ap (λ z. (p ++ (m ∷ [])) ++ z) (sym (ap (λ z. drop (length (p ++ (m ∷ []))) z) e' ∙ drop_length (p ++ (m ∷ [])) q))

-- more is sent
pub pre_more : (l p m : List Message) → Pre p l → Pre p (l ++ m)
pre_more l p m e =
    let e' : l ++ m ≡ p ++ (drop (length p) l ++ m) = ap (λ z. z ++ m) e ∙ append_assoc p (drop (length p) l) m in
    e' ∙ ap (λ z. p ++ z) (sym (ap (λ z. drop (length p) z) e' ∙ drop_length p (drop (length p) l ++ m)))
