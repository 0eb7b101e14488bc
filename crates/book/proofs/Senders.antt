-- The tags of a slot, sender by sender: a slot's tags are those of its senders in rising number, and how each sender's change as sweeps are
-- added, dropped by an end, or handed out. By induction over the senders, and over the sweeps. Assumes nothing.
use mathlib.Core.Path.{◌≡◌, refl, sym, ap, ◌∙◌}
use Prim.Native.Nat.{ℕ, zero, suc, ◌≤◌, ◌<◌}
use mathlib.Core.Bool.{Bool, true, false, cond, not, ◌&&◌}
use mathlib.Core.List.{List, [], ◌∷◌, ◌++◌, map, append-nil, map-append}
use native.Mathlib.Omega.{arith}
use lib.Dec.{eqb, leb}
use borrow.Author.Tests.{eqb-true, eq-eqb, ne_eqb, lt-leb, le-leb}
use Rattle.common.proofs.Tests.{both, clash, split}
use Rattle.common.specs.Benches.{In}
use Rattle.book.specs.Book.{Sweep, only, tags_of}
use Rattle.book.specs.Sweeps.{sent_in, sent_from, of_slot}
use Rattle.book.proofs.Only.{only_append}

-- the tags of sender i in slot k
unfoldable pub tags_by : ℕ → ℕ → List Sweep → List ℕ
tags_by i k l = map (λ w. w.tag) (only (sent_in i k) l)

-- for senders 1 to n, in rising number
unfoldable pub gather : ℕ → (ℕ → List ℕ) → List ℕ
gather zero f = []
gather (suc k) f = gather k f ++ f (suc k)

pub tags_gather : (n k : ℕ) (l : List Sweep) → tags_of n k l ≡ gather n (λ i. tags_by i k l)
unfolding tags_of gather tags_by
tags_gather zero k l = refl
tags_gather (suc n) k l = rw (tags_gather n k l) refl

pub gather_same : (n : ℕ) (f g : ℕ → List ℕ) → ((i : ℕ) → In n i → f i ≡ g i) → gather n f ≡ gather n g
unfolding gather
gather_same zero f g h = refl
gather_same (suc n) f g h = let a = gather_same n f g (λ i k. h i (omega arith)) in let b = h (suc n) (omega arith) in cc

pub by_append : (i j : ℕ) (p q : List Sweep) → tags_by i j (p ++ q) ≡ tags_by i j p ++ tags_by i j q
unfolding tags_by
by_append i j p q = rw (only_append (sent_in i j) p q, map-append)

-- the tags of each slot as w has them, and one more, x, behind those of slot k
unfoldable pub tagged : (ℕ → List ℕ) → ℕ → ℕ → ℕ → List ℕ
tagged w k x j = w j ++ cond (eqb k j) (x ∷ []) []

pub tagged_other : (w : ℕ → List ℕ) (k x j : ℕ) → (j ≡ k → ⊥) → tagged w k x j ≡ w j
unfolding tagged
tagged_other w k x j ne = let z : eqb k j ≡ false = ne_eqb k j (λ e. ne (sym e)) in rw z (append-nil (w j))

-- one sweep more, of this sender or of another
pub by_more : (b k t : ℕ) (l : List Sweep) (j : ℕ) → tags_by b j (l ++ (record { sender = b; slot = k; tag = t } ∷ [])) ≡ tagged (λ j. tags_by b j l) k t j
unfolding tags_by only tagged
by_more b k t l j = by_append b j l (record { sender = b; slot = k; tag = t } ∷ []) ∙ ap (λ z. tags_by b j l ++ z) (one (eqb k j) refl)
  where
    one : (c : Bool) → eqb k j ≡ c → tags_by b j (record { sender = b; slot = k; tag = t } ∷ []) ≡ cond (eqb k j) (t ∷ []) []
    one true e = rw (eq-eqb b b refl, e) refl
    one false e = rw (eq-eqb b b refl, e) refl

pub by_other : (b k t : ℕ) (l : List Sweep) (i j : ℕ) → (i ≡ b → ⊥) → tags_by i j (l ++ (record { sender = b; slot = k; tag = t } ∷ [])) ≡ tags_by i j l
unfolding tags_by only
by_other b k t l i j ne = by_append i j l (record { sender = b; slot = k; tag = t } ∷ []) ∙ ap (λ z. tags_by i j l ++ z) (rw (ne_eqb b i (λ e. ne (sym e))) refl) ∙ append-nil (tags_by i j l)

-- a test that all sweeps of the sender in the slot pass leaves its tags
pub by_only : (p : Sweep → Bool) (i j : ℕ) → ((x : Sweep) → x.sender ≡ i → x.slot ≡ j → p x ≡ true) → (l : List Sweep) → tags_by i j (only p l) ≡ tags_by i j l
unfolding tags_by only
by_only p i j h [] = refl
by_only p i j h (x ∷ l) = split (eqb x.sender i && eqb x.slot j)
    (λ e. let z = both (eqb x.sender i) (eqb x.slot j) e in let y = h x (eqb-true x.sender i z.0) (eqb-true x.slot j z.1) in
    let ih = by_only p i j h l in rw (y, e) (ap (λ z. x.tag ∷ z) ih))
    (λ e. let ih = by_only p i j h l in split (p x) (λ y. rw (y, e) ih) (λ y. rw (y, e) ih))

-- an end of sender g at e drops what is held of it from e on, and nothing else
pub by_cut : (g e i j : ℕ) → (i ≡ g → j < e) → (l : List Sweep) → tags_by i j (only (λ x. not (sent_from g e x)) l) ≡ tags_by i j l
by_cut g e i j h l = by_only (λ x. not (sent_from g e x)) i j (λ x p q. kept x p q (eqb x.sender g) refl) l
  where
    kept : (x : Sweep) → x.sender ≡ i → x.slot ≡ j → (c : Bool) → eqb x.sender g ≡ c → not (sent_from g e x) ≡ true
    kept x p q true y = let z : leb e x.slot ≡ false = lt-leb e x.slot (omega (arith, h (sym p ∙ eqb-true x.sender g y))) in cc
    kept x p q false y = cc

pub by_dropped : (g e j : ℕ) → e ≤ j → (l : List Sweep) → tags_by g j (only (λ x. not (sent_from g e x)) l) ≡ []
unfolding tags_by only
by_dropped g e j le [] = refl
by_dropped g e j le (x ∷ l) = let ih = by_dropped g e j le l in split (sent_from g e x)
    (λ c. rw c ih)
    (λ c. split (eqb x.sender g && eqb x.slot j)
    (λ q. let z = both (eqb x.sender g) (eqb x.slot j) q in let y = eqb-true x.slot j z.1 in let u : leb e x.slot ≡ true = le-leb e x.slot (omega arith) in let z₀ = z.0 in clash (cc))
    (λ q. rw (c, q) ih))

-- a hand-out of slot k leaves the other slots
pub by_left : (k i j : ℕ) → (j ≡ k → ⊥) → (l : List Sweep) → tags_by i j (only (λ x. not (of_slot k x)) l) ≡ tags_by i j l
by_left k i j ne l = by_only (λ x. not (of_slot k x)) i j (λ x p q. let z : eqb x.slot k ≡ false = ne_eqb x.slot k (λ e. ne (sym q ∙ e)) in cc) l
