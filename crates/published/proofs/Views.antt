-- Laws of views: how a bench sees another, and the least value among those heard. Assumes nothing.
use mathlib.Core.Path.{◌≡◌, refl}
use Prim.Native.Nat.{ℕ, zero, suc, ◌≤◌, min}
use mathlib.Core.Bool.{Bool, true, false, not}
use native.Mathlib.Omega.{arith}
use lib.Dec.{eqb, leb}
use borrow.Author.Tests.{eqb-true, eqb-false, leb-true, leb-false}
use Rattle.published.specs.Rounds.{Bench, Found, absent, found, View, heard, excused, missed, awaited, find, has_out, view_of, got, see, is_awaited, agrees, lesser, least_on, decides, decides_on, settled, settled_on}
use Rattle.common.specs.Worlds.{member}
use Rattle.common.proofs.Tests.{split, clash}
use Rattle.common.specs.Benches.{In}
use Rattle.common.proofs.Worlds.{every_in_get, every_in_make}

-- ---- heard, excused, missed, awaited

pub view_of_ind : (P : View → Type 0) (k : Found) (o g : Bool)
    → ((v w : ℕ) → k ≡ found v w → P (heard v w)) → (k ≡ absent → o ≡ true → P excused)
    → (k ≡ absent → o ≡ false → g ≡ true → P missed) → (k ≡ absent → o ≡ false → g ≡ false → P awaited) → P (view_of k o g)
unfolding view_of
view_of_ind P (found v w) o g h e m a = h v w refl
view_of_ind P absent true g h e m a = e refl refl
view_of_ind P absent false true h e m a = m refl refl refl
view_of_ind P absent false false h e m a = a refl refl refl

pub see_heard : (b : ℕ) (x : Bench) (i v w : ℕ) → see b x i ≡ heard v w → find x.round (got b x i) ≡ found v w
unfolding see
see_heard b x i v w = view_of_ind (λ z. z ≡ heard v w → find x.round (got b x i) ≡ found v w) (find x.round (got b x i)) (has_out (got b x i)) (x.noticed i)
    (λ u y e h. cc) (λ e o h. cc) (λ e o g h. cc) (λ e o g h. cc)

-- an awaited bench: nothing of this round has come, no OUT, and no failure is noticed
pub see_awaited : (b : ℕ) (x : Bench) (i : ℕ) → see b x i ≡ awaited → (find x.round (got b x i) ≡ absent) × (has_out (got b x i) ≡ false) × (x.noticed i ≡ false)
unfolding see
see_awaited b x i = view_of_ind (λ z. z ≡ awaited → (find x.round (got b x i) ≡ absent) × (has_out (got b x i) ≡ false) × (x.noticed i ≡ false))
    (find x.round (got b x i)) (has_out (got b x i)) (x.noticed i)
    (λ u y e h. clash (cc)) (λ e o h. clash (cc)) (λ e o g h. clash (cc)) (λ e o g h. (e, o, g))

pub is_awaited_lem : (z : View) → is_awaited z ≡ true → z ≡ awaited
unfolding is_awaited
is_awaited_lem (heard v w) e = clash (cc)
is_awaited_lem excused e = clash (cc)
is_awaited_lem missed e = clash (cc)
is_awaited_lem awaited e = refl

-- whoever agrees is not awaited, so a bench that decides awaits nobody
agrees_settles : (n v w : ℕ) (z : View) → agrees n v w z ≡ true → not (is_awaited z) ≡ true
unfolding agrees is_awaited
agrees_settles n v w (heard u y) e = refl
agrees_settles n v w excused e = refl
agrees_settles n v w missed e = refl
agrees_settles n v w awaited e = e

pub decides_settled : (n b : ℕ) (x : Bench) → decides n b x ≡ true → settled n b x ≡ true
unfolding decides decides_on settled settled_on
decides_settled n b x e = every_in_make n x.world (λ i. not (is_awaited (see b x i)))
    (λ i h m. agrees_settles n x.value x.world (see b x i) (every_in_get n x.world (λ j. agrees n x.value x.world (see b x j)) i e h m))

-- ---- the least value heard

min_ind : (P : ℕ → Type 0) (u m : ℕ) → P u → P m → P (min u m)
min_ind P u m p q = split (leb u m)
    (λ e. let h = leb-true u m e in let x : min u m ≡ u = omega arith in rw x p)
    (λ e. let h = leb-false u m e in let x : min u m ≡ m = omega arith in rw x q)

lesser_ind : (P : ℕ → Type 0) (c : Bool) (z : View) (m : ℕ) → P m → ((u y : ℕ) → c ≡ true → z ≡ heard u y → P u) → P (lesser c z m)
unfolding lesser
lesser_ind P true (heard u y) m p f = min_ind P u m (f u y refl refl) p
lesser_ind P true excused m p f = p
lesser_ind P true missed m p f = p
lesser_ind P true awaited m p f = p
lesser_ind P false z m p f = p

lesser_le : (c : Bool) (z : View) (m : ℕ) → lesser c z m ≤ m
unfolding lesser
lesser_le true (heard u y) m = omega arith
lesser_le true excused m = omega arith
lesser_le true missed m = omega arith
lesser_le true awaited m = omega arith
lesser_le false z m = omega arith

lesser_heard : (c : Bool) (z : View) (m u y : ℕ) → c ≡ true → z ≡ heard u y → lesser c z m ≤ u
unfolding lesser
lesser_heard c z m u y p q = rw (p, q) (let g : min u m ≤ u = omega arith in g)

module _ (v w : ℕ) (z : ℕ → View) where
  pub least_le : (k : ℕ) → least_on k v w z ≤ v
  unfolding least_on
  least_le zero = omega arith
  least_le (suc k) = omega (arith, lesser_le (member (suc k) w) (z (suc k)) (least_on k v w z), least_le k)

  pub least_min : (k i u y : ℕ) → In k i → member i w ≡ true → z i ≡ heard u y → least_on k v w z ≤ u
  unfolding least_on
  least_min zero i u y h m e = absurd (omega arith)
  least_min (suc k) i u y h m e = split (eqb i (suc k))
      (λ c. let q = eqb-true i (suc k) c in lesser_heard (member (suc k) w) (z (suc k)) (least_on k v w z) u y (rw q at m) (rw q at e))
      (λ c. let q = eqb-false i (suc k) c in
      omega (arith, lesser_le (member (suc k) w) (z (suc k)) (least_on k v w z), least_min k i u y (omega arith) m e))

-- the least value is the bench's own or that of a member heard
pub data From (v w : ℕ) (z : ℕ → View) (k m : ℕ) : Type 0 where
  own : m ≡ v → From v w z k m
  other : (i y : ℕ) → In k i → member i w ≡ true → z i ≡ heard m y → From v w z k m

from_more : (v w : ℕ) (z : ℕ → View) (k m : ℕ) → From v w z k m → From v w z (suc k) m
from_more v w z k m (own e) = own e
from_more v w z k m (other i y h c e) = other i y (omega arith) c e

pub least_from : (v w : ℕ) (z : ℕ → View) (k : ℕ) → From v w z k (least_on k v w z)
unfolding least_on
least_from v w z zero = own refl
least_from v w z (suc k) = lesser_ind (λ m. From v w z (suc k) m) (member (suc k) w) (z (suc k)) (least_on k v w z)
    (from_more v w z k (least_on k v w z) (least_from v w z k))
    (λ u y c e. other (suc k) y (omega arith) c e)
