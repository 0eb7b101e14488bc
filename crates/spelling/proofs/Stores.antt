-- Stores one after another: laws of `sets` and `Stored`, and of what fits. Assumes nothing.
use Prim.Native.Nat.{ℕ, suc, ◌+◌, ◌≤◌, ◌<◌}
use native.Mathlib.Omega.{arith}
use native.Mathlib.Nat.{add-zero}
use mathlib.Core.Bool.{Bool, true, not}
use mathlib.Core.List.{List, [], ◌∷◌, ◌++◌}
use mathlib.Core.Path.{◌≡◌, refl, sym, ap, ◌∙◌}
use lib.Dec.{leb}
use lib.ListN.{length, set}
use lib.Seq.{sets, length-sets}
use lib.ListN.{length-append}
use borrow.Author.Tests.{le-leb, lt-leb, leb-true, leb-false, not-true}
use Rattle.spelling.specs.Stored.{Stored, fits, fitting}

-- a run, and another where it ends, are one run
pub sets_more : (l : List ℕ) (i : ℕ) (u v : List ℕ) → sets (sets l i u) (i + length u) v ≡ sets l i (u ++ v)
sets_more l i [] v = rw add-zero refl
sets_more l i (a ∷ u) v =
    let e : i + suc (length u) ≡ suc i + length u = omega arith in
    rw e (sets_more (set l i a) (suc i) u v)

-- one writer after another: the room that is left for the second, and what both have stored
pub stored_length : {l l' : List ℕ} {at next : ℕ} {w : List ℕ} → Stored l at w next l' → length l' ≡ length l
stored_length {l} {at = at} {w = w} p = ap length p.held ∙ length-sets l at w

pub room_after_lem : {l l' : List ℕ} {at next : ℕ} {w : List ℕ} (v : List ℕ) → Stored l at w next l' → at + length (w ++ v) ≤ length l → next + length v ≤ length l'
room_after_lem {w = w} v p h = omega (arith, length-append w v, p.place, stored_length p)

pub room_front : (at : ℕ) (w v : List ℕ) {n : ℕ} → at + length (w ++ v) ≤ n → at + length w ≤ n
room_front at w v h = omega (arith, length-append w v)

pub stored_nil : (l : List ℕ) (at : ℕ) → Stored l at [] at l
stored_nil l at = record { place = sym (add-zero at); held = refl }

pub stored_one : (l : List ℕ) (at b : ℕ) → Stored l at (b ∷ []) (at + 1) (set l at b)
stored_one l at b = record { place = refl; held = refl }

pub stored_then : {l l' l'' : List ℕ} {at next last : ℕ} {w v : List ℕ} → Stored l at w next l' → Stored l' next v last l'' → Stored l at (w ++ v) last l''
stored_then {l} {at = at} {w = w} {v = v} p q =
    record {
      place = q.place ∙ omega (arith, p.place, length-append w v);
      held = q.held ∙ rw (p.held, p.place) (sets_more l at w v);
    }

-- `total` is to be stored in l₀ from `from` on; l is what is held, and `rest` is left to be stored from `at` on
pub record Left (l₀ : List ℕ) (from : ℕ) (total : List ℕ) (l : List ℕ) (at : ℕ) (rest : List ℕ) : Type 0 where
  pub ends : at + length rest ≡ from + length total
  pub holds : sets l at rest ≡ sets l₀ from total
  pub long : length l ≡ length l₀

pub left_start : (l : List ℕ) (from : ℕ) (total : List ℕ) → Left l from total l from total
left_start l from total = record { ends = refl; holds = refl; long = refl }

pub left_step : {l₀ l l' : List ℕ} {from at next : ℕ} {total w : List ℕ} (rest : List ℕ) → Left l₀ from total l at (w ++ rest) → Stored l at w next l' → Left l₀ from total l' next rest
left_step {l = l} {at = at} {w = w} rest p q =
    record {
      ends = omega (arith, q.place, p.ends, length-append w rest);
      holds = rw (q.held, q.place) (sets_more l at w rest ∙ p.holds);
      long = stored_length q ∙ p.long;
    }

pub left_end : {l₀ l : List ℕ} {from at : ℕ} {total : List ℕ} → Left l₀ from total l at [] → Stored l₀ from total at l
left_end {at = at} p = record { place = sym (add-zero at) ∙ p.ends; held = p.holds }

pub left_room : {l₀ l : List ℕ} {from at : ℕ} {total : List ℕ} (w rest : List ℕ) → Left l₀ from total l at (w ++ rest) → from + length total ≤ length l₀ → at + length w ≤ length l
left_room w rest p h = omega (arith, p.ends, p.long, length-append w rest)

-- ---- room, as the code asks for it

pub room_yes : {r : Bool} {a b : ℕ} → r ≡ leb a b → r ≡ true → a ≤ b
room_yes {a = a} {b = b} e h = leb-true a b (sym e ∙ h)

pub room_not : {r : Bool} {a b : ℕ} → r ≡ leb a b → not r ≡ true → b < a
room_not {r} {a} {b} e h = leb-false a b (sym e ∙ not-true r h)

-- with room for w, what fits is w, and without it nothing is stored
pub fitting_stored : (l : List ℕ) (at : ℕ) (w : List ℕ) {next : ℕ} {l' : List ℕ} → at + length w ≤ length l → Stored l at (fitting l at w) next l' → Stored l at w next l'
unfolding fits fitting
fitting_stored l at w h p = rw (le-leb (at + length w) (length l) h) at p

pub stored_fitting : {l l' : List ℕ} {at next : ℕ} {w : List ℕ} → at + length w ≤ length l → Stored l at w next l' → Stored l at (fitting l at w) next l'
unfolding fits fitting
stored_fitting {l = l} {at = at} {w = w} h p = rw (le-leb (at + length w) (length l) h) p

pub not_fitting : (l : List ℕ) (at : ℕ) (w : List ℕ) → length l < at + length w → Stored l at (fitting l at w) at l
unfolding fits fitting
not_fitting l at w h = rw (lt-leb (at + length w) (length l) h) (stored_nil l at)
