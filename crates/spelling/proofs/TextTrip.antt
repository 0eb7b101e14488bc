-- How a text falls into lines, and how lines are joined again. Assumes nothing.
use Prim.Native.Nat.{ℕ, suc, ◌+◌, ◌-◌, ◌≤◌, ◌<◌}
use native.Mathlib.Omega.{arith}
use mathlib.Core.Bool.{true, false≢true}
use mathlib.Core.List.{List, [], ◌∷◌, ◌++◌, map}
use mathlib.Core.Logic.{⊎_elim}
use mathlib.Core.Path.{◌≡◌, refl, sym, ap, ◌∙◌}
use lib.Dec.{eqb}
use lib.ListN.{length, get_or, take, drop, length-drop, drop_of_length-le}
use lib.Seq.{drop-drop}
use borrow.Author.Tests.{eqb-true, lt-ltb, le-ltb}
use Rattle.common.proofs.Tests.{split}
use Rattle.spelling.specs.Lines.{lines_of}
use Rattle.spelling.specs.Fields.{line_length, line_at, next_from, next_at}
use Rattle.spelling.proofs.Places.{le_or_lt, cut}
use Rattle.spelling.proofs.Lines.{length_within}
use Rattle.spelling.proofs.LineEnds.{no_ten}

-- ---- what stands before a byte 10 and what stands behind it

-- a text that ends in byte 10 has a first line
first_line : (front : List ℕ) → (l : List ℕ) × (ls : List (List ℕ)) × (lines_of (front ++ (10 ∷ [])) ≡ l ∷ ls)
unfolding lines_of
first_line [] = ([], [], refl)
first_line (c ∷ front) =
    let r = first_line front in
    split (eqb c 10) (λ e. ([], lines_of (front ++ (10 ∷ [])), rw e refl)) (λ e. (c ∷ r.0, r.1, rw (e, r.2) refl))

pub lines_apart : (front back : List ℕ) → lines_of (front ++ (10 ∷ back)) ≡ lines_of (front ++ (10 ∷ [])) ++ lines_of back
unfolding lines_of
lines_apart [] back = refl
lines_apart (c ∷ front) back = split (eqb c 10)
    (λ e. rw e (ap (λ (z : List (List ℕ)). [] ∷ z) (lines_apart front back)))
    (λ e. let r = first_line front in rw (e, lines_apart front back, r.2) refl)

pub map-append : {A B : Type 0} (f : A → B) (l m : List A) → map f (l ++ m) ≡ map f l ++ map f m
map-append f [] m = refl
map-append f (a ∷ l) m = ap (λ z. f a ∷ z) (map-append f l m)

-- ---- what is written is read

pub lines_cut : (w rest : List ℕ) → no_ten w ≡ true → lines_of (w ++ (10 ∷ rest)) ≡ w ∷ lines_of rest
unfolding no_ten lines_of
lines_cut [] rest h = refl
lines_cut (c ∷ w) rest h = split (eqb c 10) (λ e. absurd (false≢true (rw e at h))) (λ e. rw (e, lines_cut w rest (rw e at h)) refl)

-- ---- what is read is what is written

unfoldable pub unlines : List (List ℕ) → List ℕ
unlines [] = []
unlines (l ∷ ls) = l ++ (10 ∷ unlines ls)

pub lines_joined : (front : List ℕ) → unlines (lines_of (front ++ (10 ∷ []))) ≡ front ++ (10 ∷ [])
unfolding lines_of unlines
lines_joined [] = refl
lines_joined (c ∷ front) = split (eqb c 10)
    (λ e. rw (e, eqb-true c 10 e) (ap (λ (z : List ℕ). 10 ∷ z) (lines_joined front)))
    (λ e.
    let r = first_line front in
    let j : unlines (r.0 ∷ r.1) ≡ front ++ (10 ∷ []) = rw r.2 at (lines_joined front) in
    rw (e, r.2) (ap (λ (z : List ℕ). c ∷ z) j))

-- ---- line by line

lines_first : (c : ℕ) (l : List ℕ) → lines_of (c ∷ l) ≡ take (line_length (c ∷ l)) (c ∷ l) ∷ lines_of (drop (suc (line_length (c ∷ l))) (c ∷ l))
unfolding lines_of line_length
lines_first c [] = split (eqb c 10) (λ e. rw e refl) (λ e. rw e refl)
lines_first c (d ∷ l) = let h = lines_first d l in split (eqb c 10) (λ e. rw e refl) (λ e. rw (e, h) refl)

next_place : (text : List ℕ) (at : ℕ) → drop (suc (line_length (drop at text))) (drop at text) ≡ drop (next_at text at) text
unfolding next_at next_from
next_place text at =
    let n = line_length (drop at text) in
    drop-drop (suc n) at text
    ∙ ⊎_elim
    (λ (out : length text ≤ at + n). rw (le-ltb (at + n) (length text) out) (drop_of_length-le text {i = at + suc n} (omega arith) ∙ sym (drop_of_length-le text {i = at + n} out)))
    (λ (inn : at + n < length text). let e : at + n + 1 ≡ at + suc n = omega arith in rw (lt-ltb (at + n) (length text) inn, e) refl)
    (le_or_lt (length text) (at + n))

-- the first line from a place on, and the others
pub lines_at : (text : List ℕ) (at : ℕ) → at < length text → lines_of (drop at text) ≡ line_at text at ∷ lines_of (drop (next_at text at) text)
unfolding line_at
lines_at text at h =
    let f : lines_of (drop at text) ≡ take (line_length (drop at text)) (drop at text) ∷ lines_of (drop (suc (line_length (drop at text))) (drop at text)) = rw (cut text at h) (lines_first (get_or text at 0) (drop (at + 1) text)) in
    f ∙ ap (λ (z : List ℕ). take (line_length (drop at text)) (drop at text) ∷ lines_of z) (next_place text at)

pub next_above : (text : List ℕ) (at : ℕ) → at < length text → (at < next_at text at) × (next_at text at ≤ length text)
unfolding next_at next_from
next_above text at h =
    let n = line_length (drop at text) in
    let w : n ≤ length text - at = omega (arith, length_within (drop at text), length-drop at text) in
    ⊎_elim (λ (out : length text ≤ at + n). rw (le-ltb (at + n) (length text) out) (omega arith, omega arith))
    (λ (inn : at + n < length text). rw (lt-ltb (at + n) (length text) inn) (omega arith, omega arith))
    (le_or_lt (length text) (at + n))
