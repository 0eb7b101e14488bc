-- How many lines a text has, and how many bytes these have. Assumes nothing.
use Prim.Native.Nat.{ℕ, suc, ◌+◌, ◌≤◌}
use native.Mathlib.Omega.{arith}
use mathlib.Core.List.{List, [], ◌∷◌}
use lib.Dec.{eqb}
use lib.ListN.{length}
use Rattle.common.proofs.Tests.{cond_ind}
use Rattle.spelling.specs.Lines.{in_front, lines_of}

-- the bytes of lines, each with one behind it
unfoldable pub bytes_in : List (List ℕ) → ℕ
bytes_in [] = 0
bytes_in (l ∷ ls) = suc (length l) + bytes_in ls

front_few : (c : ℕ) (ls : List (List ℕ)) (n : ℕ) → length ls ≤ n → length (in_front c ls) ≤ suc n
front_few c [] n h = omega arith
front_few c (l ∷ ls) n h = omega arith

pub lines_few : (text : List ℕ) → length (lines_of text) ≤ length text
unfolding lines_of
lines_few [] = omega arith
lines_few (c ∷ l) =
    let h = lines_few l in
    cond_ind (λ (z : List (List ℕ)). length z ≤ suc (length l)) (eqb c 10) ([] ∷ lines_of l) (in_front c (lines_of l)) (λ e. omega arith) (λ e. front_few c (lines_of l) (length l) h)

pub lines_bytes : (text : List ℕ) → bytes_in (lines_of text) ≤ length text + 1
unfolding lines_of bytes_in
lines_bytes [] = omega arith
lines_bytes (c ∷ l) =
    let h = lines_bytes l in
    cond_ind (λ (z : List (List ℕ)). bytes_in z ≤ suc (length l) + 1) (eqb c 10) ([] ∷ lines_of l) (in_front c (lines_of l)) (λ e. omega arith) (λ e. grown (lines_of l) h)
  where
    grown : (ls : List (List ℕ)) → bytes_in ls ≤ length l + 1 → bytes_in (in_front c ls) ≤ suc (length l) + 1
    grown [] g = omega arith
    grown (k ∷ ks) g = omega arith
