-- How a text falls into lines, and how examples give one by its lines. This file is to be believed.
use Rattle.std.specs.Prelude.{ℕ, cond, List, [], ◌∷◌, ◌++◌, eqb}
use Prim.Native.String.{String}
use Rattle.spelling.specs.Numbers.{ascii}

abbrev pub in_front : ℕ → List (List ℕ) → List (List ℕ)
in_front c [] = (c ∷ []) ∷ []
in_front c (l ∷ ls) = (c ∷ l) ∷ ls

-- a line ends at byte 10 or at the end of the text; a text that ends in byte 10 has no further line
unfoldable pub lines_of : List ℕ → List (List ℕ)
lines_of [] = []
lines_of (c ∷ l) = cond (eqb c 10) ([] ∷ lines_of l) (in_front c (lines_of l))

-- the text of lines that are quoted, each ended by byte 10
abbrev pub text_of : List String → List ℕ
text_of [] = []
text_of (s ∷ l) = ascii s ++ (10 ∷ text_of l)
