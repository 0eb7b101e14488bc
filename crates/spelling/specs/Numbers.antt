-- How keys and numbers are spelled, in every text and report. This file is to be believed. A text is the list of its bytes.
use Rattle.std.specs.Prelude.{ℕ, ◌+◌, ◌/◌, ◌%◌, cond, List, [], ◌∷◌, ◌++◌, leb}
use Prim.Native.Char.{code}
use Prim.Native.String.{String, [] as empty, ◌∷◌ as ◌then◌}

-- a quoted text as its bytes
abbrev pub ascii : String → List ℕ
ascii empty = []
ascii (c then s) = code c ∷ ascii s

-- ---- Numbers: no leading zero, and 0 itself is `0`. n is below 10,000,000,000

-- the digits of n at those of the places that n has
unfoldable pub leads : List ℕ → ℕ → List ℕ
leads [] n = []
leads (p ∷ ps) n = cond (leb p n) ((48 + n / p % 10) ∷ leads ps n) (leads ps n)

unfoldable pub digits : ℕ → List ℕ
digits n = leads (1000000000 ∷ 100000000 ∷ 10000000 ∷ 1000000 ∷ 100000 ∷ 10000 ∷ 1000 ∷ 100 ∷ 10 ∷ []) n ++ ((48 + n % 10) ∷ [])
