-- Parts of spellings, as the code stores them one after another. This file need not be believed: it serves functions within the crate.
use Rattle.std.specs.Prelude.{ℕ, ◌+◌, ◌/◌, ◌%◌, cond, List, [], ◌∷◌, ◌++◌, leb, ltb}
use Rattle.spelling.specs.Numbers.{ascii, digits}
use Rattle.spelling.specs.Spelling.{world_text}

-- the places of a number of up to ten digits, the last left out
abbrev pub places : List ℕ
places = 1000000000 ∷ 100000000 ∷ 10000000 ∷ 1000000 ∷ 100000 ∷ 10000 ∷ 1000 ∷ 100 ∷ 10 ∷ []

-- the digit of n at the place p, where n has one there
unfoldable pub lead : ℕ → ℕ → List ℕ
lead p n = cond (leb p n) ((48 + n / p % 10) ∷ []) []

-- those at the place p and at the three below it
unfoldable pub four : ℕ → ℕ → List ℕ
four p n = lead p n ++ (lead (p / 10) n ++ (lead (p / 100) n ++ lead (p / 1000) n))

-- the digits of n above its last five, and those
unfoldable pub high : ℕ → List ℕ
high n = four 1000000000 n ++ lead 100000 n

unfoldable pub low : ℕ → List ℕ
low n = four 10000 n ++ ((48 + n % 10) ∷ [])

-- what stands before a member that is spelled at a place of a world that begins at `from`
unfoldable pub sep_at : ℕ → ℕ → List ℕ
sep_at from at = cond (ltb from at) (44 ∷ []) []

-- a step with a sender, from its key on; a start
abbrev pub sender_text : List ℕ → ℕ → ℕ → List ℕ
sender_text key b f = key ++ (digits b ++ (ascii " from=" ++ digits f))

abbrev pub start_text : ℕ → ℕ → ℕ → List ℕ
start_text b v w = ascii "step=start bench=" ++ (digits b ++ (ascii " value=" ++ (digits v ++ (ascii " world=" ++ world_text w))))
