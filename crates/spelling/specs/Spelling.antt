-- How the steps of a run text are spelled, and which of them can be written. This file is to be believed: it is the format that
-- docs/RUN-TEXT.md shows, and refusal 21 of docs/REFUSALS.md. A text is the list of its bytes; a world is a number, in which bench i is bit i - 1.
use Rattle.std.specs.Prelude.{ℕ, zero, suc, ◌+◌, ◌/◌, ◌%◌, ◌^◌, Bool, cond, ◌&&◌, List, [], ◌++◌, ltb, eqb}
use Rattle.spelling.specs.Numbers.{ascii, digits}
use Rattle.kinds.specs.declared.Step.{Step}
use Rattle.kinds.specs.declared.Step.TheVariants.{Start, Abstain, Leave, Fail, Turn, Arrive, Notice}

-- ---- Worlds: bench numbers, strictly rising, joined by commas

-- the members among the k benches from b on, `sep` before the first and a comma before each other; m's lowest bit is bench b's
unfoldable pub members : ℕ → ℕ → ℕ → List ℕ → List ℕ
members zero b m sep = []
members (suc k) b m sep = cond (eqb (m % 2) 1) (sep ++ (digits b ++ members k (b + 1) (m / 2) (ascii ","))) (members k (b + 1) (m / 2) sep)

unfoldable pub world_text : ℕ → List ℕ
world_text w = members 32 1 w []

-- ---- Steps: keys in this order, one space between

unfoldable pub step_text : Step → List ℕ
step_text (Start b v w) = ascii "step=start bench=" ++ (digits b.0 ++ (ascii " value=" ++ (digits v.0 ++ (ascii " world=" ++ world_text w))))
step_text (Abstain b) = ascii "step=abstain bench=" ++ digits b.0
step_text (Leave b) = ascii "step=leave bench=" ++ digits b.0
step_text (Fail b) = ascii "step=fail bench=" ++ digits b.0
step_text (Turn b) = ascii "step=turn bench=" ++ digits b.0
step_text (Arrive b f) = ascii "step=arrive bench=" ++ (digits b.0 ++ (ascii " from=" ++ digits f.0))
step_text (Notice b f) = ascii "step=notice bench=" ++ (digits b.0 ++ (ascii " from=" ++ digits f.0))

-- ---- Writable: no number above 99,999, and a world that is not empty and names no bench above the limit

abbrev pub is_small : ℕ → Bool
is_small n = ltb n 100000

unfoldable pub is_world : ℕ → ℕ → Bool
is_world limit w = ltb 0 w && ltb w (2 ^ limit)

unfoldable pub is_writable : ℕ → Step → Bool
is_writable limit (Start b v w) = (is_small b.0 && is_small v.0) && is_world limit w
is_writable limit (Abstain b) = is_small b.0
is_writable limit (Leave b) = is_small b.0
is_writable limit (Fail b) = is_small b.0
is_writable limit (Turn b) = is_small b.0
is_writable limit (Arrive b f) = is_small b.0 && is_small f.0
is_writable limit (Notice b f) = is_small b.0 && is_small f.0
