-- What a report function answers of a text and its report, and what the room that it was lent then holds: refusal 23, then 22, else the report.
-- This file is to be believed.
use Rattle.std.specs.Prelude.{ℕ, cond, List, [], ◌∷◌, ◌≡◌, eqb, leb, length, Result}
use Rattle.std.specs.Result.{result_unwrap_or}
use Rattle.std.proofs.lemmas.List.Edits.{sets}
use Rattle.common.specs.Checks.{needs, judge}
use Rattle.kinds.specs.declared.Refusal.{Refusal}
use Rattle.kinds.specs.Refusals.{answer_of}

-- the report's length, which a refusal has not
abbrev pub length_of : Result ℕ Refusal → ℕ
length_of r = result_unwrap_or r 0

-- the bytes of the longest text that is played: `LONGEST` in code
abbrev pub longest : ℕ
longest = 65536

-- the checks, in their order
unfoldable pub number_for : List ℕ → List ℕ → List ℕ → ℕ
number_for text report room = judge (λ k. k) (needs 23 (leb (length text) longest) ∷ needs 22 (leb (length report) (length room)) ∷ []) 0

-- the report's length, or 0 of a refusal
unfoldable pub length_for : List ℕ → List ℕ → List ℕ → ℕ
length_for text report room = cond (eqb (number_for text report room) 0) (length report) 0

-- the report stands at the room's front, and places past it keep what they held; of a refusal all do
unfoldable pub room_after : List ℕ → List ℕ → List ℕ → List ℕ
room_after text report room = cond (eqb (number_for text report room) 0) (sets room 0 report) room

-- an answer and a room are those of a text, of its report and of the room that was lent
pub record Reports (text report room : List ℕ) (r : Result ℕ Refusal) (after : List ℕ) : Type 0 where
  pub number : answer_of r ≡ number_for text report room
  pub bytes : length_of r ≡ length_for text report room
  pub held : after ≡ room_after text report room
