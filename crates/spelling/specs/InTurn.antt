-- What a caller does with a whole text: it reads line after line, and writes line after line. Four theorems are stated by it. This file is to be believed.
use Rattle.std.specs.Prelude.{ℕ, zero, suc, ◌+◌, true, ◌≡◌, List, [], ◌∷◌, Some, None, Result, Ok, Err}
use Rattle.kinds.specs.declared.Refusal.{Refusal}
use Rattle.kinds.specs.declared.Step.{Step}
use Rattle.spelling.specs.Spelling.{is_writable}
use Rattle.spelling.specs.Text.{write_line_of, room_after}
use Rattle.spelling.specs.Fields.{Found}

-- ---- reading

abbrev pub on_read : {L : Type 0} → Found L → (ℕ → List L) → List L
on_read None f = []
on_read (Some (l, next)) f = l ∷ f next

-- the lines that up to k calls of a reader give from a place on, of run text or of a ledger script
unfoldable pub read_all : {L : Type 0} → (ℕ → Found L) → ℕ → ℕ → List L
read_all read zero at = []
read_all read (suc k) at = on_read (read at) (read_all read k)

-- ---- writing

unfoldable pub AllWritable : ℕ → List Step → Type 0
AllWritable limit [] = Unit {0}
AllWritable limit (s ∷ ss) = (is_writable limit s ≡ true) × AllWritable limit ss

abbrev pub bytes_of : Result ℕ Refusal → ℕ
bytes_of (Ok n) = n
bytes_of (Err refusal) = 0

-- what the room holds after a call of `write_line_at` for each step, each where the one before ended; and where the last ends
unfoldable pub room_all : ℕ → List Step → List ℕ → ℕ → List ℕ
room_all limit [] room at = room
room_all limit (s ∷ ss) room at = room_all limit ss (room_after limit s room at) (at + bytes_of (write_line_of limit s room at))

unfoldable pub place_all : ℕ → List Step → List ℕ → ℕ → ℕ
place_all limit [] room at = at
place_all limit (s ∷ ss) room at = place_all limit ss (room_after limit s room at) (at + bytes_of (write_line_of limit s room at))
