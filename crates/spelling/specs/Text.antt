-- What a run text says, and how lines of run text are written. This file is to be believed (refusals 21 and 22 of docs/REFUSALS.md).
use Rattle.std.specs.Prelude.{ℕ, cond, List, [], ◌∷◌, ◌++◌, map, length, Option, Result, Ok, Err}
use Rattle.std.specs.Result.{is_ok}
use Rattle.std.proofs.lemmas.List.Edits.{sets}
use Rattle.kinds.specs.declared.Refusal.{Refusal}
use Rattle.kinds.specs.declared.Refusal.TheVariants.{NotWritable, ShortRoom}
use Rattle.kinds.specs.declared.Step.{Step}
use Rattle.spelling.specs.Spelling.{step_text, is_writable}
use Rattle.spelling.specs.Lines.{lines_of}
use Rattle.spelling.specs.Reading.{said_of}
use Rattle.spelling.specs.Stored.{fits}

-- ---- reading

-- what each line says, where worlds name benches up to the limit
unfoldable pub read_text : ℕ → List ℕ → List (Option Step)
read_text limit text = map (said_of limit) (lines_of text)

-- ---- writing

-- the writer always writes byte 10
unfoldable pub line_text : Step → List ℕ
line_text s = step_text s ++ (10 ∷ [])

unfoldable pub write_text : List Step → List ℕ
write_text [] = []
write_text (s ∷ ss) = line_text s ++ write_text ss

-- what is answered of a line that is to be written from `at` on: how many bytes it has, or the first check that fails
unfoldable pub write_line_of : ℕ → Step → List ℕ → ℕ → Result ℕ Refusal
write_line_of limit s room at =
    cond (is_writable limit s) (cond (fits room at (line_text s)) (Ok (length (line_text s))) (Err ShortRoom)) (Err NotWritable)

-- what the room then holds: of a refusal what it held
unfoldable pub room_after : ℕ → Step → List ℕ → ℕ → List ℕ
room_after limit s room at = cond (is_ok (write_line_of limit s room at)) (sets room at (line_text s)) room
