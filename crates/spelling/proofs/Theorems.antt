-- What holds of run text, for worlds that name benches up to any limit from 0 to 32, so up to as many as there are, and for texts of any
-- length, so for those that are played. `said_of` is what a line reads to, `read_text` what a text reads to, line by line. Assumes nothing.
use Prim.Native.Nat.{ℕ, ◌+◌, ◌≤◌}
use mathlib.Core.Bool.{true}
use mathlib.Core.List.{List, [], ◌∷◌, ◌++◌, map}
use mathlib.Core.Path.{◌≡◌, refl, sym, ◌∙◌}
use lib.ListN.{length}
use native.Mathlib.Omega.{arith}
use Rattle.std.specs.Prelude.{Some, None}
use Rattle.kinds.specs.declared.Step.{Step}
use Rattle.spelling.specs.Spelling.{step_text, is_writable}
use Rattle.spelling.specs.Text.{read_text, line_text, write_text, room_after}
use Rattle.spelling.specs.Stored.{Stored}
use Rattle.spelling.specs.Reading.{said_of, read_line_of}
use Rattle.spelling.specs.InTurn.{AllWritable, read_all, room_all, place_all}
use Rattle.spelling.proofs.LineTrip.{all_read, line_reads, line_sound, iff_spelled, none_spelled, one_spelled}
use Rattle.spelling.proofs.StepLines.{run_text, text_reads, text_sound, text_apart}
use Rattle.spelling.proofs.Turns.{all_written, written_reads}

module _ (limit : ℕ) (lim : limit ≤ 32) where
  -- Every writable step's line reads back to the step.
  pub line_reads_back : (s : Step) → is_writable limit s ≡ true → said_of limit (step_text s) ≡ Some s
  unfolding said_of
  line_reads_back = line_reads (run_text limit lim)

  -- Every well-formed line writes back to its bytes, and its step is writable.
  pub line_writes_back : (line : List ℕ) (s : Step) → said_of limit line ≡ Some s → (step_text s ≡ line) × (is_writable limit s ≡ true)
  unfolding said_of
  line_writes_back line s e = let r = line_sound (run_text limit lim) line s e in (sym r.0, r.1)

  -- A line reads to a step exactly when it is the spelling of that step and the step is writable.
  pub reads_iff_spelled : (line : List ℕ) (s : Step) → (said_of limit line ≡ Some s → (line ≡ step_text s) × (is_writable limit s ≡ true)) × ((line ≡ step_text s) × (is_writable limit s ≡ true) → said_of limit line ≡ Some s)
  unfolding said_of
  reads_iff_spelled = iff_spelled (run_text limit lim)

  -- A line that is the spelling of no writable step is malformed.
  pub malformed_else : (line : List ℕ) → ((s : Step) → is_writable limit s ≡ true → line ≡ step_text s → ⊥) → said_of limit line ≡ None
  unfolding said_of
  malformed_else = none_spelled (run_text limit lim)

  -- No two writable steps have one spelling.
  pub spelled_once : (s t : Step) → is_writable limit s ≡ true → is_writable limit t ≡ true → step_text s ≡ step_text t → s ≡ t
  spelled_once = one_spelled (run_text limit lim)

  -- A text written from writable steps reads back to those steps.
  pub text_reads_back : (ss : List Step) → AllWritable limit ss → read_text limit (write_text ss) ≡ map Some ss
  text_reads_back ss h = text_reads limit ss lim h

  -- A text whose last line ends in byte 10, and which reads to steps alone, writes back to its bytes.
  pub text_writes_back : (front : List ℕ) (ss : List Step) → read_text limit (front ++ (10 ∷ [])) ≡ map Some ss → write_text ss ≡ front ++ (10 ∷ [])
  text_writes_back front ss e = text_sound limit front ss lim e

  -- A malformed line hides no other line: those before it and those behind it read as they do without it.
  pub malformed_hides_nothing : (front line back : List ℕ) → read_text limit (line ++ (10 ∷ [])) ≡ None ∷ [] → read_text limit (front ++ (10 ∷ (line ++ (10 ∷ back)))) ≡ read_text limit (front ++ (10 ∷ [])) ++ (None ∷ read_text limit back)
  malformed_hides_nothing front line back e = text_apart limit front (line ++ (10 ∷ back)) ∙ rw (text_apart limit line back, e) refl

  -- `read_line` from place 0 on, each time from where the line before ended, gives the text's lines, and as many calls as the text has bytes suffice.
  pub reads_in_turn : (text : List ℕ) → read_all (read_line_of limit text) (length text) 0 ≡ read_text limit text
  unfolding read_text read_line_of
  reads_in_turn text = all_read (said_of limit) (length text) text 0 (omega arith)

  -- `write_line_at` for each step, each where the line before ended, stores the text of the steps, if they are writable and there is room.
  pub writes_in_turn : (ss : List Step) (room : List ℕ) (at : ℕ) → AllWritable limit ss → at + length (write_text ss) ≤ length room → Stored room at (write_text ss) (place_all limit ss room at) (room_all limit ss room at)
  writes_in_turn ss room at w h = all_written limit ss room at w h

  -- What `write_line_at` wrote `read_line` reads where it stands, whatever else the room holds.
  pub written_reads_back : (s : Step) (room : List ℕ) (at : ℕ) → is_writable limit s ≡ true → at + length (line_text s) ≤ length room → read_line_of limit (room_after limit s room at) at ≡ Some (Some s, at + length (line_text s))
  written_reads_back s room at w h = written_reads limit s room at lim w h
