-- A whole text, line after line: what `read_line` gives in turn, and what `write_line_at` stores in turn. Assumes nothing.
use Prim.Native.Nat.{ℕ, ◌+◌, ◌≤◌}
use native.Mathlib.Omega.{arith}
use mathlib.Core.Bool.{true}
use mathlib.Core.List.{List, [], ◌∷◌, ◌++◌, append_assoc}
use mathlib.Core.Path.{◌≡◌, refl, sym, ap, ◌∙◌}
use lib.ListN.{length, take, drop, length-append, length-take}
use lib.Seq.{sets, sets-eq, length-sets, drop_at}
use borrow.Author.Tests.{le-leb}
use Rattle.std.specs.Prelude.{Ok}
use Rattle.std.specs.Prelude.{Some}
use Rattle.kinds.specs.declared.Step.{Step}
use Rattle.spelling.specs.Spelling.{step_text, is_writable}
use Rattle.spelling.specs.Text.{line_text, write_text, write_line_of, room_after}
use Rattle.spelling.specs.Stored.{Stored, fits}
use Rattle.spelling.specs.Reading.{step_at, said_of, read_line_of}
use Rattle.spelling.specs.Fields.{line_from}
use Rattle.spelling.specs.InTurn.{AllWritable, bytes_of, room_all, place_all}
use Rattle.spelling.proofs.Places.{here, past}
use Rattle.spelling.proofs.Stores.{stored_nil, stored_then, stored_length}
use Rattle.spelling.proofs.LineEnds.{at_ten}
use Rattle.spelling.proofs.StepTrip.{step_reads}
use Rattle.spelling.proofs.StepLines.{run_text}
use Rattle.spelling.proofs.LineTrip.{line_read, read_ten}

-- ---- writing

-- one line that is writable and has room
module _ (limit : ℕ) (s : Step) (room : List ℕ) (at : ℕ) (w : is_writable limit s ≡ true) (h : at + length (line_text s) ≤ length room) where
  pub one_answer : write_line_of limit s room at ≡ Ok (length (line_text s))
  unfolding write_line_of fits
  one_answer = rw (w, le-leb (at + length (line_text s)) (length room) h) refl

  pub one_room : room_after limit s room at ≡ sets room at (line_text s)
  unfolding room_after
  one_room = rw one_answer refl

  pub one_stored : Stored room at (line_text s) (at + bytes_of (write_line_of limit s room at)) (room_after limit s room at)
  one_stored = record { place = ap (λ z. at + bytes_of z) one_answer; held = one_room }

pub all_written : (limit : ℕ) (ss : List Step) (room : List ℕ) (at : ℕ) → AllWritable limit ss → at + length (write_text ss) ≤ length room
    → Stored room at (write_text ss) (place_all limit ss room at) (room_all limit ss room at)
unfolding write_text room_all place_all AllWritable
all_written limit [] room at w h = stored_nil room at
all_written limit (s ∷ ss) room at w h =
    let len = length-append (line_text s) (write_text ss) in
    let one = one_stored limit s room at w.0 (omega arith) in
    stored_then one (all_written limit ss (room_after limit s room at) (at + bytes_of (write_line_of limit s room at)) w.1 (omega (arith, one.place, stored_length one)))

-- ---- what was written is read where it stands

stands : (room : List ℕ) (at : ℕ) (w : List ℕ) → at + length w ≤ length room → drop at (sets room at w) ≡ w ++ drop (at + length w) room
stands room at w h = rw (sets-eq w room at h, append_assoc (take at room) w (drop (at + length w) room)) (drop_at (take at room) (w ++ drop (at + length w) room) at (length-take at room ∙ omega arith))

pub written_reads : (limit : ℕ) (s : Step) (room : List ℕ) (at : ℕ) → limit ≤ 32 → is_writable limit s ≡ true → at + length (line_text s) ≤ length room
    → read_line_of limit (room_after limit s room at) at ≡ Some (Some s, at + length (line_text s))
unfolding line_text read_line_of line_from said_of
written_reads limit s room at lim w h =
    let line = step_text s ++ (10 ∷ []) in
    let rest = drop (at + length line) room in
    let text = sets room at line in
    let end = at + length (step_text s) in
    let e : drop at text ≡ step_text s ++ (10 ∷ rest) = stands room at line h ∙ append_assoc (step_text s) (10 ∷ []) rest in
    let len : length text ≡ length room = length-sets room at line in
    let size : length line ≡ length (step_text s) + 1 = length-append (step_text s) (10 ∷ []) in
    let place : end + 1 ≡ at + length line = omega arith in
    rw (one_room limit s room at w h) (sym (line_read (run_text limit lim) text at) ∙ rw place at (read_ten (step_at limit) text at s end (omega arith) (omega arith) (step_reads limit s text at (10 ∷ rest) lim w (at_ten rest) e) (here text end (past text at (step_text s) e))))
