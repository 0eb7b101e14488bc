-- A line that is not written: 21 where the step is not writable, whatever the room; 22 where it is and the room is too short; and the room is
-- as it was. The answer has the number that the checks say. By the two tests. Assumes nothing.
use Prim.Native.Nat.{ℕ, ◌+◌, ◌<◌}
use mathlib.Core.Bool.{true, false}
use mathlib.Core.List.{List, [], ◌∷◌}
use mathlib.Core.Path.{◌≡◌, refl}
use lib.ListN.{length}
use borrow.Author.Tests.{lt-leb}
use Rattle.common.specs.Checks.{needs, judge}
use Rattle.common.proofs.Tests.{split}
use Rattle.std.specs.Prelude.{Err}
use Rattle.kinds.specs.declared.Refusal.{Refusal}
use Rattle.kinds.specs.declared.Refusal.TheVariants.{NotWritable, ShortRoom}
use Rattle.kinds.specs.Refusals.{answer_of}
use Rattle.kinds.specs.declared.Step.{Step}
use Rattle.spelling.specs.Spelling.{is_writable}
use Rattle.spelling.specs.Text.{line_text, write_line_of, room_after}
use Rattle.spelling.specs.Stored.{fits}

module _ (limit : ℕ) (s : Step) (room : List ℕ) (at : ℕ) where
  pub unwritable_21 : is_writable limit s ≡ false → (write_line_of limit s room at ≡ Err NotWritable) × (answer_of (write_line_of limit s room at) ≡ 21)
  unfolding write_line_of
  unwritable_21 w = rw w (refl, refl)

  pub no_room_22 : is_writable limit s ≡ true → length room < at + length (line_text s)
      → (write_line_of limit s room at ≡ Err ShortRoom) × (answer_of (write_line_of limit s room at) ≡ 22)
  unfolding write_line_of fits
  no_room_22 w h = rw (w, lt-leb (at + length (line_text s)) (length room) h) (refl, refl)

  pub refused_keeps_room : (refusal : Refusal) → write_line_of limit s room at ≡ Err refusal → room_after limit s room at ≡ room
  unfolding room_after
  refused_keeps_room refusal e = rw e refl

  pub number_told : answer_of (write_line_of limit s room at) ≡ judge (λ k. k) (needs 21 (is_writable limit s) ∷ needs 22 (fits room at (line_text s)) ∷ []) 0
  unfolding write_line_of judge
  number_told = split (is_writable limit s)
      (λ w. split (fits room at (line_text s)) (λ f. rw (w, f) refl) (λ f. rw (w, f) refl))
      (λ w. rw w refl)
