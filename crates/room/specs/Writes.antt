-- What a writer does to the room that it is lent. This file is to be believed. A writer's `room` is the bytes, and `at` the place where the next one goes.
use Rattle.std.specs.Prelude.{ℕ, ◌+◌, ◌≤◌, ◌≡◌, List, length}
use Rattle.spelling.specs.Stored.{Stored, fitting}
use Rattle.room.specs.declared.writer.Writer.{Writer}

-- w is stored where the writer stood, all else is as it was, and the writer stands behind w, in the room that it was lent
pub record Writes (old : Writer) (w : List ℕ) (new : Writer) : Type 0 where
  pub same_room : new.room.ghost_name ≡ old.room.ghost_name
  pub stored : Stored old.room.now old.at w new.at new.room.now

-- w is stored whole or, where the room does not hold it, nothing
abbrev pub Puts : Writer → List ℕ → Writer → Type 0
Puts old w new = Writes old (fitting old.room.now old.at w) new

-- the room holds w from where the writer stands
abbrev pub Holds : Writer → List ℕ → Type 0
Holds out w = out.at + length w ≤ length out.room.now
