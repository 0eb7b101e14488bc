-- Which slot a number stands for where a row is read or written. This file is to be believed.
use Rattle.std.specs.Prelude.{ℕ, suc, min}
use Rattle.book.specs.Book.{last_slot}

-- an open slot or an end is at most the slot behind the last one, and any greater number stands for that
abbrev pub slot_in : ℕ → ℕ
slot_in w = min w (suc last_slot)
