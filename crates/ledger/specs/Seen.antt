-- Which book a ledger of the code stands for: `book_of`, the one function by which every promise sees it.
-- This file is to be believed.
use Rattle.std.specs.Prelude.{ℕ, List, map, take}
use Rattle.book.specs.Book as book
use Rattle.ledger.specs.declared.Ledger.{Ledger}
use Rattle.ledger.specs.declared.Sweep.{Sweep}
use Rattle.senders.specs.Kept.{rows_of}

-- the places of the room: one for each sweep that can be held, `ROOM` in code
abbrev pub room_words : ℕ
room_words = book.most_held

-- the next slot to hand out, how many sweeps are held, and the set of the senders that have joined
abbrev pub next_by : Ledger → ℕ
next_by x = x.cursor.next.0

abbrev pub held_by : Ledger → ℕ
held_by x = x.cursor.held

abbrev pub joined_by : Ledger → ℕ
joined_by x = x.senders.joined

-- what is known of each sender
abbrev pub rows_by : Ledger → ℕ → book.Row
rows_by x = rows_of (joined_by x) x.senders.rows

abbrev pub sweep_is : Sweep → book.Sweep
sweep_is w = record { sender = w.sender; slot = w.slot; tag = w.tag }

-- the sweeps in the first k places, in order of arrival
unfoldable pub held_in : ℕ → List Sweep → List book.Sweep
held_in k room = map sweep_is (take k room)

-- the sweeps held
abbrev pub sweeps_by : Ledger → List book.Sweep
sweeps_by x = held_in (held_by x) x.room

unfoldable pub book_of : Ledger → book.Book
book_of x = record { next = next_by x; rows = rows_by x; held = sweeps_by x }
