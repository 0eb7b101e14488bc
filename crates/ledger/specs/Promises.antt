-- What each step of the code promises: the answer and the book that `book` states for senders 1 to n, and what becomes of every part of the ledger.
-- This file is to be believed. Two answers that one promise allows are equal (proofs/Settles), so nothing is left open.
use Rattle.std.specs.Prelude.{◌≡◌, ℕ, ◌-◌, ◌^◌, cond, Result, IfOk, List, ◌++◌, length, drop, set, eqb}
use Rattle.std.specs.Int.Bits.{bit_or}
use Rattle.kinds.specs.declared.Refusal.{Refusal}
use Rattle.kinds.specs.Refusals.{answer_of}
use Rattle.book.specs.Book.{Book, Step, join, sweep, close, end, hand_out, step, new_book}
use Rattle.senders.specs.declared.SenderRow.{SenderRow}
use Rattle.senders.specs.Kept.{kept_of}
use Rattle.senders.specs.Nobody.{nobody}
use Rattle.ledger.specs.declared.Cursor.{Cursor}
use Rattle.ledger.specs.declared.Ledger.{Ledger}
use Rattle.ledger.specs.declared.Sweep.{Sweep}
use Rattle.ledger.specs.Seen.{held_by, book_of}

unfoldable pub cursor_of : Book → Cursor
cursor_of b = record { next = record { 0 = b.next }; held = length b.held }

-- the cursor after a step that is done: join and close leave it
unfoldable pub cursor_after : Step → Book → Cursor → Cursor
cursor_after (join s f) b old = old
cursor_after (close s) b old = old
cursor_after (sweep s t) b old = cursor_of b
cursor_after (end s e) b old = cursor_of b
cursor_after (hand_out room) b old = cursor_of b

-- the set of the senders that have joined, after a step that is done: a join puts the sender into it
unfoldable pub joined_after : Step → ℕ → ℕ
joined_after (join s f) old = bit_or old (2 ^ (s - 1))
joined_after (close s) old = old
joined_after (sweep s t) old = old
joined_after (end s e) old = old
joined_after (hand_out room) old = old

-- the rows after a step that is done: that of the sender is written anew, where the step changes it
unfoldable pub rows_after : Step → Book → List SenderRow → List SenderRow
rows_after (join s f) b old = set old (s - 1) (kept_of (b.rows s))
rows_after (close s) b old = set old (s - 1) (kept_of (b.rows s))
rows_after (sweep s t) b old = old
rows_after (end s e) b old = set old (s - 1) (kept_of (b.rows s))
rows_after (hand_out room) b old = old

-- step s of the ledger x: the number r is told, and the ledger is x'
pub record Tells (n : ℕ) (x : Ledger) (s : Step) (r : ℕ) (x' : Ledger) : Type 0 where
  pub number_is : r ≡ (step n (book_of x) s).number
  pub book_is : book_of x' ≡ (step n (book_of x) s).book
  pub cursor_is : x'.cursor ≡ cond (eqb r 0) (cursor_after s (step n (book_of x) s).book x.cursor) x.cursor
  pub joined_is : x'.senders.joined ≡ cond (eqb r 0) (joined_after s x.senders.joined) x.senders.joined
  pub rows_are : x'.senders.rows ≡ cond (eqb r 0) (rows_after s (step n (book_of x) s).book x.senders.rows) x.senders.rows
  -- places past the held ones keep what they held
  pub past_is : drop (held_by x') x'.room ≡ drop (held_by x') x.room

-- xs at the front, and the places past them as they were
unfoldable pub laid : {A : Type 0} → List A → List A → List A
laid xs old = xs ++ drop (length xs) old

pub record Hands (n : ℕ) (x : Ledger) (out : List ℕ) (r : Result ℕ Refusal) (x' : Ledger) (out' : List ℕ) : Type 0 where
  pub tells : Tells n x (hand_out (length out)) (answer_of r) x'
  -- of a hand-out that is done, how many tags were written
  pub count_is : IfOk r (λ k. k ≡ length (step n (book_of x) (hand_out (length out))).tags)
  -- places past the last tag keep what they held
  pub out_is : out' ≡ laid (step n (book_of x) (hand_out (length out))).tags out

-- a new ledger, whatever the room has and however many senders there are
pub record Begins (begin : ℕ) (x : Ledger) : Type 0 where
  pub book_is : book_of x ≡ new_book begin
  pub cursor_is : x.cursor ≡ cursor_of (new_book begin)
  pub senders_are : x.senders ≡ nobody

-- what stands in a room that is new
abbrev pub no_sweep : Sweep
no_sweep = record { sender = 0; slot = 0; tag = 0 }
