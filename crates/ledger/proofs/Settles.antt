-- Two answers that the promise of a step allows are equal: the number, the cursor, the rows and the room, and of a hand-out every place of the
-- receiving buffer. Assumes nothing.
use mathlib.Core.Path.{◌≡◌, ap, sym, ◌∙◌}
use Prim.Native.Nat.{ℕ}
use mathlib.Core.Bool.{cond}
use mathlib.Core.List.{List}
use lib.ListN.{length, drop}
use lib.Dec.{eqb}
use Rattle.std.specs.Prelude.{Result}
use Rattle.kinds.specs.declared.Refusal.{Refusal}
use Rattle.book.specs.Book.{Book, Step, hand_out, step}
use Rattle.ledger.specs.declared.Cursor.{Cursor}
use Rattle.ledger.specs.declared.Ledger.{Ledger}
use Rattle.ledger.specs.Seen.{held_by, held_in, book_of}
use Rattle.ledger.specs.Promises.{cursor_after, joined_after, rows_after, Tells, Hands, Begins}
use Rattle.ledger.proofs.Refused.{same_answer}
use Rattle.ledger.proofs.Same.{same_room}

module _ (n : ℕ) (x : Ledger) (s : Step) (r q : ℕ) (y z : Ledger) (a : Tells n x s r y) (c : Tells n x s q z) where
  pub one_number : r ≡ q
  one_number = a.number_is ∙ sym c.number_is

  cursor : y.cursor ≡ z.cursor
  cursor = a.cursor_is ∙ ap (λ (k : ℕ). cond (eqb k 0) (cursor_after s (step n (book_of x) s).book x.cursor) x.cursor) one_number ∙ sym c.cursor_is

  joined : y.senders.joined ≡ z.senders.joined
  joined = a.joined_is ∙ ap (λ (k : ℕ). cond (eqb k 0) (joined_after s x.senders.joined) x.senders.joined) one_number ∙ sym c.joined_is

  rows : y.senders.rows ≡ z.senders.rows
  rows = a.rows_are ∙ ap (λ (k : ℕ). cond (eqb k 0) (rows_after s (step n (book_of x) s).book x.senders.rows) x.senders.rows) one_number ∙ sym c.rows_are

  held : held_in (held_by y) y.room ≡ held_in (held_by y) z.room
  unfolding book_of
  held = ap (λ (b : Book). b.held) (a.book_is ∙ sym c.book_is) ∙ ap (λ (l : Cursor). held_in l.held z.room) (sym cursor)

  room : y.room ≡ z.room
  room = same_room (held_by y) y.room z.room held (a.past_is ∙ ap (λ (l : Cursor). drop l.held x.room) cursor ∙ sym c.past_is ∙ ap (λ (l : Cursor). drop l.held z.room) (sym cursor))

  pub one_content : y ≡ z
  one_content = λ i. record { cursor = cursor i; senders = record { joined = joined i; rows = rows i }; room = room i }

module _ (n : ℕ) (x : Ledger) (out : List ℕ) (r q : Result ℕ Refusal) (y z : Ledger) (o p : List ℕ) (a : Hands n x out r y o) (c : Hands n x out q z p) where
  pub one_hand_out : r ≡ q
  one_hand_out = same_answer r q (length (step n (book_of x) (hand_out (length out))).tags) (a.tells.number_is ∙ sym c.tells.number_is) a.count_is c.count_is

  pub one_hand_out_content : y ≡ z
  one_hand_out_content = one_content n x (hand_out (length out)) _ _ y z a.tells c.tells

  pub one_buffer : o ≡ p
  one_buffer = a.out_is ∙ sym c.out_is

pub one_beginning : (begin : ℕ) (x y : Ledger) → Begins begin x → Begins begin y → (x.cursor ≡ y.cursor) × (x.senders ≡ y.senders)
one_beginning begin x y a b = (a.cursor_is ∙ sym b.cursor_is, a.senders_are ∙ sym b.senders_are)
