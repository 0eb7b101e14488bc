-- What a step of the code leaves as it was, done or refused: join and close the cursor and the room, sweep and hand-out the senders.
-- Assumes nothing.
use mathlib.Core.Path.{◌≡◌, refl, ap, sym, ◌∙◌}
use Prim.Native.Nat.{ℕ}
use mathlib.Core.Bool.{Bool, true, false, cond}
use lib.Dec.{eqb}
use Rattle.book.specs.Book.{Book, with_row, Step, join, sweep, close, hand_out, answer, step}
use Rattle.ledger.specs.declared.Cursor.{Cursor}
use Rattle.ledger.specs.declared.Ledger.{Ledger}
use Rattle.ledger.specs.Seen.{held_by, held_in, book_of}
use Rattle.ledger.specs.Promises.{cursor_after, joined_after, rows_after, Tells}
use Rattle.book.proofs.Outcomes.{join_ind, close_ind}
use Rattle.ledger.proofs.Same.{same_room}

-- either way the same
either : {A : Type 0} (c : Bool) (x : A) → cond c x x ≡ x
either true x = refl
either false x = refl

-- no sweep is held more or less
room_kept : (n : ℕ) (x : Ledger) (s : Step) (r : ℕ) (x' : Ledger) → Tells n x s r x' → (step n (book_of x) s).book.held ≡ (book_of x).held → held_by x' ≡ held_by x → x'.room ≡ x.room
unfolding book_of
room_kept n x s r x' t same count = same_room (held_by x') x'.room x.room (ap (λ (b : Book). b.held) t.book_is ∙ same ∙ ap (λ (k : ℕ). held_in k x.room) (sym count)) t.past_is

module _ (n : ℕ) (x : Ledger) (r : ℕ) (x' : Ledger) where
  pub join_keeps_cursor : (s f : ℕ) → Tells n x (join s f) r x' → x'.cursor ≡ x.cursor
  unfolding cursor_after
  join_keeps_cursor s f t = t.cursor_is ∙ either (eqb r 0) x.cursor

  pub join_keeps_room : (s f : ℕ) → Tells n x (join s f) r x' → x'.room ≡ x.room
  unfolding answer with_row
  join_keeps_room s f t = room_kept n x (join s f) r x' t
      (join_ind n (book_of x) (λ a. a.book.held ≡ (book_of x).held) s f (λ k e. refl) (λ i e g u. refl))
      (ap (λ (c : Cursor). c.held) (join_keeps_cursor s f t))

  pub close_keeps_cursor : (s : ℕ) → Tells n x (close s) r x' → x'.cursor ≡ x.cursor
  unfolding cursor_after
  close_keeps_cursor s t = t.cursor_is ∙ either (eqb r 0) x.cursor

  pub close_keeps_room : (s : ℕ) → Tells n x (close s) r x' → x'.room ≡ x.room
  unfolding answer with_row
  close_keeps_room s t = room_kept n x (close s) r x' t
      (close_ind n (book_of x) (λ a. a.book.held ≡ (book_of x).held) s (λ k e. refl) (λ f o i e u. refl))
      (ap (λ (c : Cursor). c.held) (close_keeps_cursor s t))

  -- the set and the rows
  senders_are : x'.senders.joined ≡ x.senders.joined → x'.senders.rows ≡ x.senders.rows → x'.senders ≡ x.senders
  senders_are j l = λ i. record { joined = j i; rows = l i }

  pub sweep_keeps_senders : (s tag : ℕ) → Tells n x (sweep s tag) r x' → x'.senders ≡ x.senders
  unfolding joined_after rows_after
  sweep_keeps_senders s tag t = senders_are (t.joined_is ∙ either (eqb r 0) x.senders.joined) (t.rows_are ∙ either (eqb r 0) x.senders.rows)

  pub hand_out_keeps_senders : (room : ℕ) → Tells n x (hand_out room) r x' → x'.senders ≡ x.senders
  unfolding joined_after rows_after
  hand_out_keeps_senders room t = senders_are (t.joined_is ∙ either (eqb r 0) x.senders.joined) (t.rows_are ∙ either (eqb r 0) x.senders.rows)
