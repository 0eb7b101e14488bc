-- Ledgers made from a new one by the code's steps: their book is kept, and their count is the number of sweeps held. Assumes nothing.
use mathlib.Core.Path.{◌≡◌, refl, ap, sym, ◌∙◌}
use Prim.Native.Nat.{ℕ, ◌≤◌}
use mathlib.Core.Bool.{cond}
use native.Mathlib.Omega.{arith}
use lib.ListN.{length}
use lib.Dec.{eqb}
use Rattle.book.specs.Book.{Book, new_book, with_row, Step, join, sweep, close, end, hand_out, Answer, answer, step}
use Rattle.ledger.specs.declared.Cursor.{Cursor}
use Rattle.ledger.specs.declared.Ledger.{Ledger}
use Rattle.ledger.specs.Seen.{room_words, held_by, book_of}
use Rattle.ledger.specs.Promises.{cursor_of, cursor_after, Tells, Begins}
use Rattle.book.proofs.Outcomes.{positive, join_ind, sweep_ind, close_ind, end_ind, hand_out_ind}
use Rattle.book.proofs.Kept.{Kept, kept_new, kept_step, kept_few}

pub record Made (n : ℕ) (x : Ledger) : Type 0 where
  pub kept : Kept n (book_of x)
  pub count_is : held_by x ≡ length (book_of x).held

-- the count after a step is the number held, if it was before
abbrev Counts : Step → Cursor → Book → Answer → Type 0
Counts s c b a = c.held ≡ length b.held → (cond (eqb a.number 0) (cursor_after s a.book c) c).held ≡ length a.book.held

counts : (n : ℕ) (b : Book) (s : Step) (c : Cursor) → Counts s c b (step n b s)
unfolding answer with_row cursor_after cursor_of
counts n b (join s f) c = join_ind n b (Counts (join s f) c b) s f (λ k e z. rw (positive n b (join s f) k e) z) (λ i e g u z. z)
counts n b (close s) c = close_ind n b (Counts (close s) c b) s (λ k e z. rw (positive n b (close s) k e) z) (λ f o i e u z. z)
counts n b (sweep s t) c = sweep_ind n b (Counts (sweep s t) c b) s t (λ k e z. rw (positive n b (sweep s t) k e) z) (λ f o i e u g z. refl)
counts n b (end s e) c = end_ind n b (Counts (end s e) c b) s e (λ k d z. rw (positive n b (end s e) k d) z) (λ f o i q u v z. refl)
counts n b (hand_out room) c = hand_out_ind n b (Counts (hand_out room) c b) room (λ k d z. rw (positive n b (hand_out room) k d) z) (λ u m g z. refl)

pub made_new : (n begin : ℕ) (x : Ledger) → Begins begin x → Made n x
unfolding new_book cursor_of
made_new n begin x a =
    record {
      kept = rw a.book_is (kept_new n begin);
      count_is = ap (λ (c : Cursor). c.held) a.cursor_is ∙ ap (λ (b : Book). length b.held) (sym a.book_is);
    }

pub made_step : (n : ℕ) (x : Ledger) (s : Step) (r : ℕ) (x' : Ledger) → Made n x → Tells n x s r x' → Made n x'
made_step n x s r x' m t =
    record {
      kept = rw t.book_is (kept_step n (book_of x) m.kept s);
      count_is =
          ap (λ (c : Cursor). c.held) t.cursor_is
          ∙ ap (λ (k : ℕ). (cond (eqb k 0) (cursor_after s (step n (book_of x) s).book x.cursor) x.cursor).held) t.number_is
          ∙ counts n (book_of x) s x.cursor m.count_is
          ∙ ap (λ (b : Book). length b.held) (sym t.book_is);
    }

-- the count is no more than there is room for
pub made_few : (n : ℕ) (x : Ledger) → Made n x → held_by x ≤ room_words
made_few n x m = omega (arith, m.count_is, kept_few n (book_of x) m.kept)
