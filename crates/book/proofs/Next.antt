-- The next slot never passes the last one that can be closed: the last that is handed out is the one before it. Assumes nothing.
use Prim.Native.Nat.{ℕ, ◌≤◌}
use mathlib.Core.List.{List, [], ◌∷◌}
use native.Mathlib.Omega.{arith}
use Rattle.book.specs.Book.{last_slot, Book, with_row, swept, cut, advanced, Step, join, sweep, close, end, hand_out, answer, step}
use Rattle.book.specs.Traffic.{book_from}
use Rattle.book.proofs.Outcomes.{join_ind, sweep_ind, close_ind, end_ind, hand_out_ind}

next_step : (n : ℕ) (b : Book) → b.next ≤ last_slot → (s : Step) → (step n b s).book.next ≤ last_slot
unfolding answer with_row swept cut advanced
next_step n b h (join s f) = join_ind n b (λ a. a.book.next ≤ last_slot) s f (λ k e. h) λ i e g u. h
next_step n b h (sweep s t) = sweep_ind n b (λ a. a.book.next ≤ last_slot) s t (λ k e. h) λ f o i e u g. h
next_step n b h (close s) = close_ind n b (λ a. a.book.next ≤ last_slot) s (λ k e. h) λ f o i e u. h
next_step n b h (end s e) = end_ind n b (λ a. a.book.next ≤ last_slot) s e (λ k z. h) λ f o i q u g. h
next_step n b h (hand_out room) = hand_out_ind n b (λ a. a.book.next ≤ last_slot) room (λ k e. h) λ u m z. omega arith

pub next_from_lem : (n : ℕ) (b : Book) → b.next ≤ last_slot → (l : List Step) → (book_from n b l).next ≤ last_slot
unfolding book_from
next_from_lem n b h [] = h
next_from_lem n b h (s ∷ l) = next_from_lem n (step n b s).book (next_step n b h s) l
