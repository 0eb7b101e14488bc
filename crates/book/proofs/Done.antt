-- What the answer 0 says: the step is exactly this change under these facts, one rule for each step. Whoever has a book in a larger state goes by
-- these. From the induction rules, since no refusal has the number 0. Assumes nothing.
use mathlib.Core.Path.{◌≡◌}
use Prim.Native.Nat.{ℕ, suc, ◌≤◌, ◌<◌}
use mathlib.Core.List.{List}
use lib.ListN.{length}
use borrow.Author.Tests.{eq-eqb}
use Rattle.common.specs.Benches.{In}
use Rattle.common.specs.Checks.{Fails}
use Rattle.common.proofs.Tests.{clash}
use Rattle.book.specs.Answers.{LetsGo}
use Rattle.book.specs.Book.{last_slot, last_out, most_held, unknown, joined, ended, tags_of, Book, with_row, swept, cut, advanced, Step, join, sweep, close, end, hand_out, answer, checks, step}
use Rattle.book.proofs.Answers.{may_go_get}
use Rattle.book.proofs.Outcomes.{positive, join_ind, sweep_ind, close_ind, end_ind, hand_out_ind}

-- the book after sender s, with first slot f and open slot o, has ended at e
unfoldable pub ended_at : ℕ → ℕ → ℕ → ℕ → Book → Book
ended_at s f o e b = cut s e (with_row s (ended f o e) b)

never_0 : {A : Type 0} (n : ℕ) (b : Book) (s : Step) (k : ℕ) → Fails (checks n b s) k → k ≡ 0 → A
never_0 n b s k f q = clash (cc (positive n b s k f, eq-eqb k 0 q))

module _ (n : ℕ) (b : Book) (P : Book → Type 0) where
  pub join_done : (s f : ℕ) → (In n s → b.rows s ≡ unknown → b.next ≤ f → f ≤ last_slot → P (with_row s (joined f f) b))
      → (step n b (join s f)).number ≡ 0 → P (step n b (join s f)).book
  unfolding answer
  join_done s f d = join_ind n b (λ a. a.number ≡ 0 → P a.book) s f (λ k z q. never_0 n b (join s f) k z q) (λ i e g u q. d i e g u)

  pub sweep_done : (s t : ℕ)
      → ((f o : ℕ) → In n s → b.rows s ≡ joined f o → o ≤ last_slot → length b.held < most_held → P (swept (record { sender = s; slot = o; tag = t }) b))
      → (step n b (sweep s t)).number ≡ 0 → P (step n b (sweep s t)).book
  unfolding answer
  sweep_done s t d = sweep_ind n b (λ a. a.number ≡ 0 → P a.book) s t (λ k z q. never_0 n b (sweep s t) k z q) (λ f o i e u g q. d f o i e u g)

  pub close_done : (s : ℕ) → ((f o : ℕ) → In n s → b.rows s ≡ joined f o → o ≤ last_slot → P (with_row s (joined f (suc o)) b))
      → (step n b (close s)).number ≡ 0 → P (step n b (close s)).book
  unfolding answer
  close_done s d = close_ind n b (λ a. a.number ≡ 0 → P a.book) s (λ k z q. never_0 n b (close s) k z q) (λ f o i e u q. d f o i e u)

  pub end_done : (s e : ℕ) → ((f o : ℕ) → In n s → b.rows s ≡ joined f o → e ≤ o → b.next ≤ e → P (ended_at s f o e b))
      → (step n b (end s e)).number ≡ 0 → P (step n b (end s e)).book
  unfolding answer ended_at
  end_done s e d = end_ind n b (λ a. a.number ≡ 0 → P a.book) s e (λ k z q. never_0 n b (end s e) k z q) (λ f o i y u g q. d f o i y u g)

-- a hand-out that is done writes the tags of the next slot, which every sender has let go
pub hand_out_done : (n : ℕ) (b : Book) (P : List ℕ → Book → Type 0) (room : ℕ)
    → (b.next ≤ last_out → ((s : ℕ) → In n s → LetsGo b.next (b.rows s)) → length (tags_of n b.next b.held) ≤ room → P (tags_of n b.next b.held) (advanced b))
    → (step n b (hand_out room)).number ≡ 0 → P (step n b (hand_out room)).tags (step n b (hand_out room)).book
unfolding answer
hand_out_done n b P room d = hand_out_ind n b (λ a. a.number ≡ 0 → P a.tags a.book) room (λ k z q. never_0 n b (hand_out room) k z q)
    (λ u m z q. d u (may_go_get n b.next b.rows m) z)
