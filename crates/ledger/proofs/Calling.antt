-- Calls of the code one after another are steps of the book that the ledger stands for: one call by its promise, a list of them by induction.
-- Assumes nothing.
use mathlib.Core.Path.{◌≡◌, refl, ap, sym, ◌∙◌}
use Prim.Native.Nat.{ℕ}
use mathlib.Core.List.{List, [], ◌∷◌, ◌++◌}
use lib.ListN.{length}
use Rattle.std.specs.Prelude.{Result, Ok, Err, IfOk}
use Rattle.kinds.specs.declared.Refusal.{Refusal}
use Rattle.kinds.specs.Refusals.{answer_of}
use Rattle.kinds.proofs.Refusals.{never_done}
use Rattle.ledger.specs.declared.Ledger.{Ledger}
use Rattle.book.specs.Book.{Step, hand_out, answer, step}
use Rattle.book.specs.Traffic.{book_from, answers_from, tags_from}
use Rattle.ledger.specs.Seen.{book_of}
use Rattle.ledger.specs.Promises.{Tells, Hands, laid}
use Rattle.ledger.specs.Calls.{written_in, Call, joins, sweeps, closes, ends, hands, Calls, none, more}
use Rattle.book.proofs.Outcomes.{refused_same, join_ind, sweep_ind, close_ind, end_ind}
use Rattle.ledger.proofs.Laid.{laid_front}
use Rattle.ledger.proofs.Made.{Made, made_step}

-- ---- one call

pub call_tells : (n : ℕ) (x : Ledger) (s : Step) (r : ℕ) (t : List ℕ) (y : Ledger) → Call n x s r t y → Tells n x s r y
call_tells n x s r t y (joins _ _ _ _ p) = p
call_tells n x s r t y (sweeps _ _ _ _ p) = p
call_tells n x s r t y (closes _ _ _ p) = p
call_tells n x s r t y (ends _ _ _ _ p) = p
call_tells n x s r t y (hands _ _ _ _ p) = p.tells

-- as many tags as a hand-out says stand at the front of its buffer; where it is refused there are none
written_is : (r : Result ℕ Refusal) (tags out : List ℕ) → IfOk r (λ k. k ≡ length tags) → ((answer_of r ≡ 0 → ⊥) → tags ≡ []) → written_in r (laid tags out) ≡ tags
unfolding written_in
written_is (Ok k) tags out e f = laid_front tags out k (sym e)
written_is (Err r) tags out e f = sym (f (never_done r))

hands_tags : (n : ℕ) (x : Ledger) (out : List ℕ) (r : Result ℕ Refusal) (y : Ledger) (out' : List ℕ) → Hands n x out r y out' → written_in r out' ≡ (step n (book_of x) (hand_out (length out))).tags
hands_tags n x out r y out' p =
    let s = hand_out (length out) in
    rw p.out_is (written_is r (step n (book_of x) s).tags out p.count_is (λ e. (refused_same n (book_of x) s (λ z. e (p.tells.number_is ∙ z))).1))

pub call_tags : (n : ℕ) (x : Ledger) (s : Step) (r : ℕ) (t : List ℕ) (y : Ledger) → Call n x s r t y → t ≡ (step n (book_of x) s).tags
unfolding answer
call_tags n x _ r t y (joins s f _ _ p) = join_ind n (book_of x) (λ a. [] ≡ a.tags) s f (λ k e. refl) (λ i e g u. refl)
call_tags n x _ r t y (sweeps s v _ _ p) = sweep_ind n (book_of x) (λ a. [] ≡ a.tags) s v (λ k e. refl) (λ f o i e u g. refl)
call_tags n x _ r t y (closes s _ _ p) = close_ind n (book_of x) (λ a. [] ≡ a.tags) s (λ k e. refl) (λ f o i e u. refl)
call_tags n x _ r t y (ends s e _ _ p) = end_ind n (book_of x) (λ a. [] ≡ a.tags) s e (λ k d. refl) (λ f o i q u v. refl)
call_tags n x _ r t y (hands out h _ out' p) = hands_tags n x out h y out' p

-- ---- a list of calls

module _ (n : ℕ) where
  pub calls_answers : (x : Ledger) (l : List Step) (rs ts : List ℕ) (z : Ledger) → Calls n x l rs ts z → rs ≡ answers_from n (book_of x) l
  unfolding answers_from
  calls_answers x l rs ts z (none _) = refl
  calls_answers x _ _ _ z (more _ s r t y p l rs ts _ q) =
      let told = call_tells n x s r t y p in
      rw told.number_is (ap (λ k. (step n (book_of x) s).number ∷ k) (calls_answers y l rs ts z q ∙ ap (λ b. answers_from n b l) told.book_is))

  pub calls_tags : (x : Ledger) (l : List Step) (rs ts : List ℕ) (z : Ledger) → Calls n x l rs ts z → ts ≡ tags_from n (book_of x) l
  unfolding tags_from
  calls_tags x l rs ts z (none _) = refl
  calls_tags x _ _ _ z (more _ s r t y p l rs ts _ q) =
      ap (λ k. k ++ ts) (call_tags n x s r t y p)
      ∙ ap (λ k. (step n (book_of x) s).tags ++ k) (calls_tags y l rs ts z q ∙ ap (λ b. tags_from n b l) (call_tells n x s r t y p).book_is)

  pub calls_book : (x : Ledger) (l : List Step) (rs ts : List ℕ) (z : Ledger) → Calls n x l rs ts z → book_of z ≡ book_from n (book_of x) l
  unfolding book_from
  calls_book x l rs ts z (none _) = refl
  calls_book x _ _ _ z (more _ s r t y p l rs ts _ q) = calls_book y l rs ts z q ∙ ap (λ b. book_from n b l) (call_tells n x s r t y p).book_is

  pub calls_made : (x : Ledger) (l : List Step) (rs ts : List ℕ) (z : Ledger) → Calls n x l rs ts z → Made n x → Made n z
  calls_made x l rs ts z (none _) m = m
  calls_made x _ _ _ z (more _ s r t y p l rs ts _ q) m = calls_made y l rs ts z q (made_step n x s r y m (call_tells n x s r t y p))
