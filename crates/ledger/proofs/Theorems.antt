-- What is proved of the ledger. The statements about books hold for every number of senders n and every list of steps, refused ones among
-- them; those about the code cite its promises alone. The proofs are in the other files. Assumes nothing.
use mathlib.Core.Path.{◌≡◌, refl, ap, sym, ◌∙◌}
use Prim.Native.Nat.{ℕ, suc, ◌+◌, ◌-◌, ◌≤◌, ◌<◌, max}
use mathlib.Core.Bool.{Bool, true, false}
use mathlib.Core.List.{List, [], ◌∷◌, map}
use lib.ListN.{length}
use Rattle.published.specs.Rounds as rounds
use Rattle.published.specs.Rounds.{find, found, chosen, run_from, new_run}
use Rattle.std.specs.Prelude.{Result}
use Rattle.kinds.specs.declared.Refusal.{Refusal}
use Rattle.kinds.specs.Refusals.{answer_of}
use Rattle.kinds.proofs.Refusals.{same_result}
use Rattle.ledger.specs.declared.Ledger.{Ledger}
use Rattle.book.specs.Book.{last_slot, most_held, Sweep, tags_of, joined, all_closed, may_go, Book, new_book, Step, end, answer, step}
use Rattle.book.specs.Traffic.{book_from, answers_from, tags_from, accepted, dropped, handed_out, in_order, along, tally}
use Rattle.ledger.specs.Seen.{room_words, next_by, held_by, rows_by, sweeps_by, book_of}
use Rattle.ledger.specs.Promises.{Tells, Hands, Begins}
use Rattle.ledger.specs.Calls.{Calls}
use Rattle.book.proofs.Tags as tags
use Rattle.book.specs.Sweeps.{sent_from, Holding}
use Rattle.book.proofs.Outcomes.{step_ind, after_done}
use Rattle.common.specs.Lists.{OneOf, All}
use Rattle.book.proofs.Numbers as numbers
use Rattle.book.specs.Refusals.{refusals}
use Rattle.book.proofs.Kept as kept
use Rattle.book.proofs.Kept.{Kept, kept_new, kept_from}
use Rattle.book.proofs.Next as next
use Rattle.book.proofs.Accounts as accounts
use Rattle.book.proofs.Joint as joins
use Rattle.ledger.proofs.Made as made
use Rattle.ledger.proofs.Made.{Made}
use Rattle.ledger.proofs.Calling as calling
use Rattle.ledger.proofs.Settles as settles

-- ---- the promises settle the answer and the whole ledger

-- Of join, sweep, close and end: one number, and one content of the ledger.
pub one_answer : (n : ℕ) (x : Ledger) (s : Step) (r q : ℕ) (y z : Ledger) → Tells n x s r y → Tells n x s q z → (r ≡ q) × (y ≡ z)
one_answer n x s r q y z a c = (settles.one_number n x s r q y z a c, settles.one_content n x s r q y z a c)

-- The same of what code answers: one result, and so one refusal.
pub one_result : (n : ℕ) (x : Ledger) (s : Step) (r q : Result (Unit {0}) Refusal) (y z : Ledger) → Tells n x s (answer_of r) y → Tells n x s (answer_of q) z → (r ≡ q) × (y ≡ z)
one_result n x s r q y z a c = let e = one_answer n x s (answer_of r) (answer_of q) y z a c in (same_result r q e.0, e.1)

-- Of hand out: the same, and one content of the receiving buffer.
pub one_hand_out : (n : ℕ) (x : Ledger) (out : List ℕ) (r q : Result ℕ Refusal) (y z : Ledger) (o p : List ℕ) → Hands n x out r y o → Hands n x out q z p → (r ≡ q) × (y ≡ z) × (o ≡ p)
one_hand_out n x out r q y z o p a c =
    (settles.one_hand_out n x out r q y z o p a c, settles.one_hand_out_content n x out r q y z o p a c, settles.one_buffer n x out r q y z o p a c)

-- Of a new ledger: one content of the cursor and of the rows.
pub one_beginning : (begin : ℕ) (x y : Ledger) → Begins begin x → Begins begin y → (x.cursor ≡ y.cursor) × (x.senders ≡ y.senders)
one_beginning = settles.one_beginning

-- ---- the book, from a new one by a list of steps

module _ (n begin : ℕ) where
  kept_of : (l : List Step) → Kept n (book_from n (new_book begin) l)
  kept_of l = kept_from n (new_book begin) (kept_new n begin) l

  -- No more sweeps are held than can be.
  pub few_held : (l : List Step) → length (book_from n (new_book begin) l).held ≤ most_held
  few_held l = kept.kept_few n (book_from n (new_book begin) l) (kept_of l)

  -- The next slot is not above the greater of a sender's first slot and the slot before its open one, while it has no end.
  pub next_behind : (l : List Step) (s f o : ℕ) → (book_from n (new_book begin) l).rows s ≡ joined f o → (book_from n (new_book begin) l).next ≤ max f (o - 1)
  next_behind l = kept.kept_behind n (book_from n (new_book begin) l) (kept_of l)

  -- So an end at its open slot or the one before, and not below its first, is done: another bench, which missed the last closing, may have proposed that one.
  pub late_end : (l : List Step) (s f o e : ℕ) → (book_from n (new_book begin) l).rows s ≡ joined f o → max f (o - 1) ≤ e → e ≤ o → (step n (book_from n (new_book begin) l) (end s e)).number ≡ 0
  late_end l = kept.late_end n (book_from n (new_book begin) l) (kept_of l)

  -- Where every member of the slot after it has closed that, a slot may go out: the other half of the rule then holds too.
  pub after_enough : (l : List Step) (k : ℕ) → all_closed n (suc k) (book_from n (new_book begin) l).rows ≡ true → may_go n k (book_from n (new_book begin) l).rows ≡ true
  after_enough l = kept.after_enough n (book_from n (new_book begin) l) (kept_of l)

  -- The next slot is not above the open slot of a sender without end.
  pub next_below_open : (l : List Step) (s f o : ℕ) → (book_from n (new_book begin) l).rows s ≡ joined f o → (book_from n (new_book begin) l).next ≤ o
  next_below_open l s f o e = (kept.kept_open n (book_from n (new_book begin) l) (kept_of l) s f o e).0

  -- The next slot never passes the last one that can be closed.
  pub next_within : begin ≤ last_slot → (l : List Step) → (book_from n (new_book begin) l).next ≤ last_slot
  unfolding new_book
  next_within h l = next.next_from_lem n (new_book begin) h l

  -- Every sweep held is one of senders 1 to n, lies in the next slot or a later one, between its sender's first and open slot, and below its end.
  pub held_lie : (l : List Step) → All (Holding n (book_from n (new_book begin) l).next (book_from n (new_book begin) l).rows) (book_from n (new_book begin) l).held
  held_lie l = kept.kept_held n (book_from n (new_book begin) l) (kept_of l)

  -- 18 and 19 never together: no slot is above a sender's open slot and below the next slot.
  pub never_both : (l : List Step) (s f o e : ℕ) → (book_from n (new_book begin) l).rows s ≡ joined f o → o < e → e < (book_from n (new_book begin) l).next → ⊥
  never_both l = kept.never_both n (book_from n (new_book begin) l) (kept_of l)

  -- No sweep is lost and none comes twice: of those that pass any test, as many were accepted as were handed out, dropped by an end, or are still held.
  pub account : (p : Sweep → Bool) (l : List Step)
      → tally p (along accepted n (new_book begin) l) ≡ tally p (along handed_out n (new_book begin) l) + tally p (along dropped n (new_book begin) l) + tally p (book_from n (new_book begin) l).held
  account p l = accounts.account p n begin l

-- The tags that a hand-out writes are those of the sweeps that it hands out, in their order.
pub tags_are : (n k : ℕ) (l : List Sweep) → tags_of n k l ≡ map (λ (w : Sweep). w.tag) (in_order n k l)
tags_are n k l = tags.tags_in_order n k l

-- So are those that a list of steps writes.
pub tags_along : (n : ℕ) (b : Book) (l : List Step) → tags_from n b l ≡ map (λ (w : Sweep). w.tag) (along handed_out n b l)
tags_along = tags.tags_along

-- A step answers 0 or one of the numbers that are listed for it.
pub number_among : (n : ℕ) (b : Book) (s : Step) → OneOf (step n b s).number (0 ∷ refusals s)
number_among = numbers.number_among

-- A refusal leaves the book and writes nothing.
pub refused_same : (n : ℕ) (b : Book) (s : Step) → ((step n b s).number ≡ 0 → ⊥) → step n b s ≡ answer (step n b s).number [] b
unfolding answer
refused_same n b s = step_ind n b s (λ a. (a.number ≡ 0 → ⊥) → a ≡ answer a.number [] b) (λ k f z. refl) (λ h z. absurd (z (after_done n b s)))

-- ---- the code: a new ledger, whatever its room has, and any calls from there on

module _ (n begin : ℕ) (first : Ledger) (new : Begins begin first) (l : List Step) (rs ts : List ℕ) (x : Ledger) (calls : Calls n first l rs ts x) where
  -- The calls return the numbers and write the tags of the book's steps from a new book, and the ledger after them stands for the book after those.
  pub calls_meet : (rs ≡ answers_from n (new_book begin) l) × (ts ≡ tags_from n (new_book begin) l) × (book_of x ≡ book_from n (new_book begin) l)
  calls_meet = (
    calling.calls_answers n first l rs ts x calls ∙ ap (λ b. answers_from n b l) new.book_is,
    calling.calls_tags n first l rs ts x calls ∙ ap (λ b. tags_from n b l) new.book_is,
    calling.calls_book n first l rs ts x calls ∙ ap (λ b. book_from n b l) new.book_is,
  )

  made_of : Made n x
  made_of = calling.calls_made n first l rs ts x calls (made.made_new n begin first new)

  -- The cursor's count is the number of sweeps held, and no more than there is room for.
  pub count_is_held : (held_by x ≡ length (sweeps_by x)) × (held_by x ≤ room_words)
  unfolding book_of
  count_is_held = (made_of.count_is, made.made_few n x made_of)

  -- The cursor's next slot is not above the greater of a sender's first slot and the slot before its open one, while it has no end.
  pub calls_behind : (s f o : ℕ) → rows_by x s ≡ joined f o → next_by x ≤ max f (o - 1)
  unfolding book_of
  calls_behind = kept.kept_behind n (book_of x) made_of.kept

  -- So a call that ends it at its open slot or the one before, and not below its first, returns 0.
  pub calls_late_end : (s f o e : ℕ) → rows_by x s ≡ joined f o → max f (o - 1) ≤ e → e ≤ o → (r : ℕ) (y : Ledger) → Tells n x (end s e) r y → r ≡ 0
  unfolding book_of
  calls_late_end s f o e q u v r y ends = ends.number_is ∙ kept.late_end n (book_of x) made_of.kept s f o e q u v

  -- The cursor's next slot is not above the open slot of a sender without end.
  pub calls_below_open : (s f o : ℕ) → rows_by x s ≡ joined f o → next_by x ≤ o
  unfolding book_of
  calls_below_open s f o e = (kept.kept_open n (book_of x) made_of.kept s f o e).0

  -- Every sweep held is one of senders 1 to n, lies in the next slot or a later one, between its sender's first and open slot, and below its end.
  pub calls_held_lie : All (Holding n (next_by x) (rows_by x)) (sweeps_by x)
  unfolding book_of
  calls_held_lie = kept.kept_held n (book_of x) made_of.kept

  -- 18 and 19 never together: no slot is above a sender's open slot and below the next slot.
  pub calls_never_both : (s f o e : ℕ) → rows_by x s ≡ joined f o → o < e → e < next_by x → ⊥
  unfolding book_of
  calls_never_both = kept.never_both n (book_of x) made_of.kept

  -- No sweep is lost and none comes twice: of those that pass any test, as many were accepted as were handed out, dropped by an end, or are still held in the
  -- ledger; and the tags written are those of the sweeps handed out.
  pub calls_account : (p : Sweep → Bool)
      → tally p (along accepted n (new_book begin) l) ≡ tally p (along handed_out n (new_book begin) l) + tally p (along dropped n (new_book begin) l) + tally p (sweeps_by x)
  unfolding book_of
  calls_account p = let e : sweeps_by x ≡ (book_from n (new_book begin) l).held = ap (λ (b : Book). b.held) calls_meet.2 in rw e (account n begin p l)

  pub calls_hand_out : ts ≡ map (λ (w : Sweep). w.tag) (along handed_out n (new_book begin) l)
  calls_hand_out = calls_meet.1 ∙ tags_along n (new_book begin) l

-- ---- the joint

-- Bench i started a run with value v, the open slot of sender s in its ledger then, and decided d. Whatever its ledger did since, whether it closed
-- slots for that sender or not: ending s at d is not refused with 18, and once that is done no sweep of s from slot d on is ever handed out.
pub joint : (m : ℕ) (run : List rounds.Step) (i v w d : ℕ) → find 1 (run_from m new_run run i).sent ≡ found v w → (run_from m new_run run i).decision ≡ chosen d
    → (n : ℕ) (b : Book) (s f : ℕ) → b.rows s ≡ joined f v → (since : List Step) → ((step n (book_from n b since) (end s d)).number ≡ 18 → ⊥)
    × ((step n (book_from n b since) (end s d)).number ≡ 0 → (later : List Step) → All (λ w. sent_from s d w ≡ false) (along handed_out n (step n (book_from n b since) (end s d)).book later))
joint m run i v w d started decided n b s f was since = (
  joins.end_never_18 n b s f v d was (joins.not_above_start m run i v w d started decided) since,
  joins.end_hands_none n (book_from n b since) s d,
)

-- The same of calls, on whatever ledger: bench i started a run with the open slot of sender s in its ledger x, and decided d. Whatever calls led to the
-- ledger y since, ending s at d there is not refused with 18, and once that is done later calls hand out no sweep of s from slot d on.
pub calls_joint : (m : ℕ) (run : List rounds.Step) (i v w d : ℕ) → find 1 (run_from m new_run run i).sent ≡ found v w → (run_from m new_run run i).decision ≡ chosen d
    → (n : ℕ) (x : Ledger) (s f : ℕ) → rows_by x s ≡ joined f v → (since : List Step) (rs ts : List ℕ) (y : Ledger) → Calls n x since rs ts y → (r : ℕ) (z : Ledger) → Tells n y (end s d) r z → (r ≡ 18 → ⊥)
    × (r ≡ 0 → (later : List Step) (qs us : List ℕ) (z' : Ledger) → Calls n z later qs us z' → (us ≡ map (λ (w : Sweep). w.tag) (along handed_out n (book_of z) later)) × All (λ w. sent_from s d w ≡ false) (along handed_out n (book_of z) later))
unfolding book_of
calls_joint m run i v w d started decided n x s f was since rs ts y calls r z ends =
    let b = book_from n (book_of x) since in
    let e : book_of y ≡ b = calling.calls_book n x since rs ts y calls in
    let told : r ≡ (step n b (end s d)).number = ends.number_is ∙ ap (λ (c : Book). (step n c (end s d)).number) e in
    let left : book_of z ≡ (step n b (end s d)).book = ends.book_is ∙ ap (λ (c : Book). (step n c (end s d)).book) e in
    let j = joint m run i v w d started decided n (book_of x) s f was since in (
      λ q. j.0 (sym told ∙ q),
      λ q later qs us z' after. (
        calling.calls_tags n z later qs us z' after ∙ tags_along n (book_of z) later,
        rw left (j.1 (sym told ∙ q) later),
      ),
    )
