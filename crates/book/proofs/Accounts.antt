-- No sweep is lost and none comes twice: whatever is tallied, what was held and what came in is what went out, what was dropped and what
-- is still held. By induction over the steps, each by its rule. Assumes nothing.
use mathlib.Core.Path.{◌≡◌, refl, ap, sym, ◌∙◌}
use Prim.Native.Nat.{ℕ, zero, suc, ◌+◌}
use mathlib.Core.Bool.{Bool, true, false, cond, not, ◌&&◌, ◌||◌}
use mathlib.Core.List.{List, [], ◌∷◌, ◌++◌}
use native.Mathlib.Omega.{arith}
use lib.ListN.{length, length-append}
use lib.Dec.{eqb, leb}
use borrow.Author.Tests.{eqb-true, eqb-false, ne_eqb, le-leb, lt-leb, leb-true, leb-false}
use Rattle.common.specs.Benches.{is_bench}
use Rattle.common.proofs.Tests.{both, split}
use Rattle.common.specs.Checks.{Fails}
use Rattle.book.specs.Book.{Sweep, only, open_slot, joined, Book, new_book, with_row, swept, cut, advanced, Step, join, sweep, close, end, hand_out, Answer, answer, checks, step}
use Rattle.book.specs.Traffic.{book_from, accepted, dropped, handed_out, in_order, along, tally}
use Rattle.book.proofs.Only.{only_append, only_none, only_same, all_any}
use Rattle.book.specs.Sweeps.{sent_in, of_slot, sent_from, Holding}
use Rattle.book.proofs.Outcomes.{positive, join_ind, sweep_ind, close_ind, end_ind, hand_out_ind}
use Rattle.book.proofs.Kept.{Kept, kept_new, kept_step, kept_held}

-- ---- laws of tallies

pub tally_append : (p : Sweep → Bool) (l m : List Sweep) → tally p (l ++ m) ≡ tally p l + tally p m
unfolding tally
tally_append p l m = ap length (only_append p l m) ∙ length-append (only p l) (only p m)

-- a test that is one of two, never both
pub tally_parts : (p u v x : Sweep → Bool) (l : List Sweep) → ((w : Sweep) → x w ≡ (u w || v w)) → ((w : Sweep) → u w ≡ true → v w ≡ false)
    → tally p (only x l) ≡ tally p (only u l) + tally p (only v l)
unfolding tally only
tally_parts p u v x [] f g = refl
tally_parts p u v x (w ∷ l) f g =
    let ih = tally_parts p u v x l f g in let e = f w in
    split (u w)
    (λ q. let r = g w q in split (p w) (λ t. rw (e, q, r, t) (omega arith)) (λ t. rw (e, q, r, t) ih))
    (λ q. split (v w) (λ r. split (p w) (λ t. rw (e, q, r, t) (omega arith)) (λ t. rw (e, q, r, t) ih)) (λ r. rw (e, q, r) ih))

-- all, by what is in a part and what is not
pub tally_split : (p q : Sweep → Bool) (l : List Sweep) → tally p l ≡ tally p (only q l) + tally p (only (λ w. not (q w)) l)
unfolding tally only
tally_split p q [] = refl
tally_split p q (w ∷ l) =
    let ih = tally_split p q l in
    split (q w) (λ e. split (p w) (λ t. rw (e, t) (omega arith)) (λ t. rw (e, t) ih)) (λ e. split (p w) (λ t. rw (e, t) (omega arith)) (λ t. rw (e, t) ih))

-- ---- what is handed out of a slot is what is held of it

up_to : ℕ → ℕ → Sweep → Bool
up_to n k w = is_bench n w.sender && eqb w.slot k

up_next : (n k : ℕ) (w : Sweep) → up_to (suc n) k w ≡ (up_to n k w || sent_in (suc n) k w)
unfolding up_to is_bench
up_next n k w = split (leb w.sender n)
    (λ q. let a = leb-true w.sender n q in let d : eqb w.sender (suc n) ≡ false = ne_eqb w.sender (suc n) (omega arith) in
    rw (q, le-leb w.sender (suc n) (omega arith), d) (or-false (leb 1 w.sender) (eqb w.slot k)))
    (λ q. let a = leb-false w.sender n q in split (eqb w.sender (suc n))
    (λ r. let b = eqb-true w.sender (suc n) r in rw (q, le-leb w.sender (suc n) (omega arith), le-leb 1 w.sender (omega arith), r))
    (λ r. let b = eqb-false w.sender (suc n) r in rw (q, lt-leb w.sender (suc n) (omega arith), r) (both_false (leb 1 w.sender))))
  where
    or-false : (a c : Bool) → (a && true && c) ≡ ((a && true && c) || (false && c))
    or-false true true = refl
    or-false true false = refl
    or-false false c = refl

    both_false : (a : Bool) → ((a && false) && eqb w.slot k) ≡ (((a && false) && eqb w.slot k) || (false && eqb w.slot k))
    both_false true = refl
    both_false false = refl

up_apart : (n k : ℕ) (w : Sweep) → up_to n k w ≡ true → sent_in (suc n) k w ≡ false
unfolding up_to is_bench
up_apart n k w t =
    let z = both (leb 1 w.sender && leb w.sender n) (eqb w.slot k) t in
    let y = both (leb 1 w.sender) (leb w.sender n) z.0 in
    let a = leb-true w.sender n y.1 in rw (ne_eqb w.sender (suc n) (omega arith))

none_up : (k : ℕ) (w : Sweep) → up_to 0 k w ≡ false
unfolding up_to is_bench
none_up k w = split (leb 1 w.sender)
    (λ q. let a = leb-true 1 w.sender q in rw (q, lt-leb w.sender 0 a))
    (λ q. rw q)

tally_order : (p : Sweep → Bool) (n k : ℕ) (l : List Sweep) → tally p (in_order n k l) ≡ tally p (only (up_to n k) l)
unfolding in_order
tally_order p zero k l = ap (tally p) (sym (only_none (λ w. w ≡ w) (up_to 0 k) l (λ w e. none_up k w) (all_any l)))
tally_order p (suc n) k l =
    tally_append p (in_order n k l) (only (sent_in (suc n) k) l)
    ∙ omega (arith, tally_order p n k l, tally_parts p (up_to n k) (sent_in (suc n) k) (up_to (suc n) k) l (up_next n k) (up_apart n k))

-- every sweep held has a sender
slot_tally : (p : Sweep → Bool) (n : ℕ) (b : Book) → Kept n b → tally p (in_order n b.next b.held) ≡ tally p (only (of_slot b.next) b.held)
unfolding up_to is_bench
slot_tally p n b h =
    tally_order p n b.next b.held
    ∙ ap (tally p) (only_same (Holding n b.next b.rows) (up_to n b.next) (of_slot b.next) b.held
    (λ w x. rw (le-leb 1 w.sender x.from.0, le-leb w.sender n x.from.1)) (kept_held n b h))

-- ---- one step, and all of them

-- what a step brings, if it is done
abbrev came : (ℕ → Book → Step → List Sweep) → ℕ → Book → Step → Answer → List Sweep
came f n b s a = cond (eqb a.number 0) (f n b s) []

open_joined : (f o : ℕ) → open_slot (joined f o) ≡ o
unfolding open_slot
open_joined f o = refl

module _ (p : Sweep → Bool) (n : ℕ) where
  nothing : tally p [] ≡ 0
  unfolding tally only
  nothing = refl

  Balance : Book → Step → Answer → Type 0
  Balance b s a = tally p b.held + tally p (came accepted n b s a) ≡ tally p (came handed_out n b s a) + tally p (came dropped n b s a) + tally p a.book.held

  stays : (b : Book) (s : Step) (k : ℕ) → Fails (checks n b s) k → Balance b s (answer k [] b)
  unfolding Balance answer tally only
  stays b s k f = rw (positive n b s k f) (omega arith)

  balance : (b : Book) → Kept n b → (s : Step) → Balance b s (step n b s)
  unfolding Balance answer tally only accepted handed_out dropped with_row swept cut advanced
  balance b h (join s f) = join_ind n b (Balance b (join s f)) s f (stays b (join s f)) λ i e g u. omega arith
  balance b h (close s) = close_ind n b (Balance b (close s)) s (stays b (close s)) λ f o i e u. omega arith
  balance b h (sweep s t) = sweep_ind n b (Balance b (sweep s t)) s t (stays b (sweep s t)) λ f o i e u few.
      let w : Sweep = record { sender = s; slot = o; tag = t } in
      let d : open_slot (b.rows s) ≡ o = rw e (open_joined f o) in
      rw d (omega (arith, tally_append p b.held (w ∷ [])))
  balance b h (end s e) = end_ind n b (Balance b (end s e)) s e (stays b (end s e)) λ f o i q u v.
      omega (arith, tally_split p (sent_from s e) b.held)
  balance b h (hand_out room) = hand_out_ind n b (Balance b (hand_out room)) room (stays b (hand_out room)) λ u m z.
      omega (arith, tally_split p (of_slot b.next) b.held, slot_tally p n b h)

  pub balance_from : (b : Book) → Kept n b → (l : List Step)
      → tally p b.held + tally p (along accepted n b l) ≡ tally p (along handed_out n b l) + tally p (along dropped n b l) + tally p (book_from n b l).held
  unfolding Balance along book_from
  balance_from b h [] = omega (arith, nothing)
  balance_from b h (s ∷ l) =
      omega (
        arith,
        balance b h s,
        balance_from (step n b s).book (kept_step n b h s) l,
        tally_append p (came accepted n b s (step n b s)) (along accepted n (step n b s).book l),
        tally_append p (came handed_out n b s (step n b s)) (along handed_out n (step n b s).book l),
        tally_append p (came dropped n b s (step n b s)) (along dropped n (step n b s).book l),
      )

  -- from a new book nothing was held before
  pub account : (begin : ℕ) (l : List Step)
      → tally p (along accepted n (new_book begin) l) ≡ tally p (along handed_out n (new_book begin) l) + tally p (along dropped n (new_book begin) l) + tally p (book_from n (new_book begin) l).held
  unfolding new_book
  account begin l = omega (arith, nothing, balance_from (new_book begin) (kept_new n begin) l)
