-- A sender that has joined stays known, and its open slot never falls; a sender that has ended has no sweep left from its end on, and
-- none of them is ever handed out. Assumes nothing.
use mathlib.Core.Path.{◌≡◌, sym}
use Prim.Native.Nat.{ℕ, zero, suc, ◌≤◌}
use mathlib.Core.Bool.{true, false, cond, not}
use mathlib.Core.List.{List, [], ◌∷◌}
use native.Mathlib.Omega.{arith}
use lib.Dec.{eqb, leb}
use borrow.Author.Tests.{eq-eqb, ne_eqb, le-leb, not-true}
use Rattle.common.specs.Lists.{All, none, more}
use Rattle.common.specs.Updates.{put}
use Rattle.common.proofs.Tests.{clash, cond_ind}
use Rattle.common.proofs.Updates.{put_ind, put_same}
use Rattle.common.specs.Checks.{Fails, here, later}
use Rattle.book.specs.Book.{Sweep, only, Row, unknown, joined, ended, is_open, open_slot, Book, with_row, swept, cut, advanced, Step, join, sweep, close, end, hand_out, Answer, answer, checks, step}
use Rattle.book.specs.Traffic.{book_from, handed_out, in_order, along}
use Rattle.book.proofs.Only.{all_append, all_only, all_any}
use Rattle.book.specs.Sweeps.{sent_in, sent_from}
use Rattle.book.proofs.Outcomes.{join_ind, sweep_ind, close_ind, end_ind, hand_out_ind, positive}

-- ---- an open slot never falls

-- joined, with an open slot of at least v, or ended
pub data Reaches (v : ℕ) : Row → Type 0 where
  reaching : (f o : ℕ) → v ≤ o → Reaches v (joined f o)
  over : (f o e : ℕ) → Reaches v (ended f o e)

reaches_joined : (v f o : ℕ) (r : Row) → r ≡ joined f o → Reaches v r → v ≤ o
reaches_joined v f o r e (reaching g p h) = let q : p ≡ o = cc in omega arith
reaches_joined v f o r e (over g p x) = clash (cc)

reaches_unknown : (v : ℕ) (r : Row) → r ≡ unknown → Reaches v r → ⊥
reaches_unknown v r e (reaching g p h) = clash (cc)
reaches_unknown v r e (over g p x) = clash (cc)

module _ (n : ℕ) (s v : ℕ) where
  reaches_step : (b : Book) → Reaches v (b.rows s) → (a : Step) → Reaches v ((step n b a).book.rows s)
  unfolding answer with_row swept cut advanced
  reaches_step b h (join i f) = join_ind n b (λ a. Reaches v (a.book.rows s)) i f (λ k e. h) λ u e g z.
      put_ind (Reaches v) b.rows i (joined f f) s (λ q. absurd (reaches_unknown v (b.rows s) (rw q e) h)) (λ ne. h)
  reaches_step b h (sweep i t) = sweep_ind n b (λ a. Reaches v (a.book.rows s)) i t (λ k e. h) λ f o u e g z. h
  reaches_step b h (close i) = close_ind n b (λ a. Reaches v (a.book.rows s)) i (λ k e. h) λ f o u e g.
      put_ind (Reaches v) b.rows i (joined f (suc o)) s (λ q. reaching f (suc o) (omega (arith, reaches_joined v f o (b.rows s) (rw q e) h))) (λ ne. h)
  reaches_step b h (end i x) = end_ind n b (λ a. Reaches v (a.book.rows s)) i x (λ k e. h) λ f o u e g z.
      put_ind (Reaches v) b.rows i (ended f o x) s (λ q. over f o x) (λ ne. h)
  reaches_step b h (hand_out room) = hand_out_ind n b (λ a. Reaches v (a.book.rows s)) room (λ k e. h) λ u m z. h

  pub reaches_from : (b : Book) → Reaches v (b.rows s) → (l : List Step) → Reaches v ((book_from n b l).rows s)
  unfolding book_from
  reaches_from b h [] = h
  reaches_from b h (a ∷ l) = reaches_from (step n b a).book (reaches_step b h a) l

-- where the open slot has reached v, an end at or below v is not refused with 18
reached_18 : (v d : ℕ) → d ≤ v → (r : Row) → Reaches v r → is_open r ≡ true → leb d (open_slot r) ≡ true
unfolding is_open open_slot
reached_18 v d h r (reaching f o g) e = le-leb d o (omega arith)
reached_18 v d h r (over f o x) e = clash (cc)

fails_not_18 : (n : ℕ) (b : Book) (s v d k : ℕ) → d ≤ v → Reaches v (b.rows s) → Fails (checks n b (end s d)) k → k ≡ 18 → ⊥
unfolding checks
fails_not_18 n b s v d k h r (here j c m e) q = clash (cc)
fails_not_18 n b s v d k h r (later j c m i e (here j₂ c₂ m₂ e₂)) q = clash (cc)
fails_not_18 n b s v d k h r (later j c m i e (later j₂ c₂ m₂ i₂ e₂ (here j₃ c₃ m₃ e₃))) q = clash (cc)
fails_not_18 n b s v d k h r (later j c m i e (later j₂ c₂ m₂ i₂ e₂ (later j₃ c₃ m₃ i₃ e₃ (here j₄ c₄ m₄ e₄)))) q =
    let z = reached_18 v d h (b.rows s) r e₃ in clash (cc)
fails_not_18 n b s v d k h r (later j c m i e (later j₂ c₂ m₂ i₂ e₂ (later j₃ c₃ m₃ i₃ e₃ (later j₄ c₄ m₄ i₄ e₄ (here j₅ c₅ m₅ e₅))))) q = clash (cc)
fails_not_18 n b s v d k h r (later _ _ _ _ e (later _ _ _ _ e₂ (later _ _ _ _ e₃ (later _ _ _ _ e₄ (later _ _ _ _ _ z))))) q = elim z [ ]

pub never_18 : (n : ℕ) (b : Book) (s v d : ℕ) → d ≤ v → Reaches v (b.rows s) → (step n b (end s d)).number ≡ 18 → ⊥
unfolding answer
never_18 n b s v d h r = end_ind n b (λ a. a.number ≡ 18 → ⊥) s d (λ k f. fails_not_18 n b s v d k h r f) (λ f o i e u g q. clash (cc))

-- ---- an ended sender is done with

-- sender s has ended, and no sweep of it from slot d on is held
pub record Over (s d : ℕ) (b : Book) : Type 0 where
  pub slot_first : ℕ
  pub last_open : ℕ
  pub end_slot : ℕ
  pub row_is_lem : b.rows s ≡ ended slot_first last_open end_slot
  pub no_more : All (λ w. sent_from s d w ≡ false) b.held

module _ (n s d : ℕ) where
  -- after an end that is done
  pub over_end : (b : Book) → (step n b (end s d)).number ≡ 0 → Over s d (step n b (end s d)).book
  unfolding answer cut with_row
  over_end b = end_ind n b (λ a. a.number ≡ 0 → Over s d a.book) s d
      (λ k f q. clash (cc (positive n b (end s d) k f, eq-eqb k 0 q)))
      (λ f o i e u g q. record {
        slot_first = f;
        last_open = o;
        end_slot = d;
        row_is_lem = put_same b.rows s (ended f o d);
        no_more = all_only (λ w. w ≡ w) (λ w. sent_from s d w ≡ false) (λ w. not (sent_from s d w)) b.held (λ w x t. not-true (sent_from s d w) t) (all_any b.held);
      })

  module _ (b : Book) (h : Over s d b) where
    abbrev Stays : Answer → Type 0
    Stays a = Over s d a.book

    -- another sender's row is put anew
    row_stays : (i : ℕ) (r : Row) → (s ≡ i → ⊥) → put b.rows i r s ≡ ended h.slot_first h.last_open h.end_slot
    row_stays i r ne = put_ind (λ x. x ≡ ended h.slot_first h.last_open h.end_slot) b.rows i r s (λ q. absurd (ne q)) (λ q. h.row_is_lem)

    not_joined : (i f o : ℕ) → b.rows i ≡ joined f o → s ≡ i → ⊥
    not_joined i f o e q = let z : b.rows s ≡ joined f o = rw q e in let y = h.row_is_lem in clash (cc)

    not_unknown : (i : ℕ) → b.rows i ≡ unknown → s ≡ i → ⊥
    not_unknown i e q = let z : b.rows s ≡ unknown = rw q e in let y = h.row_is_lem in clash (cc)

    -- the sweep of another sender
    other_sender : (i o t : ℕ) → (s ≡ i → ⊥) → sent_from s d (record { sender = i; slot = o; tag = t }) ≡ false
    other_sender i o t ne = rw (ne_eqb i s (λ q. ne (sym q)))

    over_step : (a : Step) → Over s d (step n b a).book
    unfolding answer with_row swept cut advanced
    over_step (join i f) = join_ind n b Stays i f (λ k e. h) λ u e g z.
        record { slot_first = h.slot_first; last_open = h.last_open; end_slot = h.end_slot; row_is_lem = row_stays i (joined f f) (not_unknown i e); no_more = h.no_more }
    over_step (close i) = close_ind n b Stays i (λ k e. h) λ f o u e g.
        record { slot_first = h.slot_first; last_open = h.last_open; end_slot = h.end_slot; row_is_lem = row_stays i (joined f (suc o)) (not_joined i f o e); no_more = h.no_more }
    over_step (sweep i t) = sweep_ind n b Stays i t (λ k e. h) λ f o u e g z.
        record {
          slot_first = h.slot_first;
          last_open = h.last_open;
          end_slot = h.end_slot;
          row_is_lem = h.row_is_lem;
          no_more = all_append _ b.held (record { sender = i; slot = o; tag = t } ∷ []) h.no_more (more _ [] (other_sender i o t (not_joined i f o e)) none);
        }
    over_step (end i x) = end_ind n b Stays i x (λ k e. h) λ f o u e g z.
        record {
          slot_first = h.slot_first;
          last_open = h.last_open;
          end_slot = h.end_slot;
          row_is_lem = row_stays i (ended f o x) (not_joined i f o e);
          no_more = all_only _ _ (λ w. not (sent_from i x w)) b.held (λ w y q. y) h.no_more;
        }
    over_step (hand_out room) = hand_out_ind n b Stays room (λ k e. h) λ u m z.
        record {
          slot_first = h.slot_first;
          last_open = h.last_open;
          end_slot = h.end_slot;
          row_is_lem = h.row_is_lem;
          no_more = all_only _ _ (λ w. not (eqb w.slot b.next)) b.held (λ w y q. y) h.no_more;
        }

  order_over : (m k : ℕ) (l : List Sweep) → All (λ w. sent_from s d w ≡ false) l → All (λ w. sent_from s d w ≡ false) (in_order m k l)
  unfolding in_order
  order_over zero k l h = none
  order_over (suc m) k l h = all_append _ (in_order m k l) (only (sent_in (suc m) k) l) (order_over m k l h) (all_only _ _ (sent_in (suc m) k) l (λ w y q. y) h)

  out_over : (b : Book) → Over s d b → (a : Step) → All (λ w. sent_from s d w ≡ false) (handed_out n b a)
  unfolding handed_out
  out_over b h (join i f) = none
  out_over b h (sweep i t) = none
  out_over b h (close i) = none
  out_over b h (end i x) = none
  out_over b h (hand_out room) = order_over n b.next b.held h.no_more

  pub none_after : (b : Book) → Over s d b → (l : List Step) → All (λ w. sent_from s d w ≡ false) (along handed_out n b l)
  unfolding along
  none_after b h [] = none
  none_after b h (a ∷ l) =
      all_append _ (cond (eqb (step n b a).number 0) (handed_out n b a) []) (along handed_out n (step n b a).book l)
      (cond_ind (All (λ w. sent_from s d w ≡ false)) (eqb (step n b a).number 0) (handed_out n b a) [] (λ e. out_over b h a) (λ e. none))
      (none_after (step n b a).book (over_step b h a) l)
