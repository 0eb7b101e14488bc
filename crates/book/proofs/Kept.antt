-- The invariant of every book that is made from a new one: `Kept`. New books have it, every step keeps it, and from it follow the facts
-- that document 01's numbers rest on. What it consists of is nobody else's matter. Assumes nothing.
use mathlib.Core.Path.{◌≡◌, refl}
use Prim.Native.Nat.{ℕ, suc, ◌-◌, ◌≤◌, ◌<◌, max}
use mathlib.Core.Bool.{true, not, ◌&&◌}
use mathlib.Core.List.{List, [], ◌∷◌}
use native.Mathlib.Omega.{arith}
use lib.ListN.{length, length-append}
use lib.Dec.{eqb, leb}
use borrow.Author.Tests.{eqb-false, eq-eqb, leb-true, leb-false, not-true}
use Rattle.common.specs.Lists.{All, none, more}
use Rattle.common.specs.Updates.{put}
use Rattle.common.proofs.Tests.{clash, split}
use Rattle.common.proofs.Updates.{put_ind}
use Rattle.common.specs.Benches.{In, is_bench}
use Rattle.common.proofs.Benches.{bench_in, in_bench}
use Rattle.book.specs.Book.{last_slot, most_held, Sweep, only, Row, unknown, joined, ended, open_slot, all_closed, may_go, Book, new_book, with_row, swept, cut, advanced, Step, join, sweep, close, end, hand_out, answer, step}
use Rattle.book.specs.Answers.{DoneWith, end_0}
use Rattle.book.specs.Sweeps.{Lies, Holding}
use Rattle.book.specs.Traffic.{book_from}
use Rattle.book.proofs.Only.{all_append, all_map, all_only, only_length}
use Rattle.book.proofs.Answers.{all_closed_get, may_go_get, may_go_make, given}
use Rattle.book.proofs.Outcomes.{join_ind, sweep_ind, close_ind, end_ind, hand_out_ind}

-- the row of a sender, at next slot k: its open slot is not below its first; without an end, k is not above the greater of its first slot and the
-- slot before its open one
abbrev Stands : ℕ → Row → Type 0
Stands k unknown = ◌≡◌ {A = ℕ} 0 0
Stands k (joined f o) = (f ≤ o) × (k ≤ max f (o - 1)) × (o ≤ suc last_slot)
Stands k (ended f o e) = (f ≤ o) × (e ≤ o) × (o ≤ suc last_slot)

record Facts (n : ℕ) (b : Book) : Type 0 where
  few : length b.held ≤ most_held
  outside : (s : ℕ) → (In n s → ⊥) → b.rows s ≡ unknown
  stands : (s : ℕ) → Stands b.next (b.rows s)
  holding : All (Holding n b.next b.rows) b.held

pub Kept : ℕ → Book → Type 0
Kept n b = Facts n b

-- ---- new books have it

pub kept_new : (n begin : ℕ) → Kept n (new_book begin)
unfolding Kept new_book
kept_new n begin = record { few = omega arith; outside = λ s h. refl; stands = λ s. refl; holding = none }

-- ---- every step keeps it

-- a row put anew, which lets every sweep lie where it lay
row_anew : (n : ℕ) (b : Book) (s : ℕ) (r : Row) (l : List Sweep) → Facts n b → In n s → Stands b.next r → All (Holding n b.next (put b.rows s r)) l → length l ≤ most_held
    → Facts n (record { next = b.next; rows = put b.rows s r; held = l })
row_anew n b s r l h i g a z =
    record {
      few = z;
      outside = λ j ne. put_ind (λ x. x ≡ unknown) b.rows s r j (λ e. absurd (ne (rw e i))) (λ e. h.outside j ne);
      stands = λ j. put_ind (λ x. Stands b.next x) b.rows s r j (λ e. g) (λ e. h.stands j);
      holding = a;
    }

-- a sweep that is held stays so under a row put anew, if it lies in it where it is its sender's
stays : (n k : ℕ) (rows : ℕ → Row) (s : ℕ) (r : Row) (w : Sweep) → Holding n k rows w → (w.sender ≡ s → Lies w.slot r) → Holding n k (put rows s r) w
stays n k rows s r w h f =
    record { from = h.from; due = h.due; lies = put_ind (λ x. Lies w.slot x) rows s r w.sender f (λ ne. h.lies) }

module _ (n : ℕ) (b : Book) (h : Facts n b) where
  -- where nothing is known of s, it has no sweeps
  lies_unknown : (w : Sweep) (s : ℕ) → b.rows s ≡ unknown → w.sender ≡ s → Lies w.slot (b.rows w.sender) → ⊥
  lies_unknown w s e q l = rw (q, e) at l

  lies_joined : (w : Sweep) (s f o : ℕ) → b.rows s ≡ joined f o → w.sender ≡ s → Lies w.slot (b.rows w.sender) → (f ≤ w.slot) × (w.slot ≤ o)
  lies_joined w s f o e q l = rw (q, e) at l

  stands_joined : (s f o : ℕ) → b.rows s ≡ joined f o → (f ≤ o) × (b.next ≤ max f (o - 1)) × (o ≤ suc last_slot)
  stands_joined s f o e = let g = h.stands s in rw e at g

  sender_in : (s f o : ℕ) → b.rows s ≡ joined f o → In n s
  sender_in s f o e = split (is_bench n s) (bench_in n s) (λ q. clash (cc (h.outside s (λ i. clash (cc (in_bench n s i))))))

  kept_join : (s f : ℕ) → Facts n (step n b (join s f)).book
  unfolding answer with_row
  kept_join s f = join_ind n b (λ a. Facts n a.book) s f (λ k e. h) λ i e g u.
      row_anew n b s (joined f f) b.held h i (omega arith, omega arith, omega arith)
      (all_map _ _ b.held (λ w x. stays n b.next b.rows s (joined f f) w x (λ q. absurd (lies_unknown w s e q x.lies))) h.holding) h.few

  kept_sweep : (s t : ℕ) → Facts n (step n b (sweep s t)).book
  unfolding answer swept
  kept_sweep s t = sweep_ind n b (λ a. Facts n a.book) s t (λ k e. h) λ f o i e u few.
      let g = stands_joined s f o e in
      record {
        few = omega (arith, length-append b.held (record { sender = s; slot = o; tag = t } ∷ []));
        outside = h.outside;
        stands = h.stands;
        holding = all_append _ b.held (record { sender = s; slot = o; tag = t } ∷ []) h.holding
            (more _ [] (record { from = i; due = omega arith; lies = rw e (g.0, omega arith) }) none);
      }

  kept_close : (s : ℕ) → Facts n (step n b (close s)).book
  unfolding answer with_row
  kept_close s = close_ind n b (λ a. Facts n a.book) s (λ k e. h) λ f o i e u.
      let g = stands_joined s f o e in
      row_anew n b s (joined f (suc o)) b.held h i (omega arith, omega arith, omega arith)
      (all_map _ _ b.held (λ w x. stays n b.next b.rows s (joined f (suc o)) w x (λ q. let y = lies_joined w s f o e q x.lies in (y.0, omega arith))) h.holding) h.few

  kept_end : (s e : ℕ) → Facts n (step n b (end s e)).book
  unfolding answer with_row cut
  kept_end s e = end_ind n b (λ a. Facts n a.book) s e (λ k z. h) λ f o i q u v.
      let g = stands_joined s f o q in
      row_anew n b s (ended f o e) (only (λ w. not (eqb w.sender s && leb e w.slot)) b.held) h i (g.0, u, g.2)
      (all_only _ _ (λ w. not (eqb w.sender s && leb e w.slot)) b.held (λ w x z. stays n b.next b.rows s (ended f o e) w x (λ p.
      let y = lies_joined w s f o q p x.lies in (y.0, y.1, before e s w p z))) h.holding)
      (omega (arith, h.few, only_length (λ w. not (eqb w.sender s && leb e w.slot)) b.held))
    where
      before : (e s : ℕ) (w : Sweep) → w.sender ≡ s → not (eqb w.sender s && leb e w.slot) ≡ true → w.slot < e
      before e s w p z = split (leb e w.slot)
          (λ k. clash (cc (eq-eqb w.sender s p)))
          (λ k. leb-false e w.slot k)

  -- where slot `next` may go out, who is a member of the slot after it has closed that, and who joins later has a first slot above it
  let_go : (s : ℕ) → In n s → (f o : ℕ) → b.rows s ≡ joined f o → may_go n b.next b.rows ≡ true → suc b.next ≤ max f (o - 1)
  let_go s i f o e m =
      let t = (may_go_get n b.next b.rows m s i).1 in
      let t' : f ≤ suc b.next → suc b.next < o = rw e at t in
      split (leb f (suc b.next))
      (λ k. let c = t' (leb-true f (suc b.next) k) in omega arith)
      (λ k. omega (arith, leb-false f (suc b.next) k))

  stands_next : may_go n b.next b.rows ≡ true → (s : ℕ) (r : Row) → b.rows s ≡ r → Stands b.next r → Stands (suc b.next) r
  stands_next m s unknown e g = refl
  stands_next m s (joined f o) e g = (g.0, let_go s (sender_in s f o e) f o e m, g.2)
  stands_next m s (ended f o x) e g = g

  kept_hand_out : (room : ℕ) → Facts n (step n b (hand_out room)).book
  unfolding answer advanced
  kept_hand_out room = hand_out_ind n b (λ a. Facts n a.book) room (λ k e. h) λ u m z.
      record {
        few = omega (arith, h.few, only_length (λ w. not (eqb w.slot b.next)) b.held);
        outside = h.outside;
        stands = λ s. stands_next m s (b.rows s) refl (h.stands s);
        holding = all_only _ _ (λ w. not (eqb w.slot b.next)) b.held (λ w x y.
            let ne = eqb-false w.slot b.next (not-true _ y) in
            record { from = x.from; due = omega (arith, x.due); lies = x.lies }) h.holding;
      }

  keeps : (s : Step) → Facts n (step n b s).book
  keeps (join s f) = kept_join s f
  keeps (sweep s t) = kept_sweep s t
  keeps (close s) = kept_close s
  keeps (end s e) = kept_end s e
  keeps (hand_out room) = kept_hand_out room

pub kept_step : (n : ℕ) (b : Book) → Kept n b → (s : Step) → Kept n (step n b s).book
unfolding Kept
kept_step n b h s = keeps n b h s

pub kept_from : (n : ℕ) (b : Book) → Kept n b → (l : List Step) → Kept n (book_from n b l)
unfolding book_from
kept_from n b h [] = h
kept_from n b h (s ∷ l) = kept_from n (step n b s).book (kept_step n b h s) l

-- ---- what follows

module _ (n : ℕ) (b : Book) (h : Kept n b) where
  -- at most 1,024 sweeps are held
  pub kept_few : length b.held ≤ most_held
  unfolding Kept
  kept_few = h.few

  -- the next slot is not above the greater of the first slot of a sender without end and the slot before its open one
  pub kept_behind : (s f o : ℕ) → b.rows s ≡ joined f o → b.next ≤ max f (o - 1)
  unfolding Kept
  kept_behind s f o e = (stands_joined n b h s f o e).1

  -- nor above its open slot, and that is not below its first
  pub kept_open : (s f o : ℕ) → b.rows s ≡ joined f o → (b.next ≤ o) × (f ≤ o) × (o ≤ suc last_slot)
  unfolding Kept
  kept_open s f o e = let g = stands_joined n b h s f o e in (omega arith, g.0, g.2)

  -- so an end at its open slot or the one before, and not below its first, is done
  pub late_end : (s f o e : ℕ) → b.rows s ≡ joined f o → max f (o - 1) ≤ e → e ≤ o → (step n b (end s e)).number ≡ 0
  unfolding Kept
  late_end s f o e q u v = let g = kept_behind s f o q in given n b (end s e) 0 (end_0 s e f o (sender_in n b h s f o q) q v (omega arith))

  -- whoever is done with the slot after is done with the slot: an end is not above the open slot
  pub after_enough : (k : ℕ) → all_closed n (suc k) b.rows ≡ true → may_go n k b.rows ≡ true
  unfolding Kept
  after_enough k e = may_go_make n k b.rows λ s i. let d = all_closed_get n (suc k) b.rows e s i in (earlier (b.rows s) (h.stands s) d, d)
    where
      earlier : (r : Row) → Stands b.next r → DoneWith (suc k) r → DoneWith k r
      earlier (joined f o) g d c = let z = d (omega arith) in omega arith
      earlier (ended f o e) g d c = let x = c.1 in omega arith
      earlier unknown g d c = elim c [ ]

  -- no open slot is above 65,535
  pub kept_slot : (s : ℕ) → open_slot (b.rows s) ≤ suc last_slot
  unfolding Kept open_slot
  kept_slot s = go (b.rows s) (h.stands s)
    where
      go : (r : Row) → Stands b.next r → open_slot r ≤ suc last_slot
      go unknown g = omega arith
      go (joined f o) g = g.2
      go (ended f o e) g = g.2

  -- every sweep held is a sender's, not below the next slot, and lies between its sender's first and open slot and below its end
  pub kept_held : All (Holding n b.next b.rows) b.held
  unfolding Kept
  kept_held = h.holding

  -- an end is never both above the open slot and below the next slot: 18 and 19 never together
  pub never_both : (s f o e : ℕ) → b.rows s ≡ joined f o → o < e → e < b.next → ⊥
  never_both s f o e q u v = let g = kept_open s f o q in omega arith
