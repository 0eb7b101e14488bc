-- Each way through a hand-out of the code keeps its promise: one lemma for each answer, its premises as the code's tests leave them.
-- Assumes nothing.
use mathlib.Core.Path.{◌≡◌, refl, ap, sym, ◌∙◌}
use Prim.Native.Nat.{ℕ, suc, ◌+◌, ◌-◌, ◌≤◌, ◌<◌, min}
use mathlib.Core.Bool.{Bool, true, false, ◌&&◌}
use mathlib.Core.List.{List, [], map}
use native.Mathlib.Numerals.{add-one}
use native.Mathlib.Omega.{arith}
use lib.ListN.{length, take, drop}
use lib.Dec.{eqb}
use borrow.Author.Tests.{le-leb, lt-leb, ne_eqb}
use Rattle.std.specs.Prelude.{Ok, Err}
use Rattle.std.specs.List.{position_or_len}
use Rattle.common.specs.Checks.{Holds, nothing, also, Fails, here, later}
use Rattle.kinds.specs.declared.Refusal.{Refusal}
use Rattle.kinds.specs.declared.Refusal.TheVariants.{PastLastSlot, NotClosed, ShortRoom}
use Rattle.kinds.specs.Refusals.{number_of}
use Rattle.kinds.proofs.Refusals.{never_done}
use Rattle.book.specs.Book.{last_out, only, Row, all_closed, may_go, tags_of, advanced, hand_out, checks, answer, after}
use Rattle.ledger.specs.declared.Cursor.{Cursor}
use Rattle.ledger.specs.declared.Ledger.{Ledger}
use Rattle.ledger.specs.declared.Sweep as code
use Rattle.ledger.specs.Seen.{room_words, next_by, held_by, rows_by, sweep_is, held_in, book_of}
use Rattle.ledger.specs.Advancing.{advanced_of}
use Rattle.ledger.specs.Sweeps.{of_slot, NoneOf, TakesOut}
use Rattle.ledger.specs.Promises.{Hands, cursor_of, cursor_after, joined_after, rows_after, laid}
use Rattle.book.proofs.Outcomes.{step_fails, step_holds}
use Rattle.ledger.proofs.Told.{refused, done, held_min}
use Rattle.ledger.proofs.Searching.{none_before}
use Rattle.ledger.proofs.Seats.{tags_past, none_tags, held_parts, held_front}
use Rattle.ledger.proofs.Compacting.{compacting_none, compacting_out}

-- the slot after, as the code counts it
pub may_is : (n k : ℕ) (rows : ℕ → Row) (t v : Bool) → t ≡ (all_closed n k rows && all_closed n (k + 1) rows) → t ≡ v → may_go n k rows ≡ v
unfolding may_go
may_is n k rows t v e is = sym (rw (← add-one k) e) ∙ is

module _ (n : ℕ) (x : Ledger) (out : List ℕ) where
  refused_hands : (e : Refusal) → Fails (checks n (book_of x) (hand_out (length out))) (number_of e) → Hands n x out (Err e) x out
  unfolding answer laid
  refused_hands e f =
      let is = step_fails n (book_of x) (hand_out (length out)) (number_of e) f in
      record { tells = refused n x (hand_out (length out)) (number_of e) (ne_eqb (number_of e) 0 (never_done e)) f; count_is = tt; out_is = rw is }

  pub hand_17 : last_out < next_by x → Hands n x out (Err PastLastSlot) x out
  unfolding checks book_of
  hand_17 h = refused_hands PastLastSlot (here 17 _ _ (lt-leb (next_by x) last_out h))

  module _ (h : next_by x ≤ last_out) where
    pub hand_24 : may_go n (next_by x) (rows_by x) ≡ false → Hands n x out (Err NotClosed) x out
    unfolding checks book_of
    hand_24 q = refused_hands NotClosed (later 17 _ _ 24 (le-leb (next_by x) last_out h) (here 24 _ _ q))

    -- the tags are those of the sweeps from the first of the slot on, as the code looks for it
    module _ (may : may_go n (next_by x) (rows_by x) ≡ true) (room : length x.room ≡ room_words) (held : ℕ) (m : held ≡ min (held_by x) room_words)
        (from : ℕ) (within : from ≤ held) (first : from ≡ position_or_len (of_slot (next_by x)) (take held x.room)) where
      abbrev sweeps : List code.Sweep
      sweeps = take (held - from) (drop from x.room)

      all : held_in held x.room ≡ held_in (held_by x) x.room
      all = rw m (held_min x.room (held_by x) room)

      pub none_passed : NoneOf (next_by x) (held_in from x.room)
      none_passed = rw (sym (held_front x.room from held within), first) (none_before (next_by x) (take held x.room))

      tags_are : tags_of n (next_by x) (held_in (held_by x) x.room) ≡ tags_of n (next_by x) (map sweep_is sweeps)
      tags_are = ap (tags_of n (next_by x)) (sym all ∙ held_parts x.room from held within) ∙ tags_past n (next_by x) (held_in from x.room) (map sweep_is sweeps) none_passed

      pub hand_22 : length out < length (tags_of n (next_by x) (map sweep_is sweeps)) → Hands n x out (Err ShortRoom) x out
      unfolding checks book_of
      hand_22 k =
          refused_hands ShortRoom
          (later 17 _ _ 22 (le-leb (next_by x) last_out h) (later 24 _ _ 22 may (here 22 _ _ (lt-leb (length (tags_of n (next_by x) (held_in (held_by x) x.room))) (length out) (omega (arith, ap length tags_are))))))

      pub hand_done : (count : ℕ) (out' : List ℕ) → (count ≡ length (tags_of n (next_by x) (map sweep_is sweeps))) × (count ≤ length out) × (out' ≡ laid (tags_of n (next_by x) (map sweep_is sweeps)) out)
          → (left : ℕ) (room' : List code.Sweep) → TakesOut (λ w. eqb w.slot (next_by x)) held x.room left room' → (c : Cursor) → c ≡ advanced_of x.cursor left
          → Hands n x out (Ok count) (record { cursor = c; senders = x.senders; room = room' }) out'
      unfolding checks book_of after answer advanced cursor_after cursor_of joined_after rows_after
      hand_done count out' written left room' y c ic =
          let tags = tags_are in
          let holds : Holds (checks n (book_of x) (hand_out (length out))) =
          also 17 _ _ (le-leb (next_by x) last_out h) (also 24 _ _ may (also 22 _ _ (le-leb (length (tags_of n (next_by x) (held_in (held_by x) x.room))) (length out) (omega (arith, written, ap length tags))) nothing)) in
          let e = step_holds n (book_of x) (hand_out (length out)) holds in
          record {
            tells = done n x (hand_out (length out)) (record { cursor = c; senders = x.senders; room = room' }) holds record {
              book_is = rw (ic, add-one, y.held_is, all);
              cursor_is = rw (ic, add-one) (ap (λ (j : ℕ). record { next = record { 0 = suc (next_by x) }; held = j }) (y.count_is ∙ ap length (sym y.held_is)));
              joined_is = refl;
              rows_are = refl;
              past_is = rw ic y.past_is;
            };
            count_is = rw (e, tags) written.0;
            out_is = rw (e, tags) written.2;
          }

      pub hand_none : from ≡ held → (c : Cursor) → c ≡ advanced_of x.cursor held → Hands n x out (Ok 0) (record { cursor = c; senders = x.senders; room = x.room }) out
      unfolding laid only
      hand_none passed c ic =
          let z : held - from ≡ 0 = omega arith in
          let none : tags_of n (next_by x) (map sweep_is sweeps) ≡ [] = none_tags n (next_by x) (map sweep_is sweeps) (rw z refl) in
          let stays = compacting_out (λ w. eqb w.slot (next_by x)) x.room held x.room held (compacting_none (λ w. eqb w.slot (next_by x)) x.room held (omega arith) (rw passed at none_passed)) in
          hand_done 0 out (sym (ap length none), omega arith, rw none refl) held x.room stays c ic
