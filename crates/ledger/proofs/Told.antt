-- What a step tells, by its number: where it is refused all stays, where it is done the ledger is that of the book after it.
-- Assumes nothing.
use mathlib.Core.Path.{◌≡◌, refl, ap, sym, ◌∙◌}
use Prim.Native.Nat.{ℕ, suc, ◌+◌, ◌-◌, ◌%◌, ◌^◌, ◌≤◌, ◌<◌, min}
use mathlib.Core.Bool.{Bool, true, false, ◌&&◌}
use mathlib.Core.List.{List, [], ◌∷◌, ◌++◌, map, map-append}
use native.Mathlib.Numerals.{add-one}
use native.Mathlib.Omega.{arith}
use lib.Bits.{bit_or}
use lib.ListN.{length, take, drop, set, length-map, length-take, length-set}
use lib.Seq.{take-suc-set, drop-set-lt, length-take-le, take_all}
use lib.Dec.{eqb, leb, ltb}
use borrow.Author.Tests.{lt-ltb, le-ltb, leb-true, leb-false, eqb-false, ne_eqb}
use Rattle.common.specs.Checks.{Check, needs, Holds, Fails, here}
use Rattle.common.specs.Benches.{is_bench}
use Rattle.common.specs.Places.{has}
use Rattle.kinds.specs.Sizes.{places}
use Rattle.kinds.proofs.Sizes.{places_fit}
use Rattle.common.specs.Updates.{put}
use Rattle.common.proofs.Tests.{both, split}
use Rattle.common.proofs.Places.{only_small}
use Rattle.common.proofs.Updates.{put_same}
use Rattle.common.proofs.Checks.{first_check, other_checks}
use Rattle.kinds.specs.declared.Refusal.{Refusal}
use Rattle.kinds.specs.Refusals.{number_of}
use Rattle.kinds.proofs.Refusals.{never_done}
use Rattle.book.specs.Book as book
use Rattle.book.specs.Book.{last_slot, Sweep, Row, has_joined, is_open, first_slot, open_slot, with_row, swept, cut, Step, join, sweep, close, end, answer, checks, after, step}
use Rattle.senders.specs.declared.SenderRow.{SenderRow}
use Rattle.senders.specs.Slots.{slot_in}
use Rattle.senders.specs.Kept.{row_in, kept_of, rows_of}
use Rattle.ledger.specs.declared.Ledger.{Ledger}
use Rattle.ledger.specs.declared.Sweep as code
use Rattle.ledger.specs.Seen.{room_words, next_by, held_by, joined_by, sweep_is, held_in, book_of}
use Rattle.ledger.specs.Sweeps.{TakesOut}
use Rattle.ledger.specs.Promises.{Tells, cursor_of, cursor_after, joined_after, rows_after}
use Rattle.senders.proofs.Kept.{slot_in_lem, kept_joined, kept_ended}
use Rattle.senders.proofs.Seating.{rows_joined, rows_open_last, rows_joins, rows_stays}
use Rattle.book.proofs.Outcomes.{positive, after_done, step_ind, step_fails, step_holds}

-- ---- what is held

-- no more places are read than there are
pub held_min : (room : List code.Sweep) (k : ℕ) → length room ≡ room_words → held_in (min k room_words) room ≡ held_in k room
unfolding held_in
held_min room k h = split (leb k room_words)
    (λ q. let e : min k room_words ≡ k = omega (arith, leb-true k room_words q) in rw e)
    (λ q. let g = leb-false k room_words q in let e : min k room_words ≡ room_words = omega arith in
    rw e (ap (map sweep_is) (take_all room_words room (omega arith) ∙ sym (take_all k room (omega arith)))))

-- there is room for one more exactly where the count says so
pub held_fewer : (room : List code.Sweep) (k : ℕ) → length room ≡ room_words → ltb (length (held_in k room)) room_words ≡ ltb k room_words
unfolding held_in
held_fewer room k h =
    let e : length (map sweep_is (take k room)) ≡ min k room_words = length-map (take k room) sweep_is ∙ length-take k room ∙ rw h in
    ap (λ (j : ℕ). ltb j room_words) e
    ∙ split (leb room_words k)
    (λ q. let g = leb-true room_words k q in le-ltb (min k room_words) room_words (omega arith) ∙ sym (le-ltb k room_words g))
    (λ q. let g = leb-false room_words k q in lt-ltb (min k room_words) room_words (omega arith) ∙ sym (lt-ltb k room_words g))

-- one sweep more
held_swept : (room : List code.Sweep) (k : ℕ) (x : code.Sweep) (w : Sweep) → k < length room → sweep_is x ≡ w → held_in (k + 1) (set room k x) ≡ held_in k room ++ w ∷ []
unfolding held_in
held_swept room k x w h e = rw (add-one, take-suc-set room k x h, map-append, e)

held_count : (room : List code.Sweep) (k : ℕ) (x : code.Sweep) → k < length room → k + 1 ≡ length (held_in (k + 1) (set room k x))
unfolding held_in
held_count room k x h = sym (length-map (take (k + 1) (set room k x)) sweep_is ∙ length-take-le (k + 1) (set room k x) (omega (arith, length-set room k x)))

-- ---- what a step tells, by its number

pub refused : (n : ℕ) (x : Ledger) (s : Step) (r : ℕ) → eqb r 0 ≡ false → Fails (checks n (book_of x) s) r → Tells n x s r x
unfolding answer
refused n x s r nz f =
    let e = step_fails n (book_of x) s r f in
    record { number_is = rw e; book_is = rw e; cursor_is = rw nz; joined_is = rw nz; rows_are = rw nz; past_is = refl }

-- it is refused where the number is not 0
pub tells_refused : (n : ℕ) (x : Ledger) (s : Step) (r : ℕ) → r ≡ (step n (book_of x) s).number → (r ≡ 0 → ⊥) → Tells n x s r x
unfolding answer
tells_refused n x s r e nz = step_ind n (book_of x) s (λ a. r ≡ a.number → Tells n x s r x)
    (λ k f i. refused n x s r (ne_eqb r 0 nz) (rw (← i) at f))
    (λ h i. absurd (nz (i ∙ after_done n (book_of x) s))) e

-- as code answers it: a refusal
pub tells_refusal : (n : ℕ) (x : Ledger) (s : Step) (e : Refusal) → number_of e ≡ (step n (book_of x) s).number → Tells n x s (number_of e) x
tells_refusal n x s e is = tells_refused n x s (number_of e) is (never_done e)

-- who is no sender is answered 1
pub no_sender : (n s : ℕ) → is_bench n s ≡ false → (x : Ledger) (a : Step) (l : List Check) → checks n (book_of x) a ≡ needs 1 (is_bench n s) ∷ l → Tells n x a 1 x
no_sender n s q x a l e = refused n x a 1 refl (rw e (here 1 _ l q))

-- what is left to show where it is 0
pub record Does (n : ℕ) (x : Ledger) (s : Step) (x' : Ledger) : Type 0 where
  pub book_is : book_of x' ≡ (after n (book_of x) s).book
  pub cursor_is : x'.cursor ≡ cursor_after s (book_of x') x.cursor
  pub joined_is : x'.senders.joined ≡ joined_after s x.senders.joined
  pub rows_are : x'.senders.rows ≡ rows_after s (book_of x') x.senders.rows
  pub past_is : drop (held_by x') x'.room ≡ drop (held_by x') x.room

pub done : (n : ℕ) (x : Ledger) (s : Step) (x' : Ledger) → Holds (checks n (book_of x) s) → Does n x s x' → Tells n x s 0 x'
done n x s x' h d =
    let e = step_holds n (book_of x) s h in
    record {
      number_is = rw e (sym (after_done n (book_of x) s));
      book_is = rw e d.book_is;
      cursor_is = rw (e, ← d.book_is) d.cursor_is;
      joined_is = d.joined_is;
      rows_are = rw (e, ← d.book_is) d.rows_are;
      past_is = d.past_is;
    }

tells_done : (n : ℕ) (x : Ledger) (s : Step) (x' : Ledger) → 0 ≡ (step n (book_of x) s).number → (Holds (checks n (book_of x) s) → Does n x s x') → Tells n x s 0 x'
unfolding answer
tells_done n x s x' e d = step_ind n (book_of x) s (λ a. 0 ≡ a.number → Tells n x s 0 x')
    (λ k f i. absurd (eqb-false k 0 (positive n (book_of x) s k f) (sym i)))
    (λ h i. done n x s x' h (d h)) e

-- place i is where the code looks for sender s, and `known` what it finds there
module _ (n : ℕ) (x : Ledger) (s i : ℕ) (bench : is_bench n s ≡ true) (behind : suc i ≡ s) (known : Row) (at : known ≡ rows_of (joined_by x) x.senders.rows s) where
  pub knows : (book_of x).rows s ≡ known
  unfolding book_of
  knows = sym at

  -- a sender that passes a test of those that have joined is in the set
  in_set : (p : Row → Bool) → p book.unknown ≡ false → p (rows_of (joined_by x) x.senders.rows s) ≡ true → has (joined_by x) i ≡ true
  in_set p u e = rows_joined p u (joined_by x) x.senders.rows i (ap (λ (k : ℕ). p (rows_of (joined_by x) x.senders.rows k)) behind ∙ e)

  -- the row is written anew, and the set is j then
  module _ (new : Row) (w : SenderRow) (written : w ≡ kept_of new) (back : row_in (kept_of new) ≡ new) (j : ℕ) (are : rows_of j (set x.senders.rows i w) ≡ put (rows_of (joined_by x) x.senders.rows) (suc i) (row_in w)) where
    rows_after_lem : rows_of j (set x.senders.rows i w) ≡ put (rows_of (joined_by x) x.senders.rows) s new
    rows_after_lem = are ∙ ap (λ (k : ℕ). put (rows_of (joined_by x) x.senders.rows) k (row_in w)) behind ∙ ap (put (rows_of (joined_by x) x.senders.rows) s) (ap row_in written ∙ back)

    rows_written : set x.senders.rows i w ≡ set x.senders.rows (s - 1) (kept_of (rows_of j (set x.senders.rows i w) s))
    rows_written =
        let k : i ≡ s - 1 = omega (arith, behind) in
        let row : rows_of j (set x.senders.rows i w) s ≡ new = ap (λ (f : ℕ → Row). f s) rows_after_lem ∙ put_same (rows_of (joined_by x) x.senders.rows) s new in
        ap (λ (l : ℕ). set x.senders.rows l w) k ∙ ap (set x.senders.rows (s - 1)) (written ∙ ap kept_of (sym row))

  module _ (there : i < length x.senders.rows) (w : SenderRow) where
    -- `one` is the set of place i alone
    pub join_done : (f : ℕ) → w ≡ kept_of (book.joined f f) → i < places → (one : ℕ) → one ≡ 2 ^ i % 2 ^ 32 → 0 ≡ (step n (book_of x) (join s f)).number
        → Tells n x (join s f) 0 (record { cursor = x.cursor; senders = record { joined = bit_or (joined_by x) one; rows = set x.senders.rows i w }; room = x.room })
    unfolding checks book_of after answer with_row cursor_after joined_after rows_after
    join_done f new l one is r =
        let alone : one ≡ 2 ^ i = is ∙ only_small i (omega (arith, places_fit)) in
        let j = bit_or (joined_by x) one in
        let are : rows_of j (set x.senders.rows i w) ≡ put (rows_of (joined_by x) x.senders.rows) (suc i) (row_in w) = rw alone (rows_joins (joined_by x) x.senders.rows i w there) in
        tells_done n x (join s f) _ r
        λ h. let c = first_check 14 _ _ (other_checks 13 _ _ (other_checks 1 _ _ h)) in
        let low : f ≤ last_slot = leb-true f last_slot (both (leb (next_by x) f) (leb f last_slot) c).1 in
        let back = kept_joined f f (omega arith) in
        let k : i ≡ s - 1 = omega (arith, behind) in
        record {
          book_is = rw (rows_after_lem _ w new back j are);
          cursor_is = refl;
          joined_is = ap (bit_or (joined_by x)) (alone ∙ ap (λ (y : ℕ). 2 ^ y) k);
          rows_are = rows_written _ w new back j are;
          past_is = refl;
        }

    pub close_done : w ≡ kept_of (book.joined (first_slot known) (suc (slot_in (open_slot known)))) → 0 ≡ (step n (book_of x) (close s)).number
        → Tells n x (close s) 0 (record { cursor = x.cursor; senders = record { joined = joined_by x; rows = set x.senders.rows i w }; room = x.room })
    unfolding checks book_of after answer with_row cursor_after joined_after rows_after is_open
    close_done new r = tells_done n x (close s) _ r
        λ h. let c = other_checks 1 _ _ h in
        let low : open_slot known ≤ last_slot = rw knows at (leb-true (open_slot (rows_of (joined_by x) x.senders.rows s)) last_slot (first_check 17 _ _ (other_checks 15 _ _ c))) in
        let back = kept_joined (first_slot known) (suc (open_slot known)) (omega arith) in
        let new' : w ≡ kept_of (book.joined (first_slot known) (suc (open_slot known))) = new ∙ ap (λ (k : ℕ). kept_of (book.joined (first_slot known) (suc k))) (slot_in_lem (open_slot known) (omega arith)) in
        let are = rows_stays (joined_by x) x.senders.rows i w there (in_set is_open refl (first_check 15 _ _ c)) in
        record { book_is = rw (rows_after_lem _ w new' back (joined_by x) are, knows); cursor_is = refl; joined_is = refl; rows_are = rows_written _ w new' back (joined_by x) are; past_is = refl }

    -- the sweeps of the sender are gone from the first m places, and `left` are left
    pub end_done : (slot : ℕ) → w ≡ kept_of (book.ended (first_slot known) (open_slot known) slot) → length x.room ≡ room_words → (m : ℕ) → m ≡ min (held_by x) room_words → (left : ℕ) (room' : List code.Sweep)
        → TakesOut (λ v. eqb v.sender s && leb slot v.slot) m x.room left room' → 0 ≡ (step n (book_of x) (end s slot)).number
        → Tells n x (end s slot) 0 (record { cursor = record { next = x.cursor.next; held = left }; senders = record { joined = joined_by x; rows = set x.senders.rows i w }; room = room' })
    unfolding checks book_of after answer with_row cut cursor_after cursor_of joined_after rows_after has_joined
    end_done slot new room m is left room' y r =
        let a : held_in m x.room ≡ held_in (held_by x) x.room = rw is (held_min x.room (held_by x) room) in
        tells_done n x (end s slot) _ r
        λ h. let c = other_checks 1 _ _ h in
        let low : slot ≤ open_slot known = rw knows at (leb-true slot (open_slot (rows_of (joined_by x) x.senders.rows s)) (first_check 18 _ _ (other_checks 16 _ _ (other_checks 15 _ _ c)))) in
        let last : open_slot known ≤ suc last_slot = rw at (rows_open_last (joined_by x) x.senders.rows s) in
        let back = kept_ended (first_slot known) (open_slot known) slot last (omega arith) in
        let are = rows_stays (joined_by x) x.senders.rows i w there (in_set has_joined refl (first_check 15 _ _ c)) in
        record {
          book_is = rw (rows_after_lem _ w new back (joined_by x) are, knows, y.held_is, a);
          cursor_is = ap (λ (k : ℕ). record { next = x.cursor.next; held = k }) (y.count_is ∙ ap length (sym y.held_is));
          joined_is = refl;
          rows_are = rows_written _ w new back (joined_by x) are;
          past_is = y.past_is;
        }

  pub sweep_done : length x.room ≡ room_words → held_by x < room_words → (tag : ℕ) (w : code.Sweep) → sweep_is w ≡ record { sender = s; slot = open_slot known; tag = tag }
      → 0 ≡ (step n (book_of x) (sweep s tag)).number
      → Tells n x (sweep s tag) 0 (record { cursor = record { next = x.cursor.next; held = held_by x + 1 }; senders = x.senders; room = set x.room (held_by x) w })
  unfolding checks book_of after answer swept cursor_after cursor_of joined_after rows_after
  sweep_done room g tag w is r =
      let k = held_by x in
      let p = held_swept x.room k w (record { sender = s; slot = open_slot known; tag = tag }) (omega arith) is in
      tells_done n x (sweep s tag) _ r
      λ h. record { book_is = rw (knows, p); cursor_is = ap (λ (j : ℕ). record { next = x.cursor.next; held = j }) (held_count x.room k w (omega arith)); joined_is = refl; rows_are = refl; past_is = drop-set-lt (k + 1) x.room k w (omega arith) }
