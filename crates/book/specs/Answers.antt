-- When each number is answered: document 01's table and its order of checks, a hand-out's by document 02's W1, in facts of the senders' rows. This file
-- is to be believed.
use Rattle.std.specs.Prelude.{◌≡◌, ℕ, suc, ◌≤◌, ◌<◌, length}
use Rattle.common.specs.Benches.{In}
use Rattle.book.specs.Book.{last_slot, last_out, most_held, Row, unknown, joined, ended, tags_of, Book, Step, join, sweep, close, end, hand_out}

-- ---- rows

-- a sender with such a row is a member of slot k
abbrev pub Counts : ℕ → Row → Type 0
Counts k unknown = ⊥
Counts k (joined f o) = f ≤ k
Counts k (ended f o e) = (f ≤ k) × (k < e)

-- it has closed slot k
abbrev pub Closed : ℕ → Row → Type 0
Closed k unknown = ⊥
Closed k (joined f o) = k < o
Closed k (ended f o e) = k < o

-- it has joined and not ended
abbrev pub Open : Row → Type 0
Open unknown = ⊥
Open (joined f o) = Unit {0}
Open (ended f o e) = ⊥

-- it is done with slot k: if it is a member of it, it has closed it
abbrev pub DoneWith : ℕ → Row → Type 0
DoneWith k r = Counts k r → Closed k r

-- it lets slot k go: it is done with it and with the slot after it
abbrev pub LetsGo : ℕ → Row → Type 0
LetsGo k r = DoneWith k r × DoneWith (suc k) r

-- ---- the table

-- a step and its number, by what holds of the book; the first line of each step says when it is done
pub data Given (n : ℕ) (b : Book) : Step → ℕ → Type 0 where
  join_0 : (s f : ℕ) → In n s → b.rows s ≡ unknown → b.next ≤ f → f ≤ last_slot → Given n b (join s f) 0
  join_1 : (s f : ℕ) → (In n s → ⊥) → Given n b (join s f) 1
  join_13 : (s f : ℕ) → In n s → (b.rows s ≡ unknown → ⊥) → Given n b (join s f) 13
  join_14 : (s f : ℕ) → In n s → b.rows s ≡ unknown → ((b.next ≤ f) × (f ≤ last_slot) → ⊥) → Given n b (join s f) 14
  sweep_0 : (s t f o : ℕ) → In n s → b.rows s ≡ joined f o → o ≤ last_slot → length b.held < most_held → Given n b (sweep s t) 0
  sweep_1 : (s t : ℕ) → (In n s → ⊥) → Given n b (sweep s t) 1
  sweep_15 : (s t : ℕ) → In n s → (Open (b.rows s) → ⊥) → Given n b (sweep s t) 15
  sweep_17 : (s t f o : ℕ) → In n s → b.rows s ≡ joined f o → last_slot < o → Given n b (sweep s t) 17
  sweep_25 : (s t f o : ℕ) → In n s → b.rows s ≡ joined f o → o ≤ last_slot → most_held ≤ length b.held → Given n b (sweep s t) 25
  close_0 : (s f o : ℕ) → In n s → b.rows s ≡ joined f o → o ≤ last_slot → Given n b (close s) 0
  close_1 : (s : ℕ) → (In n s → ⊥) → Given n b (close s) 1
  close_15 : (s : ℕ) → In n s → (Open (b.rows s) → ⊥) → Given n b (close s) 15
  close_17 : (s f o : ℕ) → In n s → b.rows s ≡ joined f o → last_slot < o → Given n b (close s) 17
  end_0 : (s e f o : ℕ) → In n s → b.rows s ≡ joined f o → e ≤ o → b.next ≤ e → Given n b (end s e) 0
  end_1 : (s e : ℕ) → (In n s → ⊥) → Given n b (end s e) 1
  end_15 : (s e : ℕ) → In n s → b.rows s ≡ unknown → Given n b (end s e) 15
  end_16 : (s e f o x : ℕ) → In n s → b.rows s ≡ ended f o x → Given n b (end s e) 16
  end_18 : (s e f o : ℕ) → In n s → b.rows s ≡ joined f o → o < e → Given n b (end s e) 18
  end_19 : (s e f o : ℕ) → In n s → b.rows s ≡ joined f o → e ≤ o → e < b.next → Given n b (end s e) 19
  hand_out_0 : (room : ℕ) → b.next ≤ last_out → ((s : ℕ) → In n s → LetsGo b.next (b.rows s)) → length (tags_of n b.next b.held) ≤ room → Given n b (hand_out room) 0
  hand_out_17 : (room : ℕ) → last_out < b.next → Given n b (hand_out room) 17
  hand_out_24 : (room s : ℕ) → b.next ≤ last_out → In n s → (LetsGo b.next (b.rows s) → ⊥) → Given n b (hand_out room) 24
  hand_out_22 : (room : ℕ) → b.next ≤ last_out → ((s : ℕ) → In n s → LetsGo b.next (b.rows s)) → room < length (tags_of n b.next b.held) → Given n b (hand_out room) 22
