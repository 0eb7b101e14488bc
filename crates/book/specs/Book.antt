-- The ledger of one bench, as document 01 states it and document 02's W1 changes it, for senders 1 to n.
-- This file is to be believed: it says again, in the documents' words and order, what every promise about a ledger comes down to.
use Rattle.std.specs.Prelude.{ℕ, zero, suc, Bool, true, false, cond, not, ◌&&◌, ◌||◌, List, [], ◌∷◌, ◌++◌, map, length, eqb, leb, ltb}
use Rattle.common.specs.Checks.{Check, needs, judge}
use Rattle.common.specs.Benches.{is_bench, every}
use Rattle.common.specs.Updates.{put}

-- ---- The limits: the last slot that can be closed; the last that can be handed out, as the slot after it has to be closed too; the most sweeps held
abbrev pub last_slot : ℕ
last_slot = 65534

abbrev pub last_out : ℕ
last_out = 65533

abbrev pub most_held : ℕ
most_held = 1024

-- ---- A sweep: who sent it, the slot that was open then, its tag
pub record Sweep : Type 0 where
  pub sender : ℕ
  pub slot : ℕ
  pub tag : ℕ

-- those of which the test holds, in order
unfoldable pub only : {A : Type 0} → (A → Bool) → List A → List A
only p [] = []
only p (x ∷ l) = cond (p x) (x ∷ only p l) (only p l)

-- the tags of slot k: senders 1 to n in rising number, each sender's in order of arrival
unfoldable pub tags_of : ℕ → ℕ → List Sweep → List ℕ
tags_of zero k l = []
tags_of (suc n) k l = tags_of n k l ++ map (λ w. w.tag) (only (λ w. eqb w.sender (suc n) && eqb w.slot k) l)

-- ---- What the ledger knows of a sender: nothing; its first and its open slot; these and its end
pub data Row : Type 0 where
  unknown : Row
  joined : ℕ → ℕ → Row
  ended : ℕ → ℕ → ℕ → Row

unfoldable pub has_joined : Row → Bool
has_joined unknown = false
has_joined (joined f o) = true
has_joined (ended f o e) = true

unfoldable pub is_open : Row → Bool
is_open unknown = false
is_open (joined f o) = true
is_open (ended f o e) = false

unfoldable pub first_slot : Row → ℕ
first_slot unknown = 0
first_slot (joined f o) = f
first_slot (ended f o e) = f

unfoldable pub open_slot : Row → ℕ
open_slot unknown = 0
open_slot (joined f o) = o
open_slot (ended f o e) = o

-- a member of slot k: k is not below its first slot and is below its end, if it has one
unfoldable pub is_member : ℕ → Row → Bool
is_member k unknown = false
is_member k (joined f o) = leb f k
is_member k (ended f o e) = leb f k && ltb k e

-- done with slot k: no member of it, or it has closed it, so that its open slot is a later one
unfoldable pub done_with : ℕ → Row → Bool
done_with k r = not (is_member k r) || ltb k (open_slot r)

-- every member of slot k has closed it
unfoldable pub all_closed : ℕ → ℕ → (ℕ → Row) → Bool
all_closed n k rows = every n (λ s. done_with k (rows s))

-- slot k may go out (W1): every member of k has closed k, and every member of k + 1 has closed k + 1
unfoldable pub may_go : ℕ → ℕ → (ℕ → Row) → Bool
may_go n k rows = all_closed n k rows && all_closed n (suc k) rows

-- ---- The book: the next slot to hand out, the senders' rows, the sweeps held in order of arrival. Document 01's new book begins at 0
pub record Book : Type 0 where
  pub next : ℕ
  pub rows : ℕ → Row
  pub held : List Sweep

unfoldable pub new_book : ℕ → Book
new_book begin = record { next = begin; rows = λ s. unknown; held = [] }

unfoldable pub with_row : ℕ → Row → Book → Book
with_row s r b = record { next = b.next; rows = put b.rows s r; held = b.held }

unfoldable pub swept : Sweep → Book → Book
swept w b = record { next = b.next; rows = b.rows; held = b.held ++ (w ∷ []) }

-- the sweeps of sender s from slot e on are dropped
unfoldable pub cut : ℕ → ℕ → Book → Book
cut s e b = record { next = b.next; rows = b.rows; held = only (λ w. not (eqb w.sender s && leb e w.slot)) b.held }

unfoldable pub advanced : Book → Book
advanced b = record { next = suc b.next; rows = b.rows; held = only (λ w. not (eqb w.slot b.next)) b.held }

-- ---- The steps: join (sender, first slot), sweep (sender, tag), end (sender, slot), close (sender), hand out (places of the receiving buffer)
pub data Step : Type 0 where
  join sweep end : ℕ → ℕ → Step
  close hand_out : ℕ → Step

-- the checks of each step, in document 01's order
unfoldable pub checks : ℕ → Book → Step → List Check
checks n b (join s f) = needs 1 (is_bench n s) ∷ needs 13 (not (has_joined (b.rows s))) ∷ needs 14 (leb b.next f && leb f last_slot) ∷ []
checks n b (sweep s t) = needs 1 (is_bench n s) ∷ needs 15 (is_open (b.rows s)) ∷ needs 17 (leb (open_slot (b.rows s)) last_slot) ∷ needs 25 (ltb (length b.held) most_held) ∷ []
checks n b (close s) = needs 1 (is_bench n s) ∷ needs 15 (is_open (b.rows s)) ∷ needs 17 (leb (open_slot (b.rows s)) last_slot) ∷ []
checks n b (end s e) = needs 1 (is_bench n s) ∷ needs 15 (has_joined (b.rows s)) ∷ needs 16 (is_open (b.rows s)) ∷ needs 18 (leb e (open_slot (b.rows s))) ∷ needs 19 (leb b.next e) ∷ []
checks n b (hand_out room) = needs 17 (leb b.next last_out) ∷ needs 24 (may_go n b.next b.rows) ∷ needs 22 (leb (length (tags_of n b.next b.held)) room) ∷ []

-- 0, the tags written and the book after, where every check holds; or a refusal's number, and the book as it was
pub record Answer : Type 0 where
  pub number : ℕ
  pub tags : List ℕ
  pub book : Book

unfoldable pub answer : ℕ → List ℕ → Book → Answer
answer k l b = record { number = k; tags = l; book = b }

unfoldable pub after : ℕ → Book → Step → Answer
after n b (join s f) = answer 0 [] (with_row s (joined f f) b)
after n b (sweep s t) = answer 0 [] (swept (record { sender = s; slot = open_slot (b.rows s); tag = t }) b)
after n b (close s) = answer 0 [] (with_row s (joined (first_slot (b.rows s)) (suc (open_slot (b.rows s)))) b)
after n b (end s e) = answer 0 [] (cut s e (with_row s (ended (first_slot (b.rows s)) (open_slot (b.rows s)) e) b))
after n b (hand_out room) = answer 0 (tags_of n b.next b.held) (advanced b)

-- the first check that fails refuses
unfoldable pub step : ℕ → Book → Step → Answer
step n b s = judge (λ k. answer k [] b) (checks n b s) (after n b s)
