-- When each number is answered, for every book: document 01's table and its order of checks in facts of the senders' rows; and what a step
-- that is done leaves. Each case by computation. Assumes nothing.
use mathlib.Core.Path.{◌≡◌, refl}
use Prim.Native.Nat.{ℕ, suc, ◌≤◌, ◌<◌}
use mathlib.Core.Bool.{true, false, not, ◌&&◌}
use mathlib.Core.List.{[], ◌∷◌, ◌++◌}
use lib.ListN.{length}
use lib.Dec.{leb, ltb}
use borrow.Author.Tests.{leb-true, le-leb, lt-leb, lt-ltb, le-ltb, ltb-true}
use Rattle.common.specs.Checks.{judge}
use Rattle.common.specs.Benches.{is_bench, In}
use Rattle.common.proofs.Tests.{both, implies, imply, clash, split}
use Rattle.common.proofs.Benches.{bench_in, in_bench, every_get, every_make}
use Rattle.common.proofs.Updates.{put_same}
use Rattle.book.specs.Answers.{Counts, Closed, Open, DoneWith, LetsGo, Given, join_0, join_1, join_13, join_14, sweep_0, sweep_1, sweep_15, sweep_17, sweep_25, close_0, close_1, close_15, close_17, end_0, end_1, end_15, end_16, end_18, end_19, hand_out_0, hand_out_17, hand_out_24, hand_out_22}
use Rattle.book.specs.Book.{last_slot, last_out, most_held, Row, unknown, joined, ended, has_joined, is_open, first_slot, open_slot, is_member, done_with, all_closed, may_go, tags_of, Book, with_row, swept, advanced, Step, join, sweep, close, hand_out, answer, checks, after, step}

-- ---- rows

-- the tests say what the words mean
members : (k : ℕ) (r : Row) → is_member k r ≡ true → Counts k r
unfolding is_member
members k unknown e = clash (cc)
members k (joined f o) e = leb-true f k e
members k (ended f o x) e = let z = both (leb f k) (ltb k x) e in (leb-true f k z.0, ltb-true k x z.1)

member_is : (k : ℕ) (r : Row) → Counts k r → is_member k r ≡ true
unfolding is_member
member_is k (joined f o) h = le-leb f k h
member_is k (ended f o x) h = rw (le-leb f k h.0, lt-ltb k x h.1) refl
member_is k unknown h = elim h [ ]

closed_is : (k : ℕ) (r : Row) → Closed k r → ltb k (open_slot r) ≡ true
unfolding open_slot
closed_is k (joined f o) h = lt-ltb k o h
closed_is k (ended f o x) h = lt-ltb k o h
closed_is k unknown h = elim h [ ]

is_closed : (k : ℕ) (r : Row) → is_member k r ≡ true → ltb k (open_slot r) ≡ true → Closed k r
unfolding open_slot is_member
is_closed k unknown m e = clash (cc)
is_closed k (joined f o) m e = ltb-true k o e
is_closed k (ended f o x) m e = ltb-true k o e

known : (r : Row) → (r ≡ unknown → ⊥) → has_joined r ≡ true
unfolding has_joined
known unknown h = absurd (h refl)
known (joined f o) h = refl
known (ended f o e) h = refl

not_open : (r : Row) → (Open r → ⊥) → is_open r ≡ false
unfolding is_open
not_open unknown h = refl
not_open (joined f o) h = absurd (h tt)
not_open (ended f o e) h = refl

pub unknown_is : (r : Row) → not (has_joined r) ≡ true → r ≡ unknown
unfolding has_joined
unknown_is unknown e = refl
unknown_is (joined f o) e = clash (cc)
unknown_is (ended f o x) e = clash (cc)

pub open_is : (r : Row) → is_open r ≡ true → (f : ℕ) × (o : ℕ) × (r ≡ joined f o)
unfolding is_open
open_is unknown e = clash (cc)
open_is (joined f o) e = (f, o, refl)
open_is (ended f o x) e = clash (cc)

-- ---- a slot may go out exactly where every sender lets it go

pub all_closed_get : (n k : ℕ) (rows : ℕ → Row) → all_closed n k rows ≡ true → (s : ℕ) → In n s → DoneWith k (rows s)
unfolding all_closed done_with
all_closed_get n k rows e s i c = let m = member_is k (rows s) c in
    is_closed k (rows s) m (implies (is_member k (rows s)) (ltb k (open_slot (rows s))) (every_get n _ s e i) m)

all_closed_make : (n k : ℕ) (rows : ℕ → Row) → ((s : ℕ) → In n s → DoneWith k (rows s)) → all_closed n k rows ≡ true
unfolding all_closed done_with
all_closed_make n k rows h = every_make n _ (λ s i. imply (is_member k (rows s)) (ltb k (open_slot (rows s))) (λ m. closed_is k (rows s) (h s i (members k (rows s) m))))

pub may_go_get : (n k : ℕ) (rows : ℕ → Row) → may_go n k rows ≡ true → (s : ℕ) → In n s → LetsGo k (rows s)
unfolding may_go
may_go_get n k rows e s i = let z = both (all_closed n k rows) (all_closed n (suc k) rows) e in (all_closed_get n k rows z.0 s i, all_closed_get n (suc k) rows z.1 s i)

pub may_go_make : (n k : ℕ) (rows : ℕ → Row) → ((s : ℕ) → In n s → LetsGo k (rows s)) → may_go n k rows ≡ true
unfolding may_go
may_go_make n k rows h = rw (all_closed_make n k rows (λ s i. (h s i).0), all_closed_make n (suc k) rows (λ s i. (h s i).1)) refl

-- ---- the table

module _ (n : ℕ) (b : Book) where
  no_bench : (s : ℕ) → (In n s → ⊥) → is_bench n s ≡ false
  no_bench s h = split (is_bench n s) (λ e. absurd (h (bench_in n s e))) (λ e. e)

  outside : (f : ℕ) → ((b.next ≤ f) × (f ≤ last_slot) → ⊥) → (leb b.next f && leb f last_slot) ≡ false
  outside f h = split (leb b.next f && leb f last_slot) (λ e. let z = both (leb b.next f) (leb f last_slot) e in absurd (h (leb-true b.next f z.0, leb-true f last_slot z.1))) (λ e. e)

  waits : (s : ℕ) → In n s → (LetsGo b.next (b.rows s) → ⊥) → may_go n b.next b.rows ≡ false
  waits s i h = split (may_go n b.next b.rows) (λ e. absurd (h (may_go_get n b.next b.rows e s i))) (λ e. e)

  goes : ((s : ℕ) → In n s → LetsGo b.next (b.rows s)) → may_go n b.next b.rows ≡ true
  goes = may_go_make n b.next b.rows

  pub given : (a : Step) (k : ℕ) → Given n b a k → (step n b a).number ≡ k
  unfolding step checks judge answer after has_joined is_open open_slot
  given a k (join_0 s f i e g u) = rw (in_bench n s i, e, le-leb b.next f g, le-leb f last_slot u) refl
  given a k (join_1 s f h) = rw (no_bench s h) refl
  given a k (join_13 s f i h) = rw (in_bench n s i, known (b.rows s) h) refl
  given a k (join_14 s f i e h) = rw (in_bench n s i, e, outside f h) refl
  given a k (sweep_0 s t f o i e u g) = rw (in_bench n s i, e, le-leb o last_slot u, lt-ltb (length b.held) most_held g) refl
  given a k (sweep_1 s t h) = rw (no_bench s h) refl
  given a k (sweep_15 s t i h) = rw (in_bench n s i, not_open (b.rows s) h) refl
  given a k (sweep_17 s t f o i e u) = rw (in_bench n s i, e, lt-leb o last_slot u) refl
  given a k (sweep_25 s t f o i e u g) = rw (in_bench n s i, e, le-leb o last_slot u, le-ltb (length b.held) most_held g) refl
  given a k (close_0 s f o i e u) = rw (in_bench n s i, e, le-leb o last_slot u) refl
  given a k (close_1 s h) = rw (no_bench s h) refl
  given a k (close_15 s i h) = rw (in_bench n s i, not_open (b.rows s) h) refl
  given a k (close_17 s f o i e u) = rw (in_bench n s i, e, lt-leb o last_slot u) refl
  given a k (end_0 s e f o i q u g) = rw (in_bench n s i, q, le-leb e o u, le-leb b.next e g) refl
  given a k (end_1 s e h) = rw (no_bench s h) refl
  given a k (end_15 s e i q) = rw (in_bench n s i, q) refl
  given a k (end_16 s e f o x i q) = rw (in_bench n s i, q) refl
  given a k (end_18 s e f o i q u) = rw (in_bench n s i, q, lt-leb e o u) refl
  given a k (end_19 s e f o i q u g) = rw (in_bench n s i, q, le-leb e o u, lt-leb b.next e g) refl
  given a k (hand_out_0 room u h g) = rw (le-leb b.next last_out u, goes h, le-leb (length (tags_of n b.next b.held)) room g) refl
  given a k (hand_out_17 room u) = rw (lt-leb b.next last_out u) refl
  given a k (hand_out_24 room s u i h) = rw (le-leb b.next last_out u, waits s i h) refl
  given a k (hand_out_22 room u h g) = rw (le-leb b.next last_out u, goes h, lt-leb (length (tags_of n b.next b.held)) room g) refl

  -- ---- what is left by a step that is done: the sweep behind all that are held, the next slot open, the slot handed out behind

  pub joins : (s f : ℕ) → In n s → b.rows s ≡ unknown → b.next ≤ f → f ≤ last_slot → (step n b (join s f)).book.rows s ≡ joined f f
  unfolding step checks judge answer after has_joined with_row
  joins s f i e g u = rw (in_bench n s i, e, le-leb b.next f g, le-leb f last_slot u) (put_same b.rows s (joined f f))

  pub sweeps : (s t f o : ℕ) → In n s → b.rows s ≡ joined f o → o ≤ last_slot → length b.held < most_held → (step n b (sweep s t)).book.held ≡ b.held ++ (record { sender = s; slot = o; tag = t } ∷ [])
  unfolding step checks judge answer after is_open open_slot swept
  sweeps s t f o i e u g = rw (in_bench n s i, e, le-leb o last_slot u, lt-ltb (length b.held) most_held g) refl

  pub closes : (s f o : ℕ) → In n s → b.rows s ≡ joined f o → o ≤ last_slot → (step n b (close s)).book.rows s ≡ joined f (suc o)
  unfolding step checks judge answer after is_open first_slot open_slot with_row
  closes s f o i e u = rw (in_bench n s i, e, le-leb o last_slot u) (put_same b.rows s (joined f (suc o)))

  pub hands_out_lem : (room : ℕ) → b.next ≤ last_out → ((s : ℕ) → In n s → LetsGo b.next (b.rows s)) → length (tags_of n b.next b.held) ≤ room
      → ((step n b (hand_out room)).tags ≡ tags_of n b.next b.held) × ((step n b (hand_out room)).book.next ≡ suc b.next)
  unfolding step checks judge answer after advanced
  hands_out_lem room u h g = rw (le-leb b.next last_out u, goes h, le-leb (length (tags_of n b.next b.held)) room g) (refl, refl)
