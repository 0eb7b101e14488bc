-- Laws of a log's messages: what is found among the first n, what stands behind them, and which entries they depend on. Assumes nothing.
use Rattle.bench.specs.declared.Entry.{Entry}
use Rattle.bench.specs.Entries.{entry}
use mathlib.Core.Path.{◌≡◌, refl, sym, ap, ◌∙◌}
use mathlib.Core.Bool.{Bool, true, false, cond}
use mathlib.Core.List.{List, [], ◌∷◌, ◌++◌, append_assoc, append-nil}
use Prim.Native.Nat.{ℕ, zero, suc, ◌≤◌, ◌<◌}
use native.Mathlib.Omega.{arith}
use lib.Dec.{eqb, ltb}
use lib.ListN.{length, drop, length-append}
use borrow.Author.Tests.{ltb-true, ltb-false, lt-ltb, le-ltb, eqb-true, eqb-false, eq-eqb, ne_eqb}
use Rattle.published.specs.Rounds.{Message, Round, Out, Found, absent, found, find, has_out}
use Rattle.common.proofs.Tests.{split}
use Rattle.published.proofs.Messages.{find_found, find_absent, find_out, has_out_append, drop_length}
use Rattle.tables.specs.Runs.{messages_to, line_of}
use Rattle.tables.specs.Local.{KeepsRounds}

-- the message of round q + 1
abbrev pub at : List Entry → ℕ → Message
at log q = Round (suc q) (entry log q).value.0 (entry log q).world

-- what is found of round q + 1 where n messages are there
abbrev pub found_at : List Entry → ℕ → ℕ → Found
found_at log n q = cond (ltb q n) (found (entry log q).value.0 (entry log q).world) absent

-- ---- how many, and what is behind the first n

rounds_length : (log : List Entry) (n : ℕ) → length (messages_to log n) ≡ n
unfolding messages_to
rounds_length log zero = refl
rounds_length log (suc n) = omega (arith, length-append (messages_to log n) (at log n ∷ []), rounds_length log n)

pub line_length_lem : (log : List Entry) (n : ℕ) → length (line_of log n false) ≡ n
unfolding line_of
line_length_lem log n = rw append-nil (rounds_length log n)

pub drop_rounds : (log : List Entry) (n : ℕ) (z : List Message) → drop n (messages_to log n ++ z) ≡ z
drop_rounds log n z = ap (λ (k : ℕ). drop k (messages_to log n ++ z)) (sym (rounds_length log n)) ∙ drop_length (messages_to log n) z

-- behind the first n of m messages stands that of round n + 1
pub ahead : (log : List Entry) (n m : ℕ) (z : List Message) → n < m → (q : List Message) × (drop n (messages_to log m ++ z) ≡ at log n ∷ q)
unfolding messages_to
ahead log n zero z h = absurd (omega arith)
ahead log n (suc m) z h = split (eqb n m)
    (λ e. (z, rw (append_assoc, eqb-true n m e) (drop_rounds log m (at log m ∷ z))))
    (λ e. let ne = eqb-false n m e in let r = ahead log n m (at log m ∷ z) (omega arith) in (r.0, rw append_assoc r.1))

-- ---- what is found

rounds_find : (log : List Entry) (n q : ℕ) → find (suc q) (messages_to log n) ≡ found_at log n q
unfolding messages_to find
rounds_find log zero q = rw (le-ltb q 0 (omega arith)) refl
rounds_find log (suc n) q = split (ltb q n)
    (λ e. let ih : find (suc q) (messages_to log n) ≡ found (entry log q).value.0 (entry log q).world = rounds_find log n q ∙ rw e refl in
    let l = ltb-true q n e in
    find_found (suc q) (messages_to log n) (at log n ∷ []) (entry log q).value.0 (entry log q).world ih ∙ rw (lt-ltb q (suc n) (omega arith)) refl)
    (λ e. let ih : find (suc q) (messages_to log n) ≡ absent = rounds_find log n q ∙ rw e refl in
    let l = ltb-false q n e in
    find_absent (suc q) (messages_to log n) (at log n ∷ []) ih ∙ split (eqb n q)
    (λ c. let p = eqb-true n q c in rw (eq-eqb (suc n) (suc q) (omega arith), lt-ltb q (suc n) (omega arith), p) refl)
    (λ c. let p = eqb-false n q c in rw (ne_eqb (suc n) (suc q) (omega arith), le-ltb q (suc n) (omega arith)) refl))

pub line_find : (log : List Entry) (n q : ℕ) (o : Bool) → find (suc q) (line_of log n o) ≡ found_at log n q
unfolding line_of
line_find log n q true = find_out (suc q) (messages_to log n) ∙ rounds_find log n q
line_find log n q false = rw append-nil (rounds_find log n q)

rounds_quiet : (log : List Entry) (n : ℕ) → has_out (messages_to log n) ≡ false
unfolding messages_to has_out
rounds_quiet log zero = refl
rounds_quiet log (suc n) = has_out_append (messages_to log n) (at log n ∷ []) ∙ rw (rounds_quiet log n) refl

pub line_out : (log : List Entry) (n : ℕ) (o : Bool) → has_out (line_of log n o) ≡ o
unfolding line_of has_out
line_out log n true = has_out_append (messages_to log n) (Out ∷ []) ∙ rw (rounds_quiet log n) refl
line_out log n false = rw append-nil (rounds_quiet log n)

-- ---- two logs

pub keeps_all : (log : List Entry) (m : ℕ) → KeepsRounds log log m
keeps_all log m q h = refl

pub rounds_kept : (log log' : List Entry) (m : ℕ) → KeepsRounds log log' m → (n : ℕ) → n ≤ m → messages_to log' n ≡ messages_to log n
unfolding messages_to
rounds_kept log log' m f zero h = refl
rounds_kept log log' m f (suc n) h = rw (rounds_kept log log' m f n (omega arith), f n (omega arith)) refl

pub line_kept : (log log' : List Entry) (m : ℕ) → KeepsRounds log log' m → (n : ℕ) → n ≤ m → (o : Bool) → line_of log' n o ≡ line_of log n o
unfolding line_of
line_kept log log' m f n h o = rw (rounds_kept log log' m f n h) refl
