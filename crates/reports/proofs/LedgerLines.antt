-- How long the lines of a ledger script's report are. Assumes nothing.
use Prim.Native.Nat.{ℕ, zero, suc, ◌+◌, ◌*◌, ◌≤◌, ◌<◌}
use native.Mathlib.Omega.{arith}
use mathlib.Core.Bool.{Bool, true, false}
use mathlib.Core.List.{List, [], ◌∷◌, ◌++◌}
use mathlib.Core.Path.{◌≡◌, refl}
use lib.ListN.{length, length-append}
use Rattle.kinds.specs.declared.Size.{Size}
use Rattle.kinds.specs.Sizes.{benches_of}
use Rattle.spelling.specs.Numbers.{digits, leads}
use Rattle.spelling.specs.Answers.{answer_text, totals}
use Rattle.spelling.proofs.Decimals.{digits_length, small_length}
use Rattle.spelling.proofs.Answers.{answer_length, totals_length, totals_short}
use Rattle.book.specs.Book.{Row, unknown, joined, ended, Book}
use Rattle.reports.specs.LedgerReport.{other_tags, tags_text, handed_text, ledger_line, slots_text, sender_line, sender_lines, cursor_line, last_lines}

-- ---- an answer's line: 56 bytes at most, and 11 for each tag

others_short : (l : List ℕ) → length (other_tags l) ≤ 11 * length l
unfolding other_tags
others_short [] = omega arith
others_short (t ∷ l) = omega (arith, length-append (digits t) (other_tags l), digits_length t, others_short l)

tags_short : (l : List ℕ) → length (tags_text l) ≤ 5 + 11 * length l
unfolding tags_text
tags_short [] = omega arith
tags_short (t ∷ l) = omega (arith, length-append (digits t) (other_tags l), digits_length t, others_short l)

handed_short : (h : Bool) (l : List ℕ) → length (handed_text h l) ≤ 22 + 11 * length l
unfolding handed_text
handed_short true l = omega (arith, length-append (digits (length l)) (tags_text l), digits_length (length l), tags_short l)
handed_short false l = omega arith

line_length_lem : (k a : ℕ) (h : Bool) (l : List ℕ) → length (ledger_line k a h l) ≡ 14 + length (digits k) + length (digits a) + length (handed_text h l)
unfolding ledger_line
line_length_lem k a h l =
    omega (arith, length-append (answer_text k a) (handed_text h l ++ (10 ∷ [])), length-append (handed_text h l) (10 ∷ []), answer_length k a)

pub line_short : (k a : ℕ) (h : Bool) (l : List ℕ) → length (ledger_line k a h l) ≤ 56 + 11 * length l
line_short k a h l = omega (arith, line_length_lem k a h l, digits_length k, digits_length a, handed_short h l)

two_digits : length (digits 20) ≡ 2
unfolding digits leads
two_digits = refl

pub malformed_short : (k : ℕ) → k < 100000 → length (ledger_line k 20 false []) ≤ 21
unfolding handed_text
malformed_short k h = omega (arith, line_length_lem k 20 false [], small_length k h, two_digits)

-- ---- a sender's line: 66 bytes at most

slots_short : (s f o : ℕ) → length (slots_text s f o) ≤ 50
unfolding slots_text
slots_short s f o = simp length-append (omega (arith, digits_length s, digits_length f, digits_length o))

sender_short : (s : ℕ) (r : Row) → length (sender_line s r) ≤ 66
unfolding sender_line
sender_short s unknown = omega arith
sender_short s (joined f o) = simp length-append (omega (arith, slots_short s f o))
sender_short s (ended f o e) = simp length-append (omega (arith, slots_short s f o, digits_length e))

senders_short : (n : ℕ) (rows : ℕ → Row) → length (sender_lines n rows) ≤ 66 * n
unfolding sender_lines
senders_short zero rows = omega arith
senders_short (suc n) rows = simp length-append (omega (arith, senders_short n rows, sender_short (suc n) (rows (suc n))))

-- ---- what stands behind the answers' lines

cursor_short : (n h : ℕ) → length (cursor_line n h) ≤ 32
unfolding cursor_line
cursor_short n h = simp length-append (omega (arith, digits_length n, digits_length h))

module _ (size : Size) (b : Book) (n r : ℕ) where
  last_length : length (last_lines size b n r) ≡ length (sender_lines (benches_of size) b.rows) + (length (cursor_line b.next (length b.held)) + length (totals n r))
  unfolding last_lines
  last_length =
      let c = cursor_line b.next (length b.held) in
      omega (arith, length-append (sender_lines (benches_of size) b.rows) (c ++ totals n r), length-append c (totals n r))

  pub last_short : length (last_lines size b n r) ≤ 68 + 66 * benches_of size
  last_short = omega (arith, last_length, senders_short (benches_of size) b.rows, cursor_short b.next (length b.held), totals_short n r)

  pub last_some : 1 ≤ length (last_lines size b n r)
  last_some = omega (arith, last_length, totals_length n r)
