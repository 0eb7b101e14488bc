-- The lines of the answers: how many bytes they have, and how they are written one after another. Assumes nothing.
use Prim.Native.Nat.{ℕ, suc, ◌+◌, ◌*◌, ◌≤◌, ◌<◌}
use native.Mathlib.Omega.{arith}
use native.Mathlib.Nat.{add-zero}
use native.Mathlib.Numerals.{add-one}
use mathlib.Core.Bool.{true}
use mathlib.Core.List.{List, [], ◌++◌}
use mathlib.Core.Path.{◌≡◌, refl, sym, ap, ◌∙◌}
use lib.Dec.{leb}
use lib.ListN.{length, get_or, drop, length-append, drop_of_length-le}
use borrow.Author.Tests.{le-leb}
use Rattle.spelling.specs.Numbers.{digits}
use Rattle.spelling.proofs.Places.{cut}
use Rattle.room.specs.declared.writer.Writer.{Writer}
use Rattle.room.specs.Writes.{Writes, Holds}
use Rattle.room.proofs.Writers.{Going, going_step, going_holds, going_end}
use Rattle.reports.specs.RunReport.{answer_line, answer_lines}
use Rattle.reports.proofs.RunLines.{line_length_lem, line_short, lines_short}

-- ---- one line

-- measured by its two numbers
pub line_measured : (k a m n : ℕ) → m ≡ length (digits k) → n ≡ length (digits a) → 14 + m + n ≡ length (answer_line k a)
line_measured k a m n p q = omega (arith, line_length_lem k a)

-- ---- the lines from a place on

module _ (l : List ℕ) (k i : ℕ) where
  lines_more : i < length l → answer_lines k (drop i l) ≡ answer_line k (get_or l i 0) ++ answer_lines (suc k) (drop (i + 1) l)
  unfolding answer_lines
  lines_more h = rw (cut l i h) refl

  lines_none : length l ≤ i → answer_lines k (drop i l) ≡ []
  unfolding answer_lines
  lines_none h = rw (drop_of_length-le l h) refl

-- room for the lines and n bytes behind them
module _ (l : List ℕ) (n m : ℕ) where
  pub lines_fit : 34 * length l + n ≤ m → true ≡ leb (length (answer_lines 1 l) + n) m
  lines_fit h = sym (le-leb (length (answer_lines 1 l) + n) m (omega (arith, lines_short l 1)))

-- ---- measured line by line

-- the lines of the first i answers have n bytes
pub record Measured (l : List ℕ) (i n : ℕ) : Type 0 where
  pub short : n ≤ 34 * i
  pub total : length (answer_lines 1 l) ≡ n + length (answer_lines (i + 1) (drop i l))

module _ (l : List ℕ) where
  pub measured_none : Measured l 0 0
  measured_none = record { short = omega arith; total = omega arith }

  module _ (i n : ℕ) (p : Measured l i n) where
    pub measured_more : i < length l → (d : ℕ) → d ≡ length (answer_line (i + 1) (get_or l i 0)) → Measured l (i + 1) (n + d)
    measured_more h d e =
        record {
          short = omega (arith, p.short, line_short (i + 1) (get_or l i 0) d e);
          total = p.total ∙ rw (lines_more l (i + 1) i h, length-append, ← add-one (i + 1)) (omega arith);
        }

    pub measured_all : length l ≤ i → n ≡ length (answer_lines 1 l)
    measured_all h = sym (p.total ∙ rw (lines_none l (i + 1) i h) (add-zero n))

-- ---- written line by line

-- the lines from the answer i on are left to be written
abbrev pub Writing : Writer → List ℕ → Writer → ℕ → Type 0
Writing first l out i = Going first (answer_lines 1 l) out (answer_lines (i + 1) (drop i l))

module _ (first : Writer) (l : List ℕ) where
  module _ (out : Writer) (i : ℕ) (p : Writing first l out i) where
    more : i < length l → Going first (answer_lines 1 l) out (answer_line (i + 1) (get_or l i 0) ++ answer_lines (i + 1 + 1) (drop (i + 1) l))
    more h = rw (lines_more l (i + 1) i h, ← add-one (i + 1)) at p

    pub writing_room : i < length l → Holds first (answer_lines 1 l) → Holds out (answer_line (i + 1) (get_or l i 0))
    writing_room h r = going_holds (answer_line (i + 1) (get_or l i 0)) (answer_lines (i + 1 + 1) (drop (i + 1) l)) (more h) r

    pub writing_more : i < length l → (next : Writer) → Writes out (answer_line (i + 1) (get_or l i 0)) next → Writing first l next (i + 1)
    writing_more h next s = going_step (answer_lines (i + 1 + 1) (drop (i + 1) l)) (more h) s

    pub writing_all : length l ≤ i → Writes first (answer_lines 1 l) out
    writing_all h = going_end (rw (lines_none l (i + 1) i h) at p)
