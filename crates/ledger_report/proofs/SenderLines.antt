-- How the senders' lines are written. Assumes nothing.
use Prim.Native.Nat.{ℕ, zero, suc, ◌+◌, ◌-◌, ◌≤◌, ◌<◌}
use native.Mathlib.Omega.{arith}
use mathlib.Core.List.{[], ◌∷◌, ◌++◌}
use mathlib.Core.Path.{◌≡◌, refl, ap, ◌∙◌}
use lib.ListN.{length, length-append}
use Rattle.spelling.specs.Numbers.{ascii, digits}
use Rattle.spelling.proofs.Stores.{stored_length}
use Rattle.room.specs.declared.writer.Writer.{Writer}
use Rattle.room.specs.Writes.{Writes, Puts, Holds}
use Rattle.room.proofs.Writers.{holds_front, holds_behind, writes_none, writes_then, put_then, put_last}
use Rattle.kinds.specs.declared.SlotNo.{SlotNo}
use Rattle.senders.specs.declared.Row as code
use Rattle.senders.specs.declared.Row.TheVariants.{Unknown, Joined, Ended}
use Rattle.book.specs.Book.{Row}
use Rattle.senders.specs.Rows.{row_is}
use Rattle.reports.specs.LedgerReport.{slots_text, sender_line, sender_lines}

-- ---- a line written

module _ (s : ℕ) (row : code.Row) (out : Writer) where
  pub unknown_written : row ≡ Unknown → Writes out (sender_line s (row_is row)) out
  unfolding sender_line row_is
  unknown_written e = rw e (writes_none out)

  module _ (f o : SlotNo) (e : row ≡ Joined f o) (h : Holds out (sender_line s (row_is row))) where
    joined_whole : Holds out (slots_text s f.0 o.0 ++ (ascii " end=none" ++ (10 ∷ [])))
    unfolding sender_line row_is
    joined_whole = rw e at h

    pub joined_room : Holds out (slots_text s f.0 o.0)
    joined_room = holds_front out (slots_text s f.0 o.0) (ascii " end=none" ++ (10 ∷ [])) joined_whole

    pub joined_written : {out₁ out₂ : Writer} → Writes out (slots_text s f.0 o.0) out₁ → Puts out₁ (ascii " end=none" ++ (10 ∷ [])) out₂
        → Writes out (sender_line s (row_is row)) out₂
    unfolding sender_line row_is
    joined_written p q =
        let w = ascii " end=none" ++ (10 ∷ []) in
        rw e (writes_then p (put_last w q (holds_behind p w joined_whole)))

  module _ (f o x : SlotNo) (e : row ≡ Ended f o x) (h : Holds out (sender_line s (row_is row))) where
    ended_whole : Holds out (slots_text s f.0 o.0 ++ (ascii " end=" ++ (digits x.0 ++ (10 ∷ []))))
    unfolding sender_line row_is
    ended_whole = rw e at h

    pub ended_room : Holds out (slots_text s f.0 o.0)
    ended_room = holds_front out (slots_text s f.0 o.0) (ascii " end=" ++ (digits x.0 ++ (10 ∷ []))) ended_whole

    pub ended_written : {out₁ out₂ out₃ : Writer} → Writes out (slots_text s f.0 o.0) out₁ → Puts out₁ (ascii " end=" ++ digits x.0) out₂
        → Puts out₂ (10 ∷ []) out₃ → Writes out (sender_line s (row_is row)) out₃
    unfolding sender_line row_is
    ended_written p q r =
        rw e (writes_then p (put_then (ascii " end=" ++ digits x.0) (10 ∷ []) q (put_last (10 ∷ []) r)
        (holds_behind p (ascii " end=" ++ (digits x.0 ++ (10 ∷ []))) ended_whole)))

-- ---- the lines written, sender by sender

-- of n senders the lines of those below s are written
pub record Listed (n : ℕ) (first : Writer) (rows : ℕ → Row) (out : Writer) (s : ℕ) : Type 0 where
  pub upto : s ≤ n + 1
  pub written : Writes first (sender_lines (s - 1) rows) out

lines_next : (rows : ℕ → Row) (s : ℕ) → 1 ≤ s → sender_lines (s + 1 - 1) rows ≡ sender_lines (s - 1) rows ++ sender_line s (rows s)
unfolding sender_lines
lines_next rows zero h = absurd (omega arith)
lines_next rows (suc k) h = let e : suc k + 1 - 1 ≡ suc k = omega arith in let d : suc k - 1 ≡ k = omega arith in rw (e, d) refl

-- the lines of some senders are not longer than those of more
lines_grow : (rows : ℕ → Row) (k d : ℕ) → length (sender_lines k rows) ≤ length (sender_lines (k + d) rows)
unfolding sender_lines
lines_grow rows k zero = let e : k + 0 ≡ k = omega arith in rw e (omega arith)
lines_grow rows k (suc d) =
    let e : k + suc d ≡ suc (k + d) = omega arith in
    rw e (omega (arith, lines_grow rows k d, length-append (sender_lines (k + d) rows) (sender_line (suc (k + d)) (rows (suc (k + d))))))

module _ (n : ℕ) (first : Writer) (rows : ℕ → Row) where
  pub listed_none : Listed n first rows first 1
  unfolding sender_lines
  listed_none = record { upto = omega arith; written = writes_none first }

  module _ (out : Writer) (s : ℕ) (p : Listed n first rows out s) where
    module _ (g : 1 ≤ s) (h : s ≤ n) (row : code.Row) (e : row_is row ≡ rows s) where
      pub listed_room : (m : ℕ) → n ≡ m → Holds first (sender_lines m rows) → Holds out (sender_line s (row_is row))
      listed_room m many r =
          let all : s + (m - s) ≡ m = omega arith in
          let last : s + 1 - 1 ≡ s = omega arith in
          let u : length (sender_lines s rows) ≤ length (sender_lines m rows) = rw all at (lines_grow rows s (m - s)) in
          let v : length (sender_lines s rows) ≡ length (sender_lines (s - 1) rows) + length (sender_line s (row_is row)) = rw e (ap length (rw last at (lines_next rows s g)) ∙ length-append (sender_lines (s - 1) rows) (sender_line s (rows s))) in
          omega (arith, p.written.stored.place, stored_length p.written.stored)

      pub listed_more : (next : Writer) → Writes out (sender_line s (row_is row)) next → Listed n first rows next (s + 1)
      listed_more next t = record { upto = omega arith; written = rw (lines_next rows s g, ← e) (writes_then p.written t) }

    pub listed_all : (m : ℕ) → n ≡ m → n < s → Writes first (sender_lines m rows) out
    listed_all m many h = let e : s - 1 ≡ m = omega (arith, p.upto) in rw e at p.written
