-- The report's last line: how the answers not 0 are counted, and that the line is written. Assumes nothing.
use Prim.Native.Nat.{ℕ, ◌+◌, ◌≤◌}
use native.Mathlib.Omega.{arith}
use mathlib.Core.List.{List}
use mathlib.Core.Path.{◌≡◌, refl}
use Rattle.std.proofs.Common.{not, cond, sym, ◌∷◌, eqb, count_by}
use Rattle.std.proofs.lemmas.List.Recursion.{is_count_by}
use lib.ListN.{length}
use Rattle.common.proofs.Tests.{split}
use Rattle.room.specs.declared.writer.Writer.{Writer}
use Rattle.room.specs.Writes.{Writes, Puts}
use Rattle.room.proofs.Writers.{put_last}
use Rattle.spelling.specs.Answers.{totals}
use Rattle.spelling.proofs.Answers.{totals_short}
use Rattle.reports.specs.RunReport.{refused_in, totals_of}

-- ---- the count

refused_next : (a : ℕ) (l : List ℕ) → refused_in (a ∷ l) ≡ cond (not (eqb a 0)) (1 + refused_in l) (refused_in l)
unfolding refused_in
refused_next a l = split (eqb a 0) (λ e. rw e (omega arith)) (λ e. rw e refl)

pub refused_counted : (l : List ℕ) → count_by (λ (a : ℕ). not (eqb a 0)) l ≡ refused_in l
refused_counted l = sym (is_count_by refused_in (λ (a : ℕ). not (eqb a 0)) (unfold refused_in in refl) refused_next l)

-- ---- the line

pub totals_written : (l : List ℕ) {n k : ℕ} {out after : Writer} → k ≡ length l → n ≡ refused_in l → out.at + 36 ≤ length out.room.now
    → Puts out (totals k n) after → Writes out (totals_of l) after
unfolding totals_of
totals_written l ek en h p = put_last (totals (length l) (refused_in l)) (rw (ek, en) at p) (omega (arith, totals_short (length l) (refused_in l)))
