-- The report from its parts: the lines of the answers, and what stands behind them. Assumes nothing.
use Rattle.bench.specs.declared.Bench.{Bench}
use Rattle.bench.specs.declared.Entry.{Entry}
use Prim.Native.Nat.{ℕ, ◌+◌, ◌*◌, ◌≤◌, ◌<◌}
use native.Mathlib.Omega.{arith}
use mathlib.Core.List.{List, ◌++◌}
use mathlib.Core.Path.{◌≡◌, refl, sym, ap}
use lib.ListN.{length, take, length-append}
use lib.Seq.{length-take-le}
use Rattle.kinds.specs.Sizes.{benches_of, places}
use Rattle.kinds.specs.declared.Size.{Size}
use Rattle.kinds.proofs.Sizes.{benches_fit}
use Rattle.spelling.specs.Stored.{Stored}
use Rattle.spelling.proofs.Stores.{stored_length}
use Rattle.spelling.proofs.Puts.{front}
use Rattle.room.specs.declared.writer.Writer.{Writer}
use Rattle.room.specs.Writes.{Writes, Puts}
use Rattle.room.proofs.Writers.{writes_then, put_last}
use Rattle.std.specs.Prelude.{Ok, Err}
use Rattle.kinds.specs.declared.Refusal.TheVariants.{LongText, ShortRoom}
use Rattle.kinds.specs.Refusals.{answer_of}
use Rattle.spelling.specs.Answers.{totals}
use Rattle.reports.specs.RunReport.{answer_lines, refused_in, totals_of, run_report_for, run_report_of}
use Rattle.reports.specs.Reported.{Reports, longest, length_of, number_for, length_for, room_after}
use Rattle.run_report.specs.Parts.{Played, row_lines}
use Rattle.run_report.proofs.BenchLines.{row_lines_lem, rows_short}
use Rattle.reports.proofs.RunLines.{totals_of_short}
use Rattle.reports.proofs.Settled.{text_long, room_short, report_done}
use Rattle.run_report.proofs.TotalsLine.{totals_written}

-- ---- the parts

-- the report is the lines of the answers, and behind them the first m bytes of `rest`
pub record Made (z : Size) (text answers rest : List ℕ) (m : ℕ) : Type 0 where
  pub fits : m ≤ length rest
  pub short : m ≤ 67 * places + 36
  pub whole : run_report_of z text ≡ answer_lines 1 answers ++ take m rest

-- there is room for the lines of the benches, and for the totals behind them
pub benches_room : (z : Size) (n : ℕ) → 67 * places + 36 ≤ n → 67 * benches_of z ≤ n
benches_room z n h = omega (arith, benches_fit z)

totals_room : (z : Size) {first out : Writer} (t : List Bench) → first.at ≡ 0 → Writes first (row_lines t (benches_of z)) out → 67 * places + 36 ≤ length first.room.now
    → out.at + 36 ≤ length out.room.now
totals_room z t e p h = omega (arith, p.stored.place, stored_length p.stored, rows_short t (benches_of z), benches_fit z)

-- where there is room for two parts there is room for the first
pub room_front : (k m : ℕ) {n : ℕ} → k + m ≤ n → k ≤ n
room_front k m h = omega arith

-- what stands behind them is written from the tables and the answers after the text was played, r of its lines refused
pub made : {z : Size} {text answers : List ℕ} {t : List Bench} {l : List (List Entry)} {k r : ℕ} {first out end : Writer} → Played z text t l answers
    → first.at ≡ 0 → Writes first (row_lines t (benches_of z)) out → k ≡ length answers → r ≡ refused_in answers → Puts out (totals k r) end
    → 67 * places + 36 ≤ length first.room.now → Made z text answers end.room.now end.at
unfolding run_report_of run_report_for
made {z} {text} {answers} {t} {l} {first = first} {end = end} p zero_is q₁ ek er q₂ h =
    let b = row_lines t (benches_of z) in
    let w = totals_of answers in
    let q = writes_then q₁ (totals_written answers ek er (totals_room z t zero_is q₁ h) q₂) in
    let s : Stored first.room.now 0 (b ++ w) end.at end.room.now = rw zero_is at q.stored in
    let i : length (b ++ w) ≤ 67 * places + 36 = omega (arith, length-append b w, rows_short t (benches_of z), benches_fit z, totals_of_short answers) in
    record {
      fits = omega (arith, s.place, stored_length s);
      short = omega (arith, s.place);
      whole = rw (← p.answers_are, ← p.run_is, ← row_lines_lem t l (benches_of z) (benches_fit z), front (b ++ w) (omega arith) s) refl;
    }

-- ---- the answer and the room

-- 23, in its parts
module _ (text report room : List ℕ) (h : longest < length text) where
  pub long_number : number_for text report room ≡ answer_of {A = ℕ} (Err LongText)
  long_number = sym ((text_long text report room h).number)

  pub long_length : length_for text report room ≡ length_of (Err LongText)
  long_length = sym ((text_long text report room h).bytes)

  pub long_room : room_after text report room ≡ room
  long_room = sym ((text_long text report room h).held)

module _ (z : Size) (text room answers rest : List ℕ) (m : ℕ) (h : length text ≤ longest) (p : Made z text answers rest m) where
  whole_length : length (run_report_of z text) ≡ length (answer_lines 1 answers) + m
  whole_length = rw (p.whole, length-append, length-take-le m rest p.fits) refl

  -- 22
  pub parts_short : length room < length (answer_lines 1 answers) + m → Reports text (run_report_of z text) room (Err ShortRoom) room
  parts_short r = room_short text (run_report_of z text) room h (omega (arith, whole_length))

  -- done
  pub parts_done : length (answer_lines 1 answers) + m ≤ length room → {first out end : Writer} → first.at ≡ 0 → first.room.now ≡ room
      → Writes first (answer_lines 1 answers) out → Puts out (take m rest) end → (after : List ℕ) → after ≡ end.room.now
      → Reports text (run_report_of z text) room (Ok end.at) after
  parts_done r {first} {out} {end} zero_is held q₁ q₂ after e =
      let l = length-take-le m rest p.fits in
      let q = writes_then q₁ (put_last (take m rest) q₂ (omega (arith, q₁.stored.place, stored_length q₁.stored, ap length held))) in
      rw e (report_done text (run_report_of z text) room h (omega (arith, whole_length)) (rw (p.whole, ← held, ← zero_is) q.stored))
