-- The lines of the benches, by what is read of the table: those of the run that the tables stand for, and how they are written. Assumes nothing.
use Rattle.bench.specs.declared.Bench.{Bench}
use Rattle.bench.specs.declared.Entry.{Entry}
use Prim.Native.Nat.{ℕ, zero, suc, ◌+◌, ◌-◌, ◌*◌, ◌≤◌, ◌<◌}
use native.Mathlib.Omega.{arith}
use native.Mathlib.Numerals.{sub-one}
use mathlib.Core.Bool.{Bool, true, false, cond}
use mathlib.Core.List.{List, [], ◌∷◌, ◌++◌}
use mathlib.Core.Path.{◌≡◌, refl, sym, ◌∙◌}
use lib.Dec.{eqb}
use lib.ListN.{length, length-append}
use borrow.Author.Tests.{ne_eqb, eq-eqb, le-leb}
use Rattle.published.specs.Rounds.{Out, failed}
use Rattle.common.specs.Benches.{is_bench}
use Rattle.common.proofs.Tests.{cond_ind}
use Rattle.kinds.specs.Sizes.{places}
use Rattle.tables.specs.Runs.{messages_to, line_of, state_of, bench_of, run_by, run_of}
use Rattle.tables.proofs.States.{fresh_is}
use Rattle.reads.specs.Decisions.{decision_is}
use Rattle.std.specs.Prelude.{Option}
use Rattle.kinds.specs.declared.SlotNo.{SlotNo}
use Rattle.reads.specs.Reads.{state_word, sent_word, decision_at}
use Rattle.spelling.proofs.Stores.{stored_length}
use Rattle.room.specs.declared.writer.Writer.{Writer}
use Rattle.room.specs.Writes.{Writes}
use Rattle.room.proofs.Writers.{writes_none, writes_then}
use Rattle.reports.specs.RunReport.{last_round, bench_line, bench_lines}
use Rattle.reports.proofs.RunLines.{spelled, spelled_short}
use Rattle.reports.proofs.LastRounds.{last_append}
use Rattle.run_report.specs.Parts.{row_line, row_lines}

-- ---- the row's words are what the report says of the bench

last_rounds : (log : List Entry) (n : ℕ) → last_round 0 (messages_to log n) ≡ n
unfolding last_round messages_to
last_rounds log zero = refl
last_rounds log (suc n) = last_append 0 (messages_to log n) _

last_out_lem : (r : ℕ) (out : Bool) → last_round r (cond out (Out ∷ []) []) ≡ r
unfolding last_round
last_out_lem r true = refl
last_out_lem r false = refl

-- the last round of a bench's messages is how many rounds it has sent
pub last_sent_lem : (log : List Entry) (n : ℕ) (out : Bool) → last_round 0 (line_of log n out) ≡ n
unfolding line_of
last_sent_lem log n out = last_append 0 (messages_to log n) _ ∙ rw (last_rounds log n) (last_out_lem n out)

bench_is : (k : ℕ) → k < places → is_bench places (suc k) ≡ true
unfolding is_bench
bench_is k h = rw (le-leb 1 (suc k) (omega arith), le-leb (suc k) places (omega arith)) refl

row_line_lem : (t : List Bench) (l : List (List Entry)) (k : ℕ) → k < places → row_line t (suc k) ≡ bench_line (suc k) (run_of t l (suc k))
unfolding row_line bench_line state_word sent_word decision_at run_of run_by bench_of
row_line_lem t l k h = simp (bench_is k h, sub-one, last_sent_lem, fresh_is)

pub row_lines_lem : (t : List Bench) (l : List (List Entry)) (n : ℕ) → n ≤ places → row_lines t n ≡ bench_lines n (run_of t l)
unfolding row_lines bench_lines
row_lines_lem t l zero h = refl
row_lines_lem t l (suc n) h = rw (row_lines_lem t l n (omega arith), row_line_lem t l n (omega arith)) refl

-- ---- no line is longer than 67 bytes

row_short : (t : List Bench) (b : ℕ) → length (row_line t b) ≤ 67
unfolding row_line
row_short t b =
    let w = spelled b (state_of (state_word t b)) (sent_word t b) (decision_at t b) in
    cond_ind (λ (z : List ℕ). length z ≤ 67) (eqb (state_word t b) 0) [] w (λ e. omega arith) (λ e. spelled_short b (state_of (state_word t b)) (sent_word t b) (decision_at t b))

pub rows_short : (t : List Bench) (n : ℕ) → length (row_lines t n) ≤ 67 * n
unfolding row_lines
rows_short t zero = omega arith
rows_short t (suc n) = omega (arith, length-append (row_lines t n) (row_line t (suc n)), rows_short t n, row_short t (suc n))

-- ---- a line written

-- whoever has none of the other states has failed
pub above_failed : (w : ℕ) → (w ≡ 0 → ⊥) → (w ≡ 1 → ⊥) → (w ≡ 2 → ⊥) → (w ≡ 3 → ⊥) → (w ≡ 4 → ⊥) → state_of w ≡ failed
unfolding state_of
above_failed zero h₀ h₁ h₂ h₃ h₄ = absurd (h₀ refl)
above_failed (suc zero) h₀ h₁ h₂ h₃ h₄ = absurd (h₁ refl)
above_failed (suc (suc zero)) h₀ h₁ h₂ h₃ h₄ = absurd (h₂ refl)
above_failed (suc (suc (suc zero))) h₀ h₁ h₂ h₃ h₄ = absurd (h₃ refl)
above_failed (suc (suc (suc (suc zero)))) h₀ h₁ h₂ h₃ h₄ = absurd (h₄ refl)
above_failed (suc (suc (suc (suc (suc n))))) h₀ h₁ h₂ h₃ h₄ = refl

module _ (t : List Bench) (b state : ℕ) (e : state ≡ state_word t b) where
  pub fresh_written : (out : Writer) → state ≡ 0 → Writes out (row_line t b) out
  unfolding row_line
  fresh_written out z = rw (eq-eqb (state_word t b) 0 (sym e ∙ z)) (writes_none out)

  pub row_is : (sent : ℕ) (d : Option SlotNo) → sent ≡ sent_word t b → decision_is d ≡ decision_at t b → (state ≡ 0 → ⊥)
      → row_line t b ≡ spelled b (state_of state) sent (decision_is d)
  unfolding row_line
  row_is sent d es ed ne = rw (← e, ← es, ← ed, ne_eqb state 0 ne) refl

-- ---- the lines written, bench by bench

-- of n benches the lines of those below b are written
pub record Listed (n : ℕ) (first : Writer) (t : List Bench) (out : Writer) (b : ℕ) : Type 0 where
  pub upto : b ≤ n + 1
  pub short : out.at + 67 ≤ first.at + 67 * b
  pub written : Writes first (row_lines t (b - 1)) out

lines_next : (t : List Bench) (b : ℕ) → 1 ≤ b → row_lines t (b + 1 - 1) ≡ row_lines t (b - 1) ++ row_line t b
unfolding row_lines
lines_next t zero h = absurd (omega arith)
lines_next t (suc k) h = let e : suc k + 1 - 1 ≡ suc k = omega arith in let d : suc k - 1 ≡ k = omega arith in rw (e, d) refl

module _ (n : ℕ) (first : Writer) (t : List Bench) where
  pub listed_none : Listed n first t first 1
  unfolding row_lines
  listed_none = record { upto = omega arith; short = omega arith; written = writes_none first }

  module _ (out : Writer) (b : ℕ) (p : Listed n first t out b) where
    pub listed_room : (N : ℕ) → n ≡ N → b ≤ n → first.at + 67 * N ≤ length first.room.now → out.at + 67 ≤ length out.room.now
    listed_room N e h r = omega (arith, p.short, stored_length p.written.stored)

    pub listed_more : 1 ≤ b → b ≤ n → (next : Writer) → Writes out (row_line t b) next → Listed n first t next (b + 1)
    listed_more h u next s =
        record {
          upto = omega arith;
          short = omega (arith, p.short, s.stored.place, row_short t b);
          written = rw (lines_next t b h) (writes_then p.written s);
        }

    pub listed_all : (N : ℕ) → n ≡ N → n < b → Writes first (row_lines t N) out
    listed_all N e h = let q : b - 1 ≡ N = omega (arith, p.upto) in rw q at p.written
