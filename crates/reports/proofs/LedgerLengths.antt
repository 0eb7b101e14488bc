-- How long a report can be: never 0 bytes, and for 16 senders at most 1,377,401. No line of a script gives more than 21 bytes of report for each of its own bytes
-- and its end: an empty line has none but its end, and a step's line is long enough to pay for its answer and for a tag to come. Assumes nothing.
use Prim.Native.Nat.{ℕ, suc, ◌+◌, ◌*◌, ◌≤◌, ◌<◌}
use native.Mathlib.Omega.{arith}
use mathlib.Core.Bool.{◌&&◌}
use mathlib.Core.List.{List, [], ◌∷◌, map}
use mathlib.Core.Path.{◌≡◌, refl}
use lib.Dec.{eqb}
use lib.ListN.{length, length-append}
use Rattle.std.specs.Prelude.{Option, Some, None}
use Rattle.kinds.specs.declared.Size.{Size}
use Rattle.kinds.specs.declared.Size.TheVariants.{Sixteen}
use Rattle.kinds.specs.Sizes.{benches_of}
use Rattle.spelling.specs.Lines.{lines_of}
use Rattle.spelling.proofs.LineBytes.{bytes_in, lines_few, lines_bytes}
use Rattle.book.specs.Book.{Book, new_book, answer, step}
use Rattle.book.proofs.Kept.{Kept, kept_new, kept_step}
use Rattle.spelling.specs.declared.LedgerStep.{LedgerStep}
use Rattle.spelling.specs.declared.LedgerStep.TheVariants.{Join, Sweep, Close, End, HandOut}
use Rattle.spelling.specs.LedgerSpelling.{ledger_step_text}
use Rattle.spelling.specs.LedgerReading.{ledger_said_of, read_script}
use Rattle.spelling.proofs.LedgerTheorems.{reads_iff_spelled}
use Rattle.spelling.specs.LedgerSteps.{step_is, is_hand_out}
use Rattle.reports.specs.LedgerReport.{ledger_answer_to, book_after, hands_out, ledger_line, ledger_lines, ledger_refused, last_lines, ledger_report_for, ledger_report_of}
use Rattle.reports.specs.Reported.{longest, number_for}
use Rattle.reports.proofs.Settled.{never_22, room_enough}
use Rattle.reports.proofs.LedgerLines.{line_short, malformed_short, last_short, last_some}
use Rattle.reports.proofs.Tags.{step_pays}

-- ---- a step's line has at least 8 bytes

step_long : (s : LedgerStep) → 8 ≤ length (ledger_step_text s)
unfolding ledger_step_text
step_long (Join s f) = omega arith
step_long (Sweep s t) = omega arith
step_long (Close s) = omega arith
step_long (End s e) = omega arith
step_long (HandOut r) = omega arith

does_long : (l : List ℕ) (s : LedgerStep) → ledger_said_of l ≡ Some s → 8 ≤ length l
does_long l s e = rw ((reads_iff_spelled l s).0 e).0 (step_long s)

-- ---- the lines of the answers

module _ (size : Size) where
  abbrev n : ℕ
  n = benches_of size

  pub kept_line : (b : Book) → Kept n b → (x : Option LedgerStep) → Kept n (ledger_answer_to size b x).book
  unfolding ledger_answer_to answer
  kept_line b h (Some s) = kept_step n b h (step_is s)
  kept_line b h None = h

  -- the line of the answer to x
  abbrev pub line_for : ℕ → Book → Option LedgerStep → List ℕ
  line_for k b x = ledger_line k (ledger_answer_to size b x).number (eqb (ledger_answer_to size b x).number 0 && hands_out x) (ledger_answer_to size b x).tags

  -- a line pays for its answer, and for each sweep that is then held a tag
  line_pays : (k : ℕ) (b : Book) (l : List ℕ) (x : Option LedgerStep) → Kept n b → k < 100000 → ledger_said_of l ≡ x
      → length (line_for k b x) + 11 * length (ledger_answer_to size b x).book.held ≤ 21 * suc (length l) + 11 * length b.held
  unfolding ledger_answer_to answer hands_out
  line_pays k b l (Some s) h g e =
      let a = step n b (step_is s) in
      omega (arith, line_short k a.number (eqb a.number 0 && is_hand_out s) a.tags, step_pays n b h (step_is s), does_long l s e)
  line_pays k b l None h g e = omega (arith, malformed_short k g)

  lines_pay : (k : ℕ) (b : Book) (ls : List (List ℕ)) → Kept n b → k + length ls < 100000
      → length (ledger_lines size (suc k) b (map ledger_said_of ls)) ≤ 21 * bytes_in ls + 11 * length b.held
  unfolding ledger_lines bytes_in
  lines_pay k b [] h g = omega arith
  lines_pay k b (l ∷ ls) h g =
      let after = (ledger_answer_to size b (ledger_said_of l)).book in
      omega (
        arith,
        length-append (line_for (suc k) b (ledger_said_of l)) (ledger_lines size (suc (suc k)) after (map ledger_said_of ls)),
        line_pays (suc k) b l (ledger_said_of l) h (omega arith) refl,
        lines_pay (suc k) after ls (kept_line b h (ledger_said_of l)) (omega arith),
      )

-- ---- the report

module _ (size : Size) (text : List ℕ) where
  abbrev final : Book
  final = book_after size (new_book 0) (read_script text)

  abbrev refused : ℕ
  refused = ledger_refused size (new_book 0) (read_script text)

  parts_length : length (ledger_report_of size text) ≡ length (ledger_lines size 1 (new_book 0) (read_script text)) + length (last_lines size final (length (read_script text)) refused)
  unfolding ledger_report_of ledger_report_for
  parts_length = simp length-append

  pub ledger_some : 1 ≤ length (ledger_report_of size text)
  ledger_some = omega (arith, parts_length, last_some size final (length (read_script text)) refused)

  answers_short : length text ≤ longest → length (ledger_lines size 1 (new_book 0) (read_script text)) ≤ 21 * suc longest
  unfolding read_script new_book
  answers_short h =
      omega (arith, lines_pay size 0 (new_book 0) (lines_of text) (kept_new (benches_of size) 0) (omega (arith, lines_few text)), lines_bytes text)

  ledger_upto : length text ≤ longest → length (ledger_report_of size text) ≤ 21 * suc longest + (68 + 66 * benches_of size)
  ledger_upto h = omega (arith, parts_length, answers_short h, last_short size final (length (read_script text)) refused)

-- ---- for 16 senders

module _ (text : List ℕ) where
  pub ledger_short : length text ≤ longest → length (ledger_report_of Sixteen text) ≤ 1377401
  unfolding benches_of
  ledger_short h = omega (arith, ledger_upto Sixteen text h)

  pub ledger_room : (room : List ℕ) → 1377401 ≤ length room → number_for text (ledger_report_of Sixteen text) room ≡ 22 → ⊥
  ledger_room room g = never_22 text (ledger_report_of Sixteen text) room (λ h. omega (arith, ledger_short h))

  pub ledger_room_enough : (room : List ℕ) → length text ≤ longest → 1377401 ≤ length room → number_for text (ledger_report_of Sixteen text) room ≡ 0
  ledger_room_enough room h g = room_enough text (ledger_report_of Sixteen text) room h (omega (arith, ledger_short h))
