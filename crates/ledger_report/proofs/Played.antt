-- A script played line by line: what is written so far, and what is still to come. Assumes nothing.
use Prim.Native.Nat.{ℕ, suc, ◌+◌, ◌-◌, ◌≤◌, ◌<◌}
use native.Mathlib.Omega.{arith}
use native.Mathlib.Nat.{add-zero, zero-add}
use mathlib.Core.List.{List, [], ◌∷◌, ◌++◌, append_assoc, append-nil}
use mathlib.Core.Path.{◌≡◌, refl, sym, ap, ◌∙◌}
use lib.ListN.{length, take, drop, length-append}
use lib.Seq.{take_at}
use Rattle.std.specs.Prelude.{Option, Some, None, Result, Ok, Err}
use Rattle.std.specs.Result.{is_err}
use Rattle.std.specs.Int.{from_bool}
use Rattle.kinds.specs.declared.Refusal.{Refusal}
use Rattle.kinds.specs.Refusals.{number_of, answer_of}
use borrow.Author.Tests.{ne_eqb}
use Rattle.kinds.proofs.Refusals.{never_done}
use Rattle.kinds.specs.declared.Size.{Size}
use Rattle.kinds.specs.Sizes.{benches_of}
use Rattle.book.specs.Book.{most_held, Book, new_book, answer}
use Rattle.spelling.specs.Stored.{Stored}
use Rattle.spelling.specs.Answers.{refusal_of}
use Rattle.spelling.specs.declared.LedgerStep.{LedgerStep}
use Rattle.spelling.specs.LedgerReading.{ledger_said_of, read_script, read_script_line_of}
use Rattle.spelling.specs.LedgerSteps.{step_is}
use Rattle.room.specs.declared.writer.Writer.{Writer}
use Rattle.room.specs.Writes.{Writes, Holds}
use Rattle.room.proofs.Writers.{Going, going_start, going_step, going_holds, going_end}
use Rattle.spelling.proofs.Answers.{refusal_one}
use Rattle.spelling.proofs.LedgerLines.{few_tags}
use Rattle.spelling.proofs.LineTrip.{Reads as Line, line_reads_on, line_ends}
use Rattle.ledger.specs.declared.Ledger.{Ledger}
use Rattle.ledger.specs.Seen.{held_by, book_of}
use Rattle.ledger.specs.Promises.{laid, Begins}
use Rattle.ledger.proofs.Made.{Made, made_new, made_step}
use Rattle.reports.specs.LedgerReport.{ledger_answer_to, book_after, ledger_line, ledger_lines, ledger_refused, last_lines, ledger_report_for, ledger_report_of}
use Rattle.reports.proofs.LedgerLengths.{line_for}
use Rattle.ledger_report.specs.Playing.{handed_of, count_of, LineTells, Plays}

-- ---- the report from a line on: k lines were played, r of them refused

abbrev refusal : Size → Book → Option LedgerStep → ℕ
refusal size b x = refusal_of (ledger_answer_to size b x).number

unfoldable pub rest_of : Size → ℕ → ℕ → Book → List (Option LedgerStep) → List ℕ
rest_of size k r b [] = last_lines size b k r
rest_of size k r b (x ∷ l) = line_for size (k + 1) b x ++ rest_of size (k + 1) (r + refusal size b x) (ledger_answer_to size b x).book l

rest_is : (size : Size) (k r : ℕ) (b : Book) (l : List (Option LedgerStep)) → rest_of size k r b l ≡ ledger_lines size (suc k) b l ++ last_lines size (book_after size b l) (k + length l) (r + ledger_refused size b l)
unfolding rest_of ledger_lines book_after ledger_refused
rest_is size k r b [] = rw (add-zero, add-zero) refl
rest_is size k r b (x ∷ l) =
    let c = (ledger_answer_to size b x).book in
    let n : k + 1 + length l ≡ k + suc (length l) = omega arith in
    let m : r + refusal size b x + ledger_refused size c l ≡ r + (refusal size b x + ledger_refused size c l) = omega arith in
    let s : k + 1 ≡ suc k = omega arith in
    ap (λ (z : List ℕ). line_for size (k + 1) b x ++ z) (rest_is size (k + 1) (r + refusal size b x) c l)
    ∙ rw (n, m, s) (sym (append_assoc (line_for size (suc k) b x) (ledger_lines size (suc (suc k)) c l) _))

report_rest : (size : Size) (text : List ℕ) → ledger_report_of size text ≡ rest_of size 0 0 (new_book 0) (read_script text)
unfolding ledger_report_of ledger_report_for
report_rest size text = sym (rest_is size 0 0 (new_book 0) (read_script text) ∙ rw (zero-add, zero-add) refl)

-- ---- a line played

module _ (size : Size) (x : Ledger) where
  number_told : (y : Option LedgerStep) (r : ℕ) (x' : Ledger) → LineTells size x y r x' → r ≡ (ledger_answer_to size (book_of x) y).number
  unfolding LineTells ledger_answer_to answer
  number_told (Some s) r x' t = t.number_is
  number_told None r x' t = t.0

  book_told : (y : Option LedgerStep) (r : ℕ) (x' : Ledger) → LineTells size x y r x' → book_of x' ≡ (ledger_answer_to size (book_of x) y).book
  unfolding LineTells ledger_answer_to answer
  book_told (Some s) r x' t = t.book_is
  book_told None r x' t = ap book_of t.1

  made_told : (y : Option LedgerStep) (r : ℕ) (x' : Ledger) → LineTells size x y r x' → Made (benches_of size) x → Made (benches_of size) x'
  unfolding LineTells
  made_told (Some s) r x' t m = made_step (benches_of size) x (step_is s) r x' m t
  made_told None r x' t m = rw t.1 m

  few_told : (y : Option LedgerStep) → length (ledger_answer_to size (book_of x) y).tags ≤ most_held
  unfolding ledger_answer_to answer
  few_told (Some s) = few_tags (benches_of size) (book_of x) s
  few_told None = omega arith

-- whether a line is refused, as a number
refused_one : (r : Result (Option ℕ) Refusal) → from_bool (is_err r) ≡ refusal_of (answer_of r)
refused_one (Ok k) = refl
refused_one (Err e) = rw (ne_eqb (number_of e) 0 (never_done e)) refl

-- the tags of a hand-out stand at the buffer's front

module _ (size : Size) (x : Ledger) (tags : List ℕ) (y : Option LedgerStep) (r : Result (Option ℕ) Refusal) (x' : Ledger) (tags' : List ℕ) (q : Plays size x tags y r x' tags') where
  abbrev given : List ℕ
  given = (ledger_answer_to size (book_of x) y).tags

  pub count_inside : count_of r ≤ length tags'
  unfolding laid
  count_inside = omega (arith, q.count_is, ap length q.out_is, length-append given (drop (length given) tags))

  pub count_few : count_of r ≤ most_held
  count_few = omega (arith, q.count_is, few_told size x y)

  front_is : take (count_of r) tags' ≡ given
  unfolding laid
  front_is = rw (q.out_is, q.count_is) (take_at given _ (length given) refl)

-- ---- the line at a place

module _ (text : List ℕ) (at : ℕ) where
  -- the line y stands at a place, and the next begins at `behind`
  abbrev Reads : Option LedgerStep → ℕ → Type 0
  Reads y behind = Line ledger_said_of text at y behind

  line_here : (y : Option LedgerStep) (behind : ℕ) → read_script_line_of text at ≡ Some (y, behind) → Reads y behind
  unfolding read_script_line_of
  line_here y behind e = line_reads_on ledger_said_of text at y behind e

  read_on : (y : Option LedgerStep) (behind : ℕ) → Reads y behind → read_script (drop at text) ≡ y ∷ read_script (drop behind text)
  unfolding read_script
  read_on y behind d = d.lines

  read_ends : read_script_line_of text at ≡ None → read_script (drop at text) ≡ []
  unfolding read_script_line_of read_script
  read_ends e = line_ends ledger_said_of text at e

-- ---- the script, line by line

-- the first `lines` lines, which stand before the place, are played, `refused` of them were refused, and their answers are written; the rest
-- of the report is that of the other lines, played on from the ledger x
pub record Playing (size : Size) (text : List ℕ) (first : Writer) (x : Ledger) (out : Writer) (at lines refused : ℕ) : Type 0 where
  pub within : at ≤ length text
  pub few : lines ≤ at
  pub fewer : refused ≤ lines
  pub made : Made (benches_of size) x
  pub going : Going first (ledger_report_of size text) out (rest_of size lines refused (book_of x) (read_script (drop at text)))

module _ (size : Size) (text : List ℕ) (first : Writer) where
  pub playing_none : (x : Ledger) → Begins 0 x → Playing size text first x first 0 0 0
  playing_none x p =
      record {
        within = omega arith;
        few = omega arith;
        fewer = omega arith;
        made = made_new (benches_of size) 0 x p;
        going = rw (p.book_is, ← report_rest size text) (going_start first (ledger_report_of size text));
      }

  module _ (x : Ledger) (out : Writer) (at lines refused : ℕ) (p : Playing size text first x out at lines refused) where
    -- the line y stands at the place, and the next begins at `behind`
    module _ (y : Option LedgerStep) (behind : ℕ) (e : read_script_line_of text at ≡ Some (y, behind)) where
      abbrev now : Book
      now = book_of x

      here : Going first (ledger_report_of size text) out
          (line_for size (lines + 1) now y ++ rest_of size (lines + 1) (refused + refusal size now y) (ledger_answer_to size now y).book (read_script (drop behind text)))
      unfolding rest_of
      here = rw (read_on text at y behind (line_here text at y behind e)) at p.going

      -- less of the text is left
      pub playing_less : length text - behind < length text - at
      playing_less = let d = line_here text at y behind e in omega arith

      -- played on to a ledger that stands for the book after the line
      module _ (tags : List ℕ) (r : Result (Option ℕ) Refusal) (x' : Ledger) (tags' : List ℕ) (q : Plays size x tags y r x' tags') where
        line_is : line_for size (lines + 1) now y ≡ ledger_line (lines + 1) (answer_of r) (handed_of r) (take (count_of r) tags')
        line_is = rw (q.handed_is, front_is size x tags y r x' tags' q, number_told size x y (answer_of r) x' q.tells) refl

        pub playing_room : Holds first (ledger_report_of size text) → Holds out (ledger_line (lines + 1) (answer_of r) (handed_of r) (take (count_of r) tags'))
        playing_room z = rw (← line_is) (going_holds (line_for size (lines + 1) now y) _ here z)

        pub playing_more : (n : ℕ) → n ≡ from_bool (is_err r) → (next : Writer)
            → Writes out (ledger_line (lines + 1) (answer_of r) (handed_of r) (take (count_of r) tags')) next → Playing size text first x' next behind (lines + 1) (refused + n)
        playing_more n is next s =
            let d = line_here text at y behind e in
            let told = q.tells in
            let en = is ∙ refused_one r in
            let written : Writes out (line_for size (lines + 1) now y) next = rw line_is s in
            let same : n ≡ refusal size now y = en ∙ ap refusal_of (number_told size x y (answer_of r) x' told) in
            record {
              within = d.within;
              few = omega (arith, p.few, d.above);
              fewer = omega (arith, p.fewer, refusal_one (answer_of r) n en);
              made = made_told size x y (answer_of r) x' told p.made;
              going = rw (book_told size x y (answer_of r) x' told, same) (going_step _ here written);
            }

    -- the end
    module _ (h : read_script_line_of text at ≡ None) where
      last_is : rest_of size lines refused (book_of x) (read_script (drop at text)) ≡ last_lines size (book_of x) lines refused
      unfolding rest_of
      last_is = rw (read_ends text at h) refl

      last : Going first (ledger_report_of size text) out (last_lines size (book_of x) lines refused ++ [])
      last = rw append-nil (rw last_is at p.going)

      pub held_is : held_by x ≡ length (book_of x).held
      held_is = p.made.count_is

      pub end_room : Holds first (ledger_report_of size text) → Holds out (last_lines size (book_of x) lines refused)
      end_room r = going_holds (last_lines size (book_of x) lines refused) [] last r

      pub playing_all : {end : Writer} {after : List ℕ} → Writes out (last_lines size (book_of x) lines refused) end → after ≡ end.room.now
          → Stored first.room.now first.at (ledger_report_of size text) end.at after
      playing_all s e = rw e (going_end (going_step [] last s)).stored
