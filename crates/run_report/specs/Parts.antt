-- Parts of the report, as the code makes them. This file need not be believed: it serves functions within the crate.
use Rattle.bench.specs.declared.Bench.{Bench}
use Rattle.bench.specs.declared.Entry.{Entry}
use Rattle.std.specs.Prelude.{ℕ, zero, suc, ◌≤◌, cond, List, [], ◌∷◌, ◌++◌, ◌≡◌, eqb, length}
use Rattle.published.specs.Rounds.{new_run}
use Rattle.kinds.specs.Sizes.{benches_of}
use Rattle.kinds.specs.declared.Size.{Size}
use Rattle.tables.specs.Runs.{state_of, run_of}
use Rattle.reads.specs.Reads.{state_word, sent_word, decision_at}
use Rattle.spelling.specs.Numbers.{ascii, digits}
use Rattle.spelling.specs.Text.{read_text}
use Rattle.reports.specs.RunReport.{answers_from, run_after, state_text, value_text}

-- the answers are those of the text's lines, and the tables t and l stand for the run after them
pub record Played (z : Size) (text : List ℕ) (t : List Bench) (l : List (List Entry)) (answers : List ℕ) : Type 0 where
  pub few : length answers ≤ length text
  pub answers_are : answers ≡ answers_from z new_run (read_text (benches_of z) text)
  pub run_is : run_of t l ≡ run_after z text

-- a bench's line, by what is read of the table of benches
unfoldable pub row_line : List Bench → ℕ → List ℕ
row_line t b =
    cond (eqb (state_word t b) 0) []
    ((ascii "bench=" ++ digits b) ++ (ascii " state=" ++ (state_text (state_of (state_word t b)) ++ ((ascii " round=" ++ digits (sent_word t b)) ++ (ascii " value=" ++ (value_text (decision_at t b) ++ (10 ∷ [])))))))

unfoldable pub row_lines : List Bench → ℕ → List ℕ
row_lines t zero = []
row_lines t (suc n) = row_lines t n ++ row_line t (suc n)
