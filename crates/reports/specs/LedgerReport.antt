-- The report of a ledger script, as docs/LEDGER-SCRIPT.md says under 'What is printed': how lines are answered, and what is printed of the
-- answers and of the book. This file is to be believed. The book is that of crate `book`, for as many senders as its size says.
use Rattle.std.specs.Prelude.{ℕ, zero, suc, ◌+◌, Bool, true, false, ◌&&◌, List, [], ◌∷◌, ◌++◌, eqb, length, Option, Some, None}
use Rattle.spelling.specs.Numbers.{ascii, digits}
use Rattle.spelling.specs.Answers.{answer_text, totals, refusal_of}
use Rattle.kinds.specs.declared.Size.{Size}
use Rattle.kinds.specs.Sizes.{benches_of}
use Rattle.book.specs.Book.{Row, unknown, joined, ended, Book, new_book, Answer, answer, step}
use Rattle.spelling.specs.declared.LedgerStep.{LedgerStep}
use Rattle.spelling.specs.LedgerReading.{read_script}
use Rattle.spelling.specs.LedgerSteps.{step_is, is_hand_out}

-- ---- How a script is played: a malformed line changes nothing, and reading goes on

unfoldable pub ledger_answer_to : Size → Book → Option LedgerStep → Answer
ledger_answer_to size b (Some s) = step (benches_of size) b (step_is s)
ledger_answer_to size b None = answer 20 [] b

unfoldable pub book_after : Size → Book → List (Option LedgerStep) → Book
book_after size b [] = b
book_after size b (x ∷ l) = book_after size (ledger_answer_to size b x).book l

-- ---- One line for each line of the script: its number from 1, the answer; of a hand-out that is done the count of tags, and the tags, if any

unfoldable pub hands_out : Option LedgerStep → Bool
hands_out (Some s) = is_hand_out s
hands_out None = false

unfoldable pub other_tags : List ℕ → List ℕ
other_tags [] = []
other_tags (t ∷ l) = ascii "," ++ (digits t ++ other_tags l)

unfoldable pub tags_text : List ℕ → List ℕ
tags_text [] = []
tags_text (t ∷ l) = ascii " tags=" ++ (digits t ++ other_tags l)

unfoldable pub handed_text : Bool → List ℕ → List ℕ
handed_text true tags = ascii " count=" ++ (digits (length tags) ++ tags_text tags)
handed_text false tags = []

unfoldable pub ledger_line : ℕ → ℕ → Bool → List ℕ → List ℕ
ledger_line k a handed tags = answer_text k a ++ (handed_text handed tags ++ (10 ∷ []))

unfoldable pub ledger_lines : Size → ℕ → Book → List (Option LedgerStep) → List ℕ
ledger_lines size k b [] = []
ledger_lines size k b (x ∷ l) =
    ledger_line k (ledger_answer_to size b x).number (eqb (ledger_answer_to size b x).number 0 && hands_out x) (ledger_answer_to size b x).tags
    ++ ledger_lines size (suc k) (ledger_answer_to size b x).book l

-- ---- One line for each sender that has joined: its first slot, its open slot, the slot at which it ended or `none`

unfoldable pub slots_text : ℕ → ℕ → ℕ → List ℕ
slots_text s f o = ascii "sender=" ++ (digits s ++ (ascii " first=" ++ (digits f ++ (ascii " open=" ++ digits o))))

unfoldable pub sender_line : ℕ → Row → List ℕ
sender_line s unknown = []
sender_line s (joined f o) = slots_text s f o ++ (ascii " end=none" ++ (10 ∷ []))
sender_line s (ended f o e) = slots_text s f o ++ (ascii " end=" ++ (digits e ++ (10 ∷ [])))

-- in rising number
unfoldable pub sender_lines : ℕ → (ℕ → Row) → List ℕ
sender_lines zero rows = []
sender_lines (suc n) rows = sender_lines n rows ++ sender_line (suc n) (rows (suc n))

-- ---- The next slot to hand out, and the number of sweeps held

unfoldable pub cursor_line : ℕ → ℕ → List ℕ
cursor_line next held = ascii "next=" ++ (digits next ++ (ascii " held=" ++ (digits held ++ (10 ∷ []))))

-- ---- The number of lines not answered 0

unfoldable pub ledger_refused : Size → Book → List (Option LedgerStep) → ℕ
ledger_refused size b [] = 0
ledger_refused size b (x ∷ l) = refusal_of (ledger_answer_to size b x).number + ledger_refused size (ledger_answer_to size b x).book l

-- ---- The report

-- what stands behind the answers' lines
unfoldable pub last_lines : Size → Book → ℕ → ℕ → List ℕ
last_lines size b lines refused = sender_lines (benches_of size) b.rows ++ (cursor_line b.next (length b.held) ++ totals lines refused)

unfoldable pub ledger_report_for : Size → Book → List (Option LedgerStep) → List ℕ
ledger_report_for size b l = ledger_lines size 1 b l ++ last_lines size (book_after size b l) (length l) (ledger_refused size b l)

-- a script is played on a new ledger
unfoldable pub ledger_report_of : Size → List ℕ → List ℕ
ledger_report_of size text = ledger_report_for size (new_book 0) (read_script text)
