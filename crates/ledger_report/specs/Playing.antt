-- What playing a line of a ledger script does. This file need not be believed: it serves functions within the crate.
use Rattle.std.specs.Prelude.{◌≡◌, ℕ, Bool, true, false, ◌&&◌, List, eqb, length, Option, Some, None, Result, Ok, Err}
use Rattle.kinds.specs.declared.Refusal.{Refusal}
use Rattle.kinds.specs.declared.Size.{Size}
use Rattle.kinds.specs.Refusals.{answer_of}
use Rattle.kinds.specs.Sizes.{benches_of}
use Rattle.ledger.specs.declared.Ledger.{Ledger}
use Rattle.ledger.specs.Seen.{book_of}
use Rattle.ledger.specs.Promises.{Tells, laid}
use Rattle.spelling.specs.declared.LedgerStep.{LedgerStep}
use Rattle.spelling.specs.LedgerSteps.{step_is}
use Rattle.reports.specs.LedgerReport.{ledger_answer_to, hands_out}

-- whether an answer is that of a hand-out that is done, and how many tags it wrote
abbrev pub handed_of : Result (Option ℕ) Refusal → Bool
handed_of (Ok None) = false
handed_of (Ok (Some k)) = true
handed_of (Err e) = false

abbrev pub count_of : Result (Option ℕ) Refusal → ℕ
count_of (Ok None) = 0
count_of (Ok (Some k)) = k
count_of (Err e) = 0

-- the line's number r, and the ledger after it: a step keeps the ledger's promise, and a malformed line changes nothing
unfoldable pub LineTells : Size → Ledger → Option LedgerStep → ℕ → Ledger → Type 0
LineTells size x (Some s) r x' = Tells (benches_of size) x (step_is s) r x'
LineTells size x None r x' = (r ≡ 20) × (x' ≡ x)

-- a line played: what it tells, and its tags at the front of the buffer
pub record Plays (size : Size) (x : Ledger) (out : List ℕ) (line : Option LedgerStep) (r : Result (Option ℕ) Refusal) (x' : Ledger) (out' : List ℕ) : Type 0 where
  pub tells : LineTells size x line (answer_of r) x'
  pub handed_is : handed_of r ≡ (eqb (answer_of r) 0 && hands_out line)
  pub count_is : count_of r ≡ length (ledger_answer_to size (book_of x) line).tags
  pub out_is : out' ≡ laid (ledger_answer_to size (book_of x) line).tags out
