-- What holds of ledger scripts of any length. `ledger_said_of` is what a line reads to, `read_script` what a script reads to, line by line. Assumes nothing.
use Prim.Native.Nat.{ℕ}
use mathlib.Core.Bool.{true}
use mathlib.Core.List.{List}
use mathlib.Core.Path.{◌≡◌}
use lib.ListN.{length}
use native.Mathlib.Omega.{arith}
use Rattle.std.specs.Prelude.{Some, None}
use Rattle.spelling.specs.declared.LedgerStep.{LedgerStep}
use Rattle.spelling.specs.LedgerSpelling.{ledger_step_text, is_scriptable}
use Rattle.spelling.specs.LedgerReading.{ledger_said_of, read_script, read_script_line_of}
use Rattle.spelling.specs.InTurn.{read_all}
use Rattle.spelling.proofs.LineTrip.{all_read, iff_spelled, none_spelled, one_spelled}
use Rattle.spelling.proofs.LedgerLineTrip.{ledger_script}

-- A line reads to a step exactly when it is the spelling of that step and the step can be spelled.
pub reads_iff_spelled : (line : List ℕ) (s : LedgerStep) → (ledger_said_of line ≡ Some s → (line ≡ ledger_step_text s) × (is_scriptable s ≡ true)) × ((line ≡ ledger_step_text s) × (is_scriptable s ≡ true) → ledger_said_of line ≡ Some s)
unfolding ledger_said_of
reads_iff_spelled = iff_spelled ledger_script

-- A line that is the spelling of no such step is malformed.
pub malformed_else : (line : List ℕ) → ((s : LedgerStep) → is_scriptable s ≡ true → line ≡ ledger_step_text s → ⊥) → ledger_said_of line ≡ None
unfolding ledger_said_of
malformed_else = none_spelled ledger_script

-- No two steps that can be spelled have one spelling.
pub spelled_once : (s t : LedgerStep) → is_scriptable s ≡ true → is_scriptable t ≡ true → ledger_step_text s ≡ ledger_step_text t → s ≡ t
spelled_once = one_spelled ledger_script

-- The script's `read_line` from place 0 on, each time from where the line before ended, gives the script's lines, and as many calls as it has bytes suffice.
pub reads_in_turn : (text : List ℕ) → read_all (read_script_line_of text) (length text) 0 ≡ read_script text
unfolding read_script read_script_line_of
reads_in_turn text = all_read ledger_said_of (length text) text 0 (omega arith)
