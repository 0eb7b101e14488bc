-- A line of a script as it is read where it stands. Assumes nothing.
use Prim.Native.Nat.{ℕ, ◌≤◌, ◌<◌}
use mathlib.Core.List.{List}
use mathlib.Core.Path.{◌≡◌, refl, ◌∙◌}
use lib.ListN.{length}
use borrow.Author.Tests.{lt-ltb, le-ltb}
use Rattle.std.specs.Prelude.{Option, Some, None}
use Rattle.spelling.specs.declared.LedgerStep.{LedgerStep}
use Rattle.spelling.specs.Fields.{Found, line_from, ended, read_from}
use Rattle.spelling.specs.LedgerReading.{ledger_step_at, ledger_said_of, read_script_line_of}
use Rattle.spelling.proofs.LineTrip.{line_read}
use Rattle.spelling.proofs.LedgerLineTrip.{ledger_script}

module _ (text : List ℕ) (at : ℕ) where
  line_is_read : read_from ledger_step_at text at ≡ read_script_line_of text at
  unfolding read_script_line_of ledger_said_of
  line_is_read = line_read ledger_script text at

  pub line_is : at < length text → {found : Found LedgerStep} → found ≡ ledger_step_at text at → {said : Option LedgerStep × ℕ} → said ≡ ended text at found → Some said ≡ read_script_line_of text at
  unfolding read_from
  line_is h e q = rw (q, e) (rw (lt-ltb at (length text) h) refl ∙ line_is_read)

  pub line_none : length text ≤ at → None ≡ read_script_line_of text at
  unfolding read_script_line_of line_from
  line_none h = rw (le-ltb at (length text) h) refl
