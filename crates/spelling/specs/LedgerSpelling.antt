-- How the steps of a ledger script are spelled, and which of them can be. This file is to be believed: it is docs/LEDGER-SCRIPT.md's table of
-- lines. A text is the list of its bytes.
use Rattle.std.specs.Prelude.{ℕ, Bool, ◌&&◌, List, ◌++◌, leb}
use Rattle.spelling.specs.Numbers.{ascii, digits}
use Rattle.spelling.specs.Spelling.{is_small}
use Rattle.spelling.specs.declared.LedgerStep.{LedgerStep}
use Rattle.spelling.specs.declared.LedgerStep.TheVariants.{Join, Sweep, Close, End, HandOut}

-- ---- Steps: keys in this order, one space between

unfoldable pub ledger_step_text : LedgerStep → List ℕ
ledger_step_text (Join s f) = ascii "step=join sender=" ++ (digits s.0 ++ (ascii " slot=" ++ digits f.0))
ledger_step_text (Sweep s t) = ascii "step=sweep sender=" ++ (digits s.0 ++ (ascii " tag=" ++ digits t))
ledger_step_text (Close s) = ascii "step=close sender=" ++ digits s.0
ledger_step_text (End s e) = ascii "step=end sender=" ++ (digits s.0 ++ (ascii " slot=" ++ digits e.0))
ledger_step_text (HandOut r) = ascii "step=handout room=" ++ digits r

-- ---- Scriptable: no number above 99,999, and no tag above 4,294,967,295

abbrev pub most_tag : ℕ
most_tag = 4294967295

abbrev pub is_tag : ℕ → Bool
is_tag t = leb t most_tag

unfoldable pub is_scriptable : LedgerStep → Bool
is_scriptable (Join s f) = is_small s.0 && is_small f.0
is_scriptable (Sweep s t) = is_small s.0 && is_tag t
is_scriptable (Close s) = is_small s.0
is_scriptable (End s e) = is_small s.0 && is_small e.0
is_scriptable (HandOut r) = is_small r
