-- Which step of the book each step of a ledger script stands for. This file is to be believed.
use Rattle.std.specs.Prelude.{min, Bool, true, false}
use Rattle.book.specs.Book as book
use Rattle.spelling.specs.declared.LedgerStep.{LedgerStep}
use Rattle.spelling.specs.declared.LedgerStep.TheVariants.{Join, Sweep, Close, End, HandOut}

-- the ledger's step; a receiving buffer of more places than sweeps can be held counts as one of that many
unfoldable pub step_is : LedgerStep → book.Step
step_is (Join s f) = book.join s.0 f.0
step_is (Sweep s t) = book.sweep s.0 t
step_is (Close s) = book.close s.0
step_is (End s e) = book.end s.0 e.0
step_is (HandOut r) = book.hand_out (min r book.most_held)

unfoldable pub is_hand_out : LedgerStep → Bool
is_hand_out (Join s f) = false
is_hand_out (Sweep s t) = false
is_hand_out (Close s) = false
is_hand_out (End s e) = false
is_hand_out (HandOut r) = true
