-- `ledger::Ledger::row_of` meets its contract: by where the number stands, below the first row or not.
use mathlib.Core.Path.{◌≡◌, refl}
use Prim.Native.Nat.{ℕ, zero, suc, ◌<◌}
use mathlib.Core.List.{List}
use native.Mathlib.Omega.{arith}
use Rattle.book.specs.Book.{unknown}
use Rattle.senders.specs.declared.SenderRow.{SenderRow}
use Rattle.senders.specs.Kept.{rows_of}
use Rattle.senders.specs.Rows.{row_is}
use Rattle.ledger.proofs.Ledger.row_of.Goals as goal

-- below the first sender nobody is known
rows_below : (j : ℕ) (rows : List SenderRow) (s : ℕ) → s < 1 → unknown ≡ rows_of j rows s
unfolding rows_of
rows_below j rows zero h = refl
rows_below j rows (suc i) h = absurd (omega arith)

pub returns-in-None : goal.returns-in-None
unfolding row_is
returns-in-None c = let out = c.in-None.ensures in rows_below _ _ _ (omega arith)
