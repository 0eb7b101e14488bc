-- `senders::table::Senders::nobody` meets its contract: what is kept of no row.
use mathlib.Core.Path.{◌≡◌, refl}
use Rattle.book.specs.Book.{unknown}
use Rattle.senders.specs.Rows.{row_is}
use Rattle.senders.specs.Kept.{kept_of}
use Rattle.senders.specs.Nobody.{nobody}
use Rattle.senders.proofs.table.Senders.nobody.Goals as goal

pub returns : goal.returns
unfolding nobody row_is
returns c = let kept : c.from.result ≡ kept_of unknown = c.from.ensures in rw kept refl
