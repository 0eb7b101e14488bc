-- `ledger::Ledger::new` meets its contract: nobody has joined, and nothing is held.
use mathlib.Core.Path.{refl}
use lib.ListN.{replicate}
use Rattle.book.specs.Book.{new_book, unknown}
use Rattle.kinds.specs.Sizes.{places}
use Rattle.senders.specs.Kept.{kept_of}
use Rattle.senders.specs.Nobody.{nobody}
use Rattle.ledger.specs.Seen.{held_in, book_of}
use Rattle.ledger.specs.Promises.{cursor_of}
use Rattle.senders.proofs.Seating.{rows_new}
use Rattle.ledger.proofs.Ledger.new.Goals as goal

pub returns-clause-begins : goal.returns-clause-begins
unfolding book_of held_in new_book cursor_of nobody
returns-clause-begins c = rw (c.new.ensures, c.nobody.ensures) record { book_is = rw (rows_new (replicate places (kept_of unknown))); cursor_is = refl; senders_are = refl }
