-- The senders where nobody has joined. This file is to be believed.
use Rattle.std.specs.Prelude.{replicate}
use Rattle.kinds.specs.Sizes.{places}
use Rattle.book.specs.Book.{unknown}
use Rattle.senders.specs.declared.table.Senders.{Senders}
use Rattle.senders.specs.Kept.{kept_of}

unfoldable pub nobody : Senders
nobody = record { joined = 0; rows = replicate places (kept_of unknown) }
