-- `put_bytes` meets its contract. With room what fits is the bytes, without it nothing. Assumes nothing.
use Rattle.std.proofs.Common.{refl}
use Rattle.room.proofs.Writers.{put_none, put_all}
use Rattle.room.proofs.writer.Writer.put_bytes.Goals as goal

pub returns-else-has_room : goal.returns-else-has_room
returns-else-has_room c = put_none _ _ _ _ refl c.has_room.ensures c.if-has_room.false

pub returns-then-has_room : goal.returns-then-has_room
returns-then-has_room c = put_all _ _ _ _ refl c.has_room.ensures c.if-has_room.true (λ _. c.store_bytes.ensures)
