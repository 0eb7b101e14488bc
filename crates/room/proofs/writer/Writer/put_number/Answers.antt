-- `put_number` meets its contract. With room what fits is the number, without it nothing. Assumes nothing.
use Rattle.room.proofs.Writers.{put_none, put_all}
use Rattle.room.proofs.writer.Writer.put_number.Goals as goal

pub returns-else-has_room : goal.returns-else-has_room
returns-else-has_room c = put_none _ _ _ _ c.number_length.ensures c.has_room.ensures c.if-has_room.false

pub returns-then-has_room : goal.returns-then-has_room
returns-then-has_room c = put_all _ _ _ _ c.number_length.ensures c.has_room.ensures c.if-has_room.true (λ _. c.store_number.ensures)
