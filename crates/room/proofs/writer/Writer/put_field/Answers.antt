-- `put_field` meets its contract. With room what fits is the key and the number, without it nothing. Assumes nothing.
use Rattle.std.proofs.Common.{refl}
use Rattle.room.proofs.Writers.{put_none, put_all}
use Rattle.room.proofs.writer.Writer.put_field.Goals as goal

pub returns-else-has_room_for_field : goal.returns-else-has_room_for_field
returns-else-has_room_for_field c = put_none _ _ _ _ refl c.has_room_for_field.ensures c.if-has_room_for_field.false

pub returns-then-has_room_for_field : goal.returns-then-has_room_for_field
returns-then-has_room_for_field c = put_all _ _ _ _ refl c.has_room_for_field.ensures c.if-has_room_for_field.true (λ _. c.store_field.ensures)
