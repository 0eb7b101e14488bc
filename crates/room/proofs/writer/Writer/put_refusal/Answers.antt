-- `put_refusal` meets its contract. With room what fits is the line, without it nothing. Assumes nothing.
use Rattle.std.proofs.Common.{arith}
use Rattle.spelling.proofs.Decimals.{number_short}
use Rattle.spelling.proofs.Answers.{refusal_measured}
use Rattle.room.proofs.Writers.{put_none, put_all, put_then, put_last}
use Rattle.room.proofs.writer.Writer.put_refusal.Goals as goal

pub overflow_add-number_length : goal.overflow_add-number_length
overflow_add-number_length c = omega (arith, number_short _ c.number_length.ensures)

pub returns-else-has_room : goal.returns-else-has_room
returns-else-has_room c = put_none _ _ _ _ (refusal_measured _ c.number_length.ensures) c.has_room.ensures c.if-has_room.false

pub returns-then-has_room : goal.returns-then-has_room
returns-then-has_room c =
    let line = put_then _ _ c.put_field.ensures (put_last _ c.put_bytes.ensures) in
    put_all _ _ _ _ (refusal_measured _ c.number_length.ensures) c.has_room.ensures c.if-has_room.true line
