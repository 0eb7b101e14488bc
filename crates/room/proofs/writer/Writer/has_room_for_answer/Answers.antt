-- `has_room_for_answer` meets its contract. Where 33 bytes are left there is room for both. Assumes nothing.
use Rattle.std.proofs.Common.{◌∙◌, sym, arith}
use borrow.Author.Tests.{le-leb}
use Rattle.spelling.proofs.Decimals.{digits_length, number_short}
use Rattle.spelling.proofs.Answers.{answer_length}
use Rattle.spelling.proofs.Stores.{room_yes}
use Rattle.room.proofs.writer.Writer.has_room_for_answer.Goals as goal

pub overflow_add-number_length : goal.overflow_add-number_length
overflow_add-number_length c = omega (arith, number_short _ c.number_length.ensures)

pub overflow_add-number_length-else-has_room : goal.overflow_add-number_length-else-has_room
overflow_add-number_length-else-has_room c =
    omega (arith, number_short _ c.number_length.ensures, number_short _ c.number_length-else-has_room.ensures)

pub returns-then-has_room : goal.returns-then-has_room
returns-then-has_room c =
    let inside = room_yes c.has_room.ensures c.if-has_room.true in
    c.if-has_room.true
    ∙ sym (le-leb _ _ (omega (arith, answer_length c.args.line c.args.answer, digits_length c.args.line, digits_length c.args.answer)))
