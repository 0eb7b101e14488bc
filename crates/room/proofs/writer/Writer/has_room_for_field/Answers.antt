-- `has_room_for_field` meets its contract. Where the key and 10 bytes more are left there is room for both. Assumes nothing.
use Rattle.std.proofs.Common.{◌∙◌, sym, arith, length-append}
use borrow.Author.Tests.{le-leb}
use Rattle.spelling.specs.Numbers.{digits}
use Rattle.spelling.proofs.Decimals.{digits_length, number_short}
use Rattle.spelling.proofs.Stores.{room_yes}
use Rattle.room.proofs.writer.Writer.has_room_for_field.Goals as goal

pub overflow_add-key-else-has_room : goal.overflow_add-key-else-has_room
overflow_add-key-else-has_room c = omega (arith, number_short _ c.number_length.ensures)

pub returns-then-has_room : goal.returns-then-has_room
returns-then-has_room c =
    let inside = room_yes c.has_room.ensures c.if-has_room.true in
    c.if-has_room.true
    ∙ sym (le-leb _ _ (omega (arith, length-append c.args.key.now (digits c.args.n), digits_length c.args.n)))
