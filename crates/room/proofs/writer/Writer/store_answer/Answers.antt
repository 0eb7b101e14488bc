-- `store_answer` meets its contract. The key, and one digit, two, or as many as there are. Assumes nothing.
use Rattle.std.proofs.Common.{arith}
use Rattle.spelling.specs.Numbers.{digits}
use Rattle.room.proofs.Writers.{writes_then, holds_behind}
use Rattle.room.proofs.Digits.{one_digit, two_digits}
use Rattle.room.proofs.writer.Writer.store_answer.Goals as goal

pub store_bytes-requires-in-0-to-9 : goal.store_bytes-requires-in-0-to-9
store_bytes-requires-in-0-to-9 c =
    let one = one_digit c.args.answer (omega arith) c.last_digit.ensures in
    rw one at (holds_behind c.store_bytes.ensures (digits c.args.answer) c.requires)

pub store_bytes-requires-in-10-to-99 : goal.store_bytes-requires-in-10-to-99
store_bytes-requires-in-10-to-99 c =
    let two = two_digits c.args.answer (omega arith) (omega arith) c.last_digit-in-10-to-99.ensures c.last_digit-in-10-to-99-2.ensures in
    rw two at (holds_behind c.store_bytes.ensures (digits c.args.answer) c.requires)

pub returns-in-0-to-9 : goal.returns-in-0-to-9
returns-in-0-to-9 c = rw (one_digit c.args.answer (omega arith) c.last_digit.ensures) (writes_then c.store_bytes.ensures c.store_bytes-in-0-to-9.ensures)

pub returns-in-10-to-99 : goal.returns-in-10-to-99
returns-in-10-to-99 c =
    rw (two_digits c.args.answer (omega arith) (omega arith) c.last_digit-in-10-to-99.ensures c.last_digit-in-10-to-99-2.ensures)
    (writes_then c.store_bytes.ensures c.store_bytes-in-10-to-99.ensures)
