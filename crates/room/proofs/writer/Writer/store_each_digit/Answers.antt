-- `store_each_digit` meets its contract. Up to five digits, each by what it is, and what `itoa` writes of more. Assumes nothing.
use Rattle.std.proofs.Common.{refl, arith}
use Rattle.room.proofs.Digits.{one_digit, two_digits, three_digits, four_digits, five_digits, decimal_room, decimal_stored}
use Rattle.room.proofs.writer.Writer.store_each_digit.Goals as goal

pub store_bytes-requires : goal.store_bytes-requires
store_bytes-requires c =
    let e = one_digit c.args.n (omega arith) c.last_digit.ensures in
    rw e at c.requires

pub store_bytes-requires-in-10-to-99 : goal.store_bytes-requires-in-10-to-99
store_bytes-requires-in-10-to-99 c =
    let e = two_digits c.args.n (omega arith) (omega arith) c.last_digit-in-10-to-99.ensures c.last_digit-in-10-to-99-2.ensures in
    rw e at c.requires

pub store_bytes-requires-in-100-to-999 : goal.store_bytes-requires-in-100-to-999
store_bytes-requires-in-100-to-999 c =
    let e = three_digits c.args.n (omega arith) (omega arith) c.last_digit-in-100-to-999.ensures c.last_digit-in-100-to-999-2.ensures c.last_digit-in-100-to-999-3.ensures in
    rw e at c.requires

pub store_bytes-requires-in-1000-to-9999 : goal.store_bytes-requires-in-1000-to-9999
store_bytes-requires-in-1000-to-9999 c =
    let e = four_digits c.args.n (omega arith) (omega arith) c.last_digit-in-1000-to-9999.ensures c.last_digit-in-1000-to-9999-2.ensures c.last_digit-in-1000-to-9999-3.ensures c.last_digit-in-1000-to-9999-4.ensures in
    rw e at c.requires

pub store_bytes-requires-in-10000-to-99999 : goal.store_bytes-requires-in-10000-to-99999
store_bytes-requires-in-10000-to-99999 c =
    let e = five_digits c.args.n (omega arith) (omega arith) c.last_digit-in-10000-to-99999.ensures c.last_digit-in-10000-to-99999-2.ensures c.last_digit-in-10000-to-99999-3.ensures c.last_digit-in-10000-to-99999-4.ensures c.last_digit-in-10000-to-99999-5.ensures in
    rw e at c.requires

pub write_digits-requires : goal.write_digits-requires
write_digits-requires c = decimal_room _ _ _ _ _ c.ranges.n.fits c.from.ensures c.number_length.ensures c.requires

pub returns-in-0-to-9 : goal.returns-in-0-to-9
returns-in-0-to-9 c = rw (one_digit c.args.n (omega arith) c.last_digit.ensures) c.store_bytes.ensures

pub returns-in-10-to-99 : goal.returns-in-10-to-99
returns-in-10-to-99 c = rw (two_digits c.args.n (omega arith) (omega arith) c.last_digit-in-10-to-99.ensures c.last_digit-in-10-to-99-2.ensures) c.store_bytes-in-10-to-99.ensures

pub returns-in-100-to-999 : goal.returns-in-100-to-999
returns-in-100-to-999 c = rw (three_digits c.args.n (omega arith) (omega arith) c.last_digit-in-100-to-999.ensures c.last_digit-in-100-to-999-2.ensures c.last_digit-in-100-to-999-3.ensures) c.store_bytes-in-100-to-999.ensures

pub returns-in-1000-to-9999 : goal.returns-in-1000-to-9999
returns-in-1000-to-9999 c = rw (four_digits c.args.n (omega arith) (omega arith) c.last_digit-in-1000-to-9999.ensures c.last_digit-in-1000-to-9999-2.ensures c.last_digit-in-1000-to-9999-3.ensures c.last_digit-in-1000-to-9999-4.ensures) c.store_bytes-in-1000-to-9999.ensures

pub returns-in-10000-to-99999 : goal.returns-in-10000-to-99999
returns-in-10000-to-99999 c = rw (five_digits c.args.n (omega arith) (omega arith) c.last_digit-in-10000-to-99999.ensures c.last_digit-in-10000-to-99999-2.ensures c.last_digit-in-10000-to-99999-3.ensures c.last_digit-in-10000-to-99999-4.ensures c.last_digit-in-10000-to-99999-5.ensures) c.store_bytes-in-10000-to-99999.ensures

pub returns-in_default : goal.returns-in_default
returns-in_default c =
    let written = c.write_digits.ensures in
    record {
      same_room = refl;
      stored = decimal_stored _ _ _ _ _ c.ranges.n.fits c.from.ensures c.number_length.ensures c.requires _ _ written.start written.written written.before;
    }
