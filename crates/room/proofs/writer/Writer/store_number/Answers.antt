-- `store_number` meets its contract. One digit, or as many as there are. Assumes nothing.
use Rattle.std.proofs.Common.{refl, arith}
use Rattle.spelling.proofs.Decimals.{digits_small, digits_length}
use Rattle.spelling.proofs.Stores.{stored_one}
use Rattle.room.proofs.writer.Writer.store_number.Goals as goal

pub bounds-self-self : goal.bounds-self-self
bounds-self-self c = omega (arith, digits_length c.args.n)

pub returns-then-n-lt10 : goal.returns-then-n-lt10
returns-then-n-lt10 c = rw (digits_small c.args.n c.if-n-lt10.true) (record { same_room = refl; stored = stored_one _ _ _ })
