-- `number_length` meets its contract. A number has a digit at each power of ten that it reaches, and the last one. Assumes nothing.
use Rattle.room.proofs.Digits.{digits_reached}
use Rattle.room.proofs.decimal.number_length.Goals as goal

pub returns : goal.returns
returns c = digits_reached c.args.n c.powers_reached.result c.powers_reached.ensures
