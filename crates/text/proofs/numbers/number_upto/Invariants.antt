-- `number_upto` meets its contract. The loop keeps `Upto`: the number at the place is the number read from here on. Assumes nothing.
use Prim.Native.Nat.{◌-◌}
use lib.ListN.{length}
use Rattle.spelling.proofs.Digits.{Upto}
use Rattle.text.proofs.numbers.number_upto.Given as goal

abbrev pub invariant-loop-digit : goal.invariant-loop-digit
invariant-loop-digit l = Upto l.more l.text l.at l.room l.end l.number

abbrev pub decreases-loop-digit : goal.decreases-loop-digit
decreases-loop-digit l = length l.text - l.end
