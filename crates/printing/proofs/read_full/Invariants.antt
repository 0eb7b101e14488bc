-- What is read so far lies at the front of the input, and is what the reader gave.
use Rattle.std.proofs.Common.{◌≡◌, length, take, ◌-◌, ◌≤◌}
use Rattle.std.specs.Io.KnownBytes.{Consumes}
use Rattle.printing.proofs.read_full.Given as goal

abbrev pub invariant-loop-done : goal.invariant-loop-done
invariant-loop-done g l = (length l.input ≡ length l.initial.input) × (l.done ≤ length l.input) × Consumes (g.R.Read.remaining l.initial.from) (g.R.Read.remaining l.from) (take l.done l.input)

abbrev pub decreases-loop-done : goal.decreases-loop-done
decreases-loop-done g l = length l.input - l.done
