-- `Bench::gather`: the value is the least of the places below k.
use mathlib.Core.Path.{◌≡◌}
use Prim.Native.Nat.{◌≤◌, ◌-◌}
use Rattle.bench.specs.Turns.{least}
use Rattle.bench.proofs.Bench.gather.Given as goal

abbrev pub invariant-loop-k : goal.invariant-loop-k
invariant-loop-k l = (l.k ≤ l.n) × (l.value.0 ≡ least l.initial.value.0 l.both l.h.entries l.k)

abbrev pub decreases-loop-k : goal.decreases-loop-k
decreases-loop-k l = l.n - l.k
