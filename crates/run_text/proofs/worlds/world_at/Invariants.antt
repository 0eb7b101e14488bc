-- `world_at` meets its contract. The loop keeps `Listed`: the world read from here on is the world read from the start. Assumes nothing.
use Prim.Native.Nat.{◌-◌}
use Rattle.kinds.specs.Sizes.{benches_of}
use Rattle.spelling.proofs.Members.{Listed}
use Rattle.run_text.proofs.worlds.world_at.Given as goal

abbrev pub invariant-loop-bench : goal.invariant-loop-bench
invariant-loop-bench l = Listed (benches_of l.size) l.text l.from l.at l.last l.world

abbrev pub decreases-loop-bench : goal.decreases-loop-bench
decreases-loop-bench l = benches_of l.size - l.last
