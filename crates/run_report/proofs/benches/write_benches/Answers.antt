-- `write_benches`: the lines of the benches so far are written, and none is longer than 67 bytes.
use Rattle.std.proofs.Common.{arith}
use Rattle.run_report.proofs.BenchLines.{listed_none, listed_room, listed_more, listed_all}
use Rattle.run_report.proofs.benches.write_benches.Goals as goal

pub loop-b-init : goal.loop-b-init
loop-b-init c = search listed_none

pub write_bench-requires : goal.write_bench-requires
write_bench-requires c = listed_room _ _ _ _ _ c.loop-b.invariant _ c.benches_of-b-end.ensures.0 c.loop-b-test.true c.requires

pub loop-b-preserved : goal.loop-b-preserved
loop-b-preserved c = search listed_more

pub returns : goal.returns
returns c = search listed_all

pub returns-2 : goal.returns-2
returns-2 c = listed_all _ _ _ _ _ (listed_more _ _ _ _ _ c.loop-b.invariant c.loop-b.auto.b c.loop-b-test.true _ c.write_bench.ensures) _ c.benches_of-b-end.ensures.0 (omega arith)
