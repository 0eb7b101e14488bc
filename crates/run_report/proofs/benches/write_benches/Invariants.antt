-- `write_benches`: the lines of the benches so far are written, and none is longer than 67 bytes.
use Rattle.run_report.proofs.BenchLines.{Listed}
use Rattle.run_report.proofs.benches.write_benches.Given as goal

abbrev pub invariant-loop-b : goal.invariant-loop-b
invariant-loop-b l = Listed l.b-end l.initial.out l.benches l.out l.b
