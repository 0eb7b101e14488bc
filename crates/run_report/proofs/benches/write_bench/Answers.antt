-- `write_bench`: a fresh bench has no line; of any other the parts are put one after another, and the room holds the longest.
use Rattle.std.proofs.Common.{arith}
use Rattle.reads.specs.Decisions.{decision_is}
use Rattle.tables.specs.Runs.{state_of}
use Rattle.reports.proofs.RunLines.{spelled_short}
use Rattle.room.proofs.Writers.{put_then, put_last}
use Rattle.run_report.proofs.BenchLines.{fresh_written, row_is}
use Rattle.run_report.proofs.benches.write_bench.Goals as goal

pub returns-then-state-eq-FRESH : goal.returns-then-state-eq-FRESH
returns-then-state-eq-FRESH c = search fresh_written

pub returns : goal.returns
returns c =
    let short = spelled_short c.args.bench.0 (state_of c.state_of-state.result) c.sent_of-sent.result (decision_is c.decision_of-decision.result) in
    let name = rw c.state_name.ensures at c.put_bytes-2.ensures in
    rw (row_is _ _ _ c.state_of-state.ensures _ _ c.sent_of-sent.ensures c.decision_of-decision.ensures c.if-state-eq-FRESH.false)
    (put_then _ _ c.put_field.ensures (put_then _ _ c.put_bytes.ensures (put_then _ _ name (put_then _ _ c.put_field-2.ensures
    (put_then _ _ c.put_bytes-3.ensures (put_then _ _ c.put_value.ensures (put_last _ c.put_bytes-4.ensures)))))) (omega arith))
