-- `play`: the lines so far have their answers, and the tables stand for the run after them; reading goes on where the next line begins.
use Prim.Native.Nat.{◌-◌}
use lib.ListN.{length}
use Rattle.run_report.proofs.Played.{Playing}
use Rattle.run_report.proofs.playing.play.Given as goal

abbrev pub invariant-loop-line : goal.invariant-loop-line
invariant-loop-line l = Playing l.size l.text l.tables.benches l.tables.logs l.answers.items l.at

abbrev pub decreases-loop-line : goal.decreases-loop-line
decreases-loop-line l = length l.text - l.at
