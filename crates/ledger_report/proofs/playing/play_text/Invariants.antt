-- `play_text`: what each line adds keeps `Playing`, and when the text is at its end the report is whole.
use Prim.Native.Nat.{◌-◌}
use lib.ListN.{length}
use Rattle.ledger_report.proofs.Played.{Playing}
use Rattle.ledger_report.proofs.playing.play_text.Given as goal

abbrev pub invariant-loop-line : goal.invariant-loop-line
invariant-loop-line l = Playing l.size l.text l.initial.out l.ledger l.out l.at l.lines l.refused

abbrev pub decreases-loop-line : goal.decreases-loop-line
decreases-loop-line l = length l.text - l.at
