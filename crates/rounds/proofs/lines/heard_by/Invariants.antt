-- `heard_by`: what is heard of the senders below j.
use mathlib.Core.Path.{◌≡◌}
use Prim.Native.Nat.{◌≤◌, ◌-◌}
use Rattle.tables.specs.Lines.{heard_to}
use Rattle.rounds.proofs.lines.heard_by.Given as goal

abbrev pub invariant-loop-j : goal.invariant-loop-j
invariant-loop-j l = (l.j ≤ l.n) × (l.heard ≡ heard_to l.logs l.bench l.j)

abbrev pub decreases-loop-j : goal.decreases-loop-j
decreases-loop-j l = l.n - l.j
