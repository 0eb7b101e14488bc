-- `senders::table::Senders::all_closed` meets its contract: the visit stops at the first row that holds a slot up, and where nobody further has joined.
use Rattle.senders.proofs.Going.{Going}
use Rattle.senders.proofs.table.Senders.all_closed.Given as goal

abbrev pub invariant-loop-row : goal.invariant-loop-row
invariant-loop-row l = Going l.many l.n.0 l.after.0 l.self.joined l.self.rows l.rest l.row-index
