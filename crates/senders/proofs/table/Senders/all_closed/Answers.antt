-- `senders::table::Senders::all_closed` meets its contract: the visit stops at the first row that holds a slot up, and where nobody further has joined.
use native.Mathlib.Omega.{arith}
use mathlib.Core.Path.{refl}
use Rattle.common.specs.Benches.{every}
use Rattle.senders.proofs.Going.{going_out, going_next, held_up, all_go}
use Rattle.senders.proofs.table.Senders.all_closed.Goals as goal
use Rattle.senders.proofs.table.Senders.all_closed.Goals.{else-rest-eq1-via-then-rest-eq1+else-not-lets_go, else-rest-eq1-via-else-rest-eq1}

pub loop-row-init : goal.loop-row-init
unfolding every
loop-row-init c = (omega arith, omega arith, refl)

pub returns-then-not-lets_go : goal.returns-then-not-lets_go
returns-then-not-lets_go c =
    let z = c.args in
    let m = c.benches_of-many in
    let l = c.loop-row in
    held_up m.result z.n.0 z.after.0 z.self.now.joined z.self.now.rows l.rest l.row-index l.invariant (omega arith) (omega arith) (omega arith) c.if-rest-eq1.true _ c.from.ensures _ c.lets_go.ensures _ m.ensures.0 c.if-not-lets_go.true

pub loop-row-preserved : goal.loop-row-preserved
loop-row-preserved c =
    let z = c.args in
    let m = c.benches_of-many in
    let l = c.loop-row in
    elim c.else-rest-eq1.branch [
      | else-rest-eq1-via-then-rest-eq1+else-not-lets_go w ↦ going_next m.result z.n.0 z.after.0 z.self.now.joined z.self.now.rows l.rest l.row-index l.invariant (omega arith) (omega arith) (omega arith) w.if-rest-eq1.true _ w.from.ensures _ w.lets_go.ensures w.if-not-lets_go.false
      | else-rest-eq1-via-else-rest-eq1 w ↦ going_out m.result z.n.0 z.after.0 z.self.now.joined z.self.now.rows l.rest l.row-index l.invariant (omega arith) w.if-rest-eq1.false
    ]

pub returns : goal.returns
returns c = search all_go
