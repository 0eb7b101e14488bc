-- `ledger::sweeps::take_out` meets its contract: of the sweeps passed those that stay are at the front. Assumes nothing.
use Prim.Native.Nat.{◌<◌}
use native.Mathlib.Omega.{arith}
use mathlib.Core.Path.{◌≡◌, sym, ◌∙◌}
use lib.ListN.{length}
use Rattle.ledger.proofs.Compacting.{compacting_none, compacting_stays, compacting_goes, compacting_out}
use Rattle.ledger.proofs.sweeps.take_out.Goals as goal
use Rattle.ledger.proofs.sweeps.take_out.Goals.{then-not-goes, else-not-goes}

pub loop-i-init : goal.loop-i-init
loop-i-init g c = (omega arith, λ p tests none. compacting_none p c.args.room.now c.args.from (omega arith) none)

pub loop-i-preserved : goal.loop-i-preserved
loop-i-preserved g c =
    let z = c.args in
    let l = c.loop-i in
    let h : l.i < length z.room.now = omega arith in
    elim c.if-not-goes.branch [
      | then-not-goes w ↦ (omega arith, λ p tests none. rw (w.room-is, w.k-is) (compacting_stays p z.room.now l.i l.room l.k (l.invariant.1 p tests none) h (sym (tests _ _ c.goes.ensures) ∙ w.if-not-goes.true)))
      | else-not-goes w ↦ (omega arith, λ p tests none. rw (w.room-is, w.k-is) (compacting_goes p z.room.now l.i l.room l.k (l.invariant.1 p tests none) h (sym (tests _ _ c.goes.ensures) ∙ w.if-not-goes.false)))
    ]

pub returns-clause-taken : goal.returns-clause-taken
returns-clause-taken g c = λ p tests none.
    let z = c.args in
    let l = c.loop-i in
    let e : l.i ≡ z.held = omega arith in
    rw (← e) (compacting_out p z.room.now l.i l.room l.k (l.invariant.1 p tests none))
