-- `ledger::Ledger::hand_out` meets its contract: 17, 24, or what `give` answers.
use native.Mathlib.Omega.{arith}
use Rattle.ledger.proofs.HandedOut.{may_is, hand_17, hand_24}
use Rattle.ledger.proofs.Ledger.hand_out.Goals as goal

pub returns-then-next-gt-LAST_OUT : goal.returns-then-next-gt-LAST_OUT
returns-then-next-gt-LAST_OUT c = hand_17 _ _ _ (omega arith)

pub returns-then-not-all_closed : goal.returns-then-not-all_closed
returns-then-not-all_closed c = hand_24 _ _ _ (omega arith) (may_is _ _ _ _ _ c.all_closed.ensures c.if-not-all_closed.true)

pub give-requires : goal.give-requires
give-requires c = (omega arith, may_is _ _ _ _ _ c.all_closed.ensures c.if-not-all_closed.false)
