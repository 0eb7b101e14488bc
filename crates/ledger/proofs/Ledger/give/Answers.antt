-- `ledger::Ledger::give` meets its contract: each way through is a lemma of `HandedOut`.
use native.Mathlib.Omega.{arith}
use mathlib.Core.Path.{◌≡◌}
use lib.ListN.{length}
use lib.Dec.{eqb}
use Rattle.std.proofs.Common.{rules}
use Rattle.std.proofs.lemmas.Result.{err_from_is_err_and}
use Rattle.ledger.specs.Seen.{room_words}
use Rattle.ledger.proofs.HandedOut.{none_passed, hand_22, hand_none, hand_done}
use Rattle.ledger.proofs.Ledger.give.Goals as goal

pub returns-then-from-held : goal.returns-then-from-held
returns-then-from-held c =
    let x = c.args.self.now in
    let whole : length x.room ≡ room_words = omega arith in
    let f = c.skipped-from in
    hand_none _ x c.args.out.now c.requires.0 c.requires.1 whole c.held-held.result c.held-held.ensures f.result (omega arith) f.ensures.first c.if-from-held.true _ c.advance.ensures

pub returns-in_err-count : goal.returns-in_err-count
returns-in_err-count c =
    let p = err_from_is_err_and c.from_residual.result c.from_residual.ensures.1 in
    let e = c.in_err-count.ensures.err in
    let x = c.args.self.now in
    let whole : length x.room ≡ room_words = omega arith in
    let f = c.skipped-from in
    rw (p.1, p.2, e.0, e.2) (hand_22 _ x c.args.out.now c.requires.0 c.requires.1 whole c.held-held.result c.held-held.ensures f.result (omega arith) f.ensures.first e.1)

pub returns : goal.returns
returns c =
    let x = c.args.self.now in
    let whole : length x.room ≡ room_words = omega arith in
    let f = c.skipped-from in
    let none = none_passed _ x c.args.out.now c.requires.0 c.requires.1 whole c.held-held.result c.held-held.ensures f.result (omega arith) f.ensures.first in
    hand_done _ x c.args.out.now c.requires.0 c.requires.1 whole c.held-held.result c.held-held.ensures f.result (omega arith) f.ensures.first _ _ c.in_ok-count.ensures.ok _ _
    (c.take_out-left.ensures.taken (λ w. eqb w.slot x.cursor.next.0) (λ w t r. search rules) none) _ c.advance-2.ensures
