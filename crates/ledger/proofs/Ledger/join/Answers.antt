-- `ledger::Ledger::join` meets its contract: who is no sender is answered 1, and a sender's step goes by its checks.
use Prim.Native.Nat.{◌<◌}
use native.Mathlib.Omega.{arith}
use mathlib.Core.Path.{refl}
use lib.ListN.{length}
use Rattle.std.proofs.lemmas.Result.{err_from_is_err_and}
use Rattle.senders.specs.Rows.{row_is}
use Rattle.book.specs.Book.{checks}
use Rattle.ledger.specs.Seen.{book_of}
use Rattle.ledger.proofs.Told.{tells_refusal, no_sender, knows, join_done}
use Rattle.ledger.proofs.Ledger.join.Goals as goal

pub returns-in_err-i : goal.returns-in_err-i
unfolding checks
returns-in_err-i c =
    let p = err_from_is_err_and c.from_residual.result c.from_residual.ensures.1 in
    let e = c.in_err-i.ensures.err in
    rw (p.1, p.2, e.1) (no_sender _ _ e.0 _ _ _ refl)

pub returns-in_err-may_join : goal.returns-in_err-may_join
unfolding book_of
returns-in_err-may_join c =
    let p = err_from_is_err_and c.from_residual-in_err-may_join.result c.from_residual-in_err-may_join.ensures.1 in
    let s = c.in_ok-i.ensures.ok in
    let x = c.args.self.now in
    rw (p.1, p.2) (tells_refusal _ x _ _ (c.in_err-may_join.ensures _ (book_of x) _ s.0 (knows _ x _ _ s.0 s.1 (row_is c.in_ok-i.row) s.3) refl))

pub returns : goal.returns
unfolding book_of row_is
returns c =
    let s = c.in_ok-i.ensures.ok in
    let x = c.args.self.now in
    let there : c.in_ok-i.i < length x.senders.rows = omega arith in
    join_done _ x _ _ s.0 s.1 (row_is c.in_ok-i.row) s.3 there _ _ c.from.ensures s.2 _ c.only.ensures
    (c.in_ok-may_join.ensures _ (book_of x) _ s.0 (knows _ x _ _ s.0 s.1 (row_is c.in_ok-i.row) s.3) refl)
