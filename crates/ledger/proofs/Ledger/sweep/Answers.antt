-- `ledger::Ledger::sweep` meets its contract: who is no sender is answered 1, and a sender's step goes by its checks.
use native.Mathlib.Omega.{arith}
use mathlib.Core.Path.{◌≡◌, refl}
use lib.ListN.{length}
use Rattle.std.proofs.lemmas.Result.{err_from_is_err_and}
use Rattle.senders.specs.Rows.{row_is}
use Rattle.book.specs.Book.{checks}
use Rattle.ledger.specs.Seen.{held_by, room_words, book_of}
use Rattle.ledger.proofs.Told.{held_fewer, tells_refusal, no_sender, knows, sweep_done}
use Rattle.ledger.proofs.Ledger.sweep.Goals as goal

pub returns-in_err-row : goal.returns-in_err-row
unfolding checks
returns-in_err-row c =
    let p = err_from_is_err_and c.from_residual.result c.from_residual.ensures.1 in
    let e = c.in_err-row.ensures.err in
    rw (p.1, p.2, e.1) (no_sender _ _ e.0 _ _ _ refl)

pub returns-in_err-may_sweep : goal.returns-in_err-may_sweep
unfolding book_of
returns-in_err-may_sweep c =
    let p = err_from_is_err_and c.from_residual-in_err-may_sweep.result c.from_residual-in_err-may_sweep.ensures.1 in
    let s = c.in_ok-row.ensures.ok in
    let x = c.args.self.now in
    let whole : length x.room ≡ room_words = omega arith in
    rw (p.1, p.2) (tells_refusal _ x _ _ (c.in_err-may_sweep.ensures.number _ (book_of x) _ _ s.0 (knows _ x _ _ s.0 s.1 (row_is c.in_ok-row.row) s.3) (held_fewer x.room (held_by x) whole)))

pub returns : goal.returns
unfolding book_of
returns c =
    let s = c.in_ok-row.ensures.ok in
    let x = c.args.self.now in
    let whole : length x.room ≡ room_words = omega arith in
    sweep_done _ x _ _ s.0 s.1 (row_is c.in_ok-row.row) s.3 whole c.in_ok-may_sweep.ensures.ok.1 _ _ (rw c.open_slot.ensures refl)
    (c.in_ok-may_sweep.ensures.number _ (book_of x) _ _ s.0 (knows _ x _ _ s.0 s.1 (row_is c.in_ok-row.row) s.3) (held_fewer x.room (held_by x) whole))
