-- `ledger::asking::may_sweep` meets its contract: a refusal of the close, a full room, or none.
use mathlib.Core.Path.{refl, ◌∙◌}
use borrow.Author.Tests.{lt-ltb, le-ltb, le-leb}
use Rattle.std.proofs.lemmas.Result.{err_from_is_err_and}
use Rattle.common.specs.Checks.{judge}
use Rattle.book.specs.Book.{answer, checks, after, step}
use Rattle.kinds.proofs.Refusals.{never_done}
use Rattle.ledger.proofs.Refused.{sweep_refused}
use Rattle.ledger.proofs.asking.may_sweep.Goals as goal

pub returns-in_err-may_close-clause-number : goal.returns-in_err-may_close-clause-number
returns-in_err-may_close-clause-number c =
    let p = err_from_is_err_and c.from_residual.result c.from_residual.ensures.1 in
    λ n b s tag bench known full. let e = c.in_err-may_close.ensures.number n b s bench known in
    rw (p.1, p.2) (e ∙ sweep_refused n b s tag (λ z. never_done c.in_err-may_close.field-0.0 (e ∙ z)))

pub returns-then-held-clause-number : goal.returns-then-held-clause-number
unfolding step judge checks answer
returns-then-held-clause-number c = λ n b s tag bench known full. rw (bench, known, c.in_ok-may_close.ensures.ok.0, le-leb _ _ c.in_ok-may_close.ensures.ok.1, full, le-ltb _ _ c.if-held.true) refl

pub returns-clause-number : goal.returns-clause-number
unfolding step judge checks answer after
returns-clause-number c = λ n b s tag bench known full. rw (bench, known, c.in_ok-may_close.ensures.ok.0, le-leb _ _ c.in_ok-may_close.ensures.ok.1, full, lt-ltb _ _ c.if-held.false) refl
