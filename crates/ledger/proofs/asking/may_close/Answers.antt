-- `ledger::asking::may_close` meets its contract: the first check that fails, or none.
use mathlib.Core.Path.{refl}
use borrow.Author.Tests.{lt-leb, le-leb}
use Rattle.common.specs.Checks.{judge}
use Rattle.book.specs.Book.{answer, checks, after, step}
use Rattle.ledger.proofs.asking.may_close.Goals as goal

pub returns-then-not-is_open-clause-number : goal.returns-then-not-is_open-clause-number
unfolding step judge checks answer
returns-then-not-is_open-clause-number c = λ n b s bench known. rw (bench, known, ← c.is_open.ensures, c.if-not-is_open.true) refl

pub returns-then-open_slot-gt-LAST_SLOT-clause-number : goal.returns-then-open_slot-gt-LAST_SLOT-clause-number
unfolding step judge checks answer
returns-then-open_slot-gt-LAST_SLOT-clause-number c = λ n b s bench known. rw (bench, known, ← c.is_open.ensures, c.if-not-is_open.false, ← c.open_slot.ensures, lt-leb _ _ c.if-open_slot-gt-LAST_SLOT.true) refl

pub returns-clause-number : goal.returns-clause-number
unfolding step judge checks answer after
returns-clause-number c = λ n b s bench known. rw (bench, known, ← c.is_open.ensures, c.if-not-is_open.false, ← c.open_slot.ensures, le-leb _ _ c.if-open_slot-gt-LAST_SLOT.false) refl
