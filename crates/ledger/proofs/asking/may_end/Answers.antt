-- `ledger::asking::may_end` meets its contract: the first check that fails, or none.
use mathlib.Core.Path.{refl}
use Prim.Native.Nat.{◌<◌, ◌≤◌}
use Rattle.std.proofs.Common.{rules}
use borrow.Author.Tests.{lt-leb, le-leb}
use Rattle.common.specs.Checks.{judge}
use Rattle.book.specs.Book.{answer, checks, after, step}
use Rattle.ledger.proofs.asking.may_end.Goals as goal

pub returns-then-not-has_joined : goal.returns-then-not-has_joined
unfolding step judge checks answer
returns-then-not-has_joined c = λ n b s bench known next. rw (bench, known, ← c.has_joined.ensures, c.if-not-has_joined.true) refl

pub returns-then-not-is_open : goal.returns-then-not-is_open
unfolding step judge checks answer
returns-then-not-is_open c = λ n b s bench known next. rw (bench, known, ← c.has_joined.ensures, c.if-not-has_joined.false, ← c.is_open.ensures, c.if-not-is_open.true) refl

pub returns-then-lt : goal.returns-then-lt
unfolding step judge checks answer
returns-then-lt c = λ n b s bench known next. let above : c.open_slot.result.0 < c.args.slot.0 = search rules in rw (bench, known, ← c.has_joined.ensures, c.if-not-has_joined.false, ← c.is_open.ensures, c.if-not-is_open.false, ← c.open_slot.ensures, lt-leb _ _ above) refl

pub returns-then-lt-2 : goal.returns-then-lt-2
unfolding step judge checks answer
returns-then-lt-2 c = λ n b s bench known next. let upto : c.args.slot.0 ≤ c.open_slot.result.0 = search rules in let below : c.args.slot.0 < c.args.next.0 = search rules in rw (bench, known, next, ← c.has_joined.ensures, c.if-not-has_joined.false, ← c.is_open.ensures, c.if-not-is_open.false, ← c.open_slot.ensures, le-leb _ _ upto, lt-leb _ _ below) refl

pub returns : goal.returns
unfolding step judge checks answer after
returns c = λ n b s bench known next. let upto : c.args.slot.0 ≤ c.open_slot.result.0 = search rules in let from : c.args.next.0 ≤ c.args.slot.0 = search rules in rw (bench, known, next, ← c.has_joined.ensures, c.if-not-has_joined.false, ← c.is_open.ensures, c.if-not-is_open.false, ← c.open_slot.ensures, le-leb _ _ upto, le-leb _ _ from) refl
