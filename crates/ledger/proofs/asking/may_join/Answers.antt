-- `ledger::asking::may_join` meets its contract: the first check that fails, or none.
use mathlib.Core.Path.{refl}
use Prim.Native.Nat.{◌<◌, ◌≤◌}
use Rattle.std.proofs.Common.{rules}
use borrow.Author.Tests.{lt-leb, le-leb}
use Rattle.common.specs.Checks.{judge}
use Rattle.book.specs.Book.{answer, checks, after, step}
use Rattle.ledger.proofs.asking.may_join.Goals as goal
use Rattle.ledger.proofs.asking.may_join.Goals.{then-lt-via-then-lt, then-lt-via-else-lt+then-first-gt-LAST_SLOT}

pub returns-then-has_joined : goal.returns-then-has_joined
unfolding step judge checks answer
returns-then-has_joined c = λ n b s bench known next. rw (bench, known, ← c.has_joined.ensures, c.if-has_joined.true) refl

pub returns-then-lt : goal.returns-then-lt
unfolding step judge checks answer
returns-then-lt c = λ n b s bench known next. rw (bench, known, next, ← c.has_joined.ensures, c.if-has_joined.false) (elim c.then-lt.branch [
  | then-lt-via-then-lt w ↦ let below : c.args.first.0 < c.args.next.0 = search rules in rw (lt-leb _ _ below) refl
  | then-lt-via-else-lt+then-first-gt-LAST_SLOT w ↦ let from : c.args.next.0 ≤ c.args.first.0 = search rules in rw (le-leb _ _ from, lt-leb _ _ w.if-first-gt-LAST_SLOT.true) refl
])

pub returns : goal.returns
unfolding step judge checks answer after
returns c = λ n b s bench known next. let from : c.args.next.0 ≤ c.args.first.0 = search rules in rw (bench, known, next, ← c.has_joined.ensures, c.if-has_joined.false, le-leb _ _ from, le-leb _ _ c.if-first-gt-LAST_SLOT.false) refl
