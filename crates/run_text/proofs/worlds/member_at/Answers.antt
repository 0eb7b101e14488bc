-- `member_at` meets its contract. By cases on the number read. Assumes nothing.
use Rattle.std.proofs.Common.{rules, arith}
use Rattle.spelling.proofs.Members.{member_none, member_low, member_high, member_got}
use Rattle.run_text.proofs.worlds.member_at.Goals as goal
use Rattle.run_text.proofs.worlds.member_at.Goals.{else-last-bench-via-then-last-bench+else-bench-benches_of, else-last-bench-via-else-last-bench}

pub returns-in_err-bench : goal.returns-in_err-bench
returns-in_err-bench c = search (member_none, rules)

pub returns-then-bench-benches_of : goal.returns-then-bench-benches_of
returns-then-bench-benches_of c = member_got _ _ _ _ _ _ c.in_ok-bench.ensures c.if-last-bench.true (omega arith)

pub returns-else-last-bench : goal.returns-else-last-bench
returns-else-last-bench c = elim c.else-last-bench.branch [
  | else-last-bench-via-then-last-bench+else-bench-benches_of w ↦ member_high _ _ _ _ _ _ c.in_ok-bench.ensures w.if-last-bench.true (omega arith)
  | else-last-bench-via-else-last-bench w ↦ member_low _ _ _ _ _ _ c.in_ok-bench.ensures w.if-last-bench.false
]
