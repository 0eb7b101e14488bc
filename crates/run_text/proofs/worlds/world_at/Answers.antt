-- `world_at` meets its contract. The loop keeps `Listed`: the world read from here on is the world read from the start. Assumes nothing.
use native.Mathlib.Omega.{arith}
use mathlib.Core.Path.{◌∙◌}
use Rattle.spelling.proofs.Members.{listed_none, listed_fails, listed_member, listed_fits, listed_last, listed_more, listed_next}
use Rattle.run_text.proofs.Lines.{benches_few}
use Rattle.run_text.proofs.worlds.world_at.Goals as goal

pub loop-bench-init : goal.loop-bench-init
loop-bench-init c = search listed_none

pub returns-in_err-bench : goal.returns-in_err-bench
returns-in_err-bench c = c.from_residual.ensures ∙ listed_fails _ _ _ _ _ _ c.loop-bench.invariant c.in_err-bench.ensures

pub overflow_sub-bench : goal.overflow_sub-bench
overflow_sub-bench c = let m = listed_member _ _ _ _ _ _ c.loop-bench.invariant _ _ c.in_ok-bench.ensures in omega (arith, m.above)

pub overflow_add-world : goal.overflow_add-world
overflow_add-world c = record { fits = listed_fits _ _ _ _ _ _ c.loop-bench.invariant _ _ c.in_ok-bench.ensures (benches_few c.args.size) c.only-world.ensures }

pub returns-then-not-comma_at : goal.returns-then-not-comma_at
returns-then-not-comma_at c =
    listed_last _ _ _ _ _ _ c.loop-bench.invariant _ _ c.in_ok-bench.ensures (benches_few c.args.size) c.only-world.ensures c.comma_at.ensures c.if-not-comma_at.true

pub overflow_add-at : goal.overflow_add-at
overflow_add-at c =
    let n = listed_next _ _ _ _ _ _ c.loop-bench.invariant _ _ c.in_ok-bench.ensures (benches_few c.args.size) c.only-world.ensures c.comma_at.ensures c.if-not-comma_at.false in
    omega arith

pub loop-bench-smaller : goal.loop-bench-smaller
loop-bench-smaller c = let m = listed_member _ _ _ _ _ _ c.loop-bench.invariant _ _ c.in_ok-bench.ensures in omega (arith, m.above, m.most)

pub loop-bench-preserved : goal.loop-bench-preserved
loop-bench-preserved c =
    listed_more _ _ _ _ _ _ c.loop-bench.invariant _ _ c.in_ok-bench.ensures (benches_few c.args.size) c.only-world.ensures c.comma_at.ensures c.if-not-comma_at.false
