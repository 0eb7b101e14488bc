-- How far apart rounds can be: nobody who can still turn is more than one round behind anybody who started (A.12). Assumes nothing.
use mathlib.Core.Path.{◌≡◌}
use Prim.Native.Nat.{ℕ, zero, suc, ◌≤◌}
use native.Mathlib.Omega.{arith}
use Rattle.published.specs.Rounds.{Run, running}
use Rattle.published.proofs.Invariant.{Base, running_bench, running_in}
use Rattle.published.specs.Proposals.{M}

pub one_ahead : (n : ℕ) (s : Run) → Base n s → (i b r v w : ℕ) → (s b).state ≡ running → M s i r v w → r ≤ suc (s b).round
one_ahead n s h i b zero v w k m = omega arith
one_ahead n s h i b (suc zero) v w k m = omega arith
one_ahead n s h i b (suc (suc r)) v w k m =
    let o = (h.came i r v w m).all_heard b (running_bench n s h b k) (running_in n s h i b (suc (suc r)) v w k m) in
    omega (arith, (h.wf b).upto (suc r) o.value_of o.the_world o.msg)
