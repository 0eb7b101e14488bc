-- Who stands in all worlds, the first half of theorem 5.4 of document 000. Let no failed bench have sent a round above r, r being at least 1: whoever has sent
-- round r + 1 has not failed, and stands in every world up to round r + 2. By induction over the rounds. Assumes nothing.
use mathlib.Core.Path.{◌≡◌}
use Prim.Native.Nat.{ℕ, zero, suc, ◌≤◌}
use mathlib.Core.Bool.{true}
use native.Mathlib.Omega.{arith}
use Rattle.published.specs.Rounds.{Run, failed, find}
use Rattle.published.specs.Proposals.{M}
use Rattle.common.specs.Worlds.{member}
use Rattle.common.specs.Benches.{In}
use Rattle.published.proofs.Messages.{never}
use Rattle.published.proofs.Invariant.{stays, mute, dead, Base, positive, earlier}

-- no failed bench has sent a round above r
abbrev pub NoneFailedAbove : ℕ → Run → Type 0
NoneFailedAbove r s = (b q v w : ℕ) → (s b).state ≡ failed → M s b q v w → q ≤ r

module _ (n : ℕ) (s : Run) (h : Base n s) (r : ℕ) (pos : 1 ≤ r) (fb : NoneFailedAbove r s) where
  -- a bench that has sent round r + 1 stands in every world up to round r + 2: in the first ones by 5.1, since it has sent round 2
  pub stands_in : (j k q v w u y : ℕ) → In n k → M s k (suc r) u y → M s j q v w → q ≤ suc (suc r) → member k w ≡ true
  stands_in j k zero v w u y hk mk m le = positive n s h j v w m
  stands_in j k (suc zero) v w u y hk mk m le =
      let o = earlier n s h k (suc r) 2 u y mk (omega arith) (omega arith) in h.second j k v w o.0 o.1 m o.2
  stands_in j k (suc (suc q)) v w u y hk mk m le =
      let c = h.came j q v w m in
      elim (c.others k hk (stands_in j k (suc q) c.value₀ c.world₀ u y hk mk c.before (omega arith))) [
        | stays e ↦ e
        | mute z ↦ let o = earlier n s h k (suc r) (suc q) u y mk (omega arith) (omega arith) in never (find (suc q) (s k).sent) o.0 o.1 z.not_sent o.2
        | dead f ↦ absurd (omega (arith, fb k (suc r) u y f mk))
      ]
