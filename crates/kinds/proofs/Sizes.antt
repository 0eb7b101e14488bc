-- Laws of sizes: every size fits the tables, and so do the rounds of any run. Assumes nothing.
use mathlib.Core.Path.{◌≡◌, refl}
use Prim.Native.Nat.{◌+◌, ◌*◌, ◌≤◌}
use native.Mathlib.Omega.{arith}
use Rattle.kinds.specs.declared.Size.{Size}
use Rattle.kinds.specs.declared.Size.TheVariants.{Sixteen}
use Rattle.kinds.specs.Sizes.{benches_of, places, depth}

-- there is one size
pub benches_sixteen : (z : Size) → 16 ≡ benches_of z
unfolding benches_of
benches_sixteen Sixteen = refl

pub benches_fit : (z : Size) → benches_of z ≤ places
benches_fit z = omega (arith, benches_sixteen z)

-- a log has room for every round that is ever sent: with n benches none above 2 n + 1 (W9)
pub rounds_fit : 2 * places + 1 ≤ depth
rounds_fit = omega arith

-- the sets of benches are words of 32 bits
pub places_fit : places ≤ 32
places_fit = omega arith
