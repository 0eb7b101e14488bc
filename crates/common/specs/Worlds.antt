-- Worlds. A world is a set of benches, held as a number: bench i is bit i - 1. This file is to be believed.
use Rattle.std.specs.Prelude.{ℕ, zero, suc, ◌+◌, ◌*◌, ◌/◌, ◌%◌, Bool, false, cond, not, ◌||◌, eqb}
use Rattle.common.specs.Benches.{every}

unfoldable pub bit : ℕ → ℕ → Bool
bit zero w = eqb (w % 2) 1
bit (suc i) w = bit i (w / 2)

unfoldable pub member : ℕ → ℕ → Bool
member zero w = false
member (suc i) w = bit i w

-- the test holds of each member of w
unfoldable pub every_in : ℕ → ℕ → (ℕ → Bool) → Bool
every_in n w p = every n (λ i. not (member i w) || p i)

-- each member of u is one of w
unfoldable pub within : ℕ → ℕ → ℕ → Bool
within n u w = every_in n u (λ i. member i w)

-- the world of those benches 1 to n of which the test holds
unfoldable pub world_of : ℕ → (ℕ → Bool) → ℕ
world_of zero p = 0
world_of (suc n) p = cond (p 1) 1 0 + 2 * world_of n (λ i. p (suc i))
