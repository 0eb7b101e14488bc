-- The numbers of benches, 1 to n, and a test of each of them. This file is to be believed.
use Rattle.std.specs.Prelude.{ℕ, zero, suc, ◌≤◌, Bool, true, ◌&&◌, leb}

-- bench i is one of the benches 1 to n
abbrev pub In : ℕ → ℕ → Type 0
In n i = (1 ≤ i) × (i ≤ n)

-- the same as a test
unfoldable pub is_bench : ℕ → ℕ → Bool
is_bench n b = leb 1 b && leb b n

-- the test holds of each bench 1 to n
unfoldable pub every : ℕ → (ℕ → Bool) → Bool
every zero p = true
every (suc n) p = every n p && p (suc n)
