-- Places of benches, as code counts them: bench b is at place b - 1. A set of benches is a number, in which place k is bit k.
-- This file is to be believed.
use Rattle.std.specs.Prelude.{Bool, false, cond, ◌||◌, ℕ, zero, suc, ◌-◌, ◌/◌, ◌%◌, ◌^◌, eqb}
use Rattle.common.specs.Benches.{is_bench}

-- the place of a bench 1 to n; of any other number, that of the first
unfoldable pub place_of : ℕ → ℕ → ℕ
place_of n b = cond (is_bench n b) (b - 1) 0

abbrev pub has : ℕ → ℕ → Bool
has w k = eqb (w / 2 ^ k % 2) 1

-- some place below n passes the test
unfoldable pub some : (ℕ → Bool) → ℕ → Bool
some p zero = false
some p (suc n) = p n || some p n
