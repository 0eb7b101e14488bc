-- Of how many benches a test holds.
use Rattle.std.specs.Prelude.{ℕ, zero, suc, ◌+◌, Bool, cond}

-- of the benches 1 to n
unfoldable pub count : ℕ → (ℕ → Bool) → ℕ
count zero p = 0
count (suc n) p = cond (p (suc n)) 1 0 + count n p
