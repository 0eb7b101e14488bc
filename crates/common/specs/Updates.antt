-- A function changed at one place. This file is to be believed.
use Rattle.std.specs.Prelude.{ℕ, cond, eqb}

-- the function s, but x at b
unfoldable pub put : {A : Type 0} → (ℕ → A) → ℕ → A → ℕ → A
put s b x i = cond (eqb i b) x (s i)
