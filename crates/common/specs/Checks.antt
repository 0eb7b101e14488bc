-- The checks of a step, in their order: the first that fails refuses, by its number. This file is to be believed.
use Rattle.std.specs.Prelude.{◌≡◌, ℕ, Bool, true, false, List, [], ◌∷◌}

-- what must hold, and the refusal number where it does not
pub data Check : Type 0 where
  needs : ℕ → Bool → Check

-- `done` where every check holds; else the refusal by the number of the first that fails
unfoldable pub judge : {A : Type 0} → (ℕ → A) → List Check → A → A
judge refuse [] done = done
judge refuse (needs k true ∷ l) done = judge refuse l done
judge refuse (needs k false ∷ l) done = refuse k

-- every check holds
pub data Holds : List Check → Type 0 where
  nothing : Holds []
  also : (k : ℕ) (c : Bool) (l : List Check) → c ≡ true → Holds l → Holds (needs k c ∷ l)

-- the check with number k fails, and those before it hold
pub data Fails : List Check → ℕ → Type 0 where
  here : (k : ℕ) (c : Bool) (l : List Check) → c ≡ false → Fails (needs k c ∷ l) k
  later : (j : ℕ) (c : Bool) (l : List Check) (k : ℕ) → c ≡ true → Fails l k → Fails (needs j c ∷ l) k
