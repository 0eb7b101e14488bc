-- Steps that were done in a list of steps, answered 0. This file is to be believed: theorems say by it which start gave a value, and what a list comes to
-- without its refused steps.
use Rattle.std.specs.Prelude.{◌≡◌, cond, List, [], ◌∷◌, ℕ, eqb}
use Rattle.published.specs.Rounds.{Run, Step, step}

-- the step a stands in the list l of steps from the run s, and is answered 0 there
pub data Accepted (n : ℕ) (a : Step) : Run → List Step → Type 0 where
  here : (s : Run) (l : List Step) → (step n s a).number ≡ 0 → Accepted n a s (a ∷ l)
  later : (s : Run) (c : Step) (l : List Step) → Accepted n a (step n s c).run l → Accepted n a s (c ∷ l)

-- the steps of a list that are done
unfoldable pub accepted : ℕ → Run → List Step → List Step
accepted n s [] = []
accepted n s (a ∷ l) = cond (eqb (step n s a).number 0) (a ∷ accepted n (step n s a).run l) (accepted n (step n s a).run l)
