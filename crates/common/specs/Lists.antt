-- What is said of the elements of a list. This file is to be believed.
use Rattle.std.specs.Prelude.{ℕ, List, [], ◌∷◌}

-- the number k is one of the list
pub data OneOf (k : ℕ) : List ℕ → Type 0 where
  first : (l : List ℕ) → OneOf k (k ∷ l)
  further : (j : ℕ) (l : List ℕ) → OneOf k l → OneOf k (j ∷ l)

-- each element has the fact
pub data All {A : Type 0} (P : A → Type 0) : List A → Type 0 where
  none : All P []
  more : (x : A) (l : List A) → P x → All P l → All P (x ∷ l)
