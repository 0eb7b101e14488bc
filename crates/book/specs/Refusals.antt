-- The numbers by which each step of the ledger can be refused, in document 01's order of checks. This file is to be believed.
use Rattle.std.specs.Prelude.{ℕ, List, [], ◌∷◌}
use Rattle.book.specs.Book.{Step, join, sweep, close, end, hand_out}

unfoldable pub refusals : Step → List ℕ
refusals (join s f) = 1 ∷ 13 ∷ 14 ∷ []
refusals (sweep s t) = 1 ∷ 15 ∷ 17 ∷ 25 ∷ []
refusals (close s) = 1 ∷ 15 ∷ 17 ∷ []
refusals (end s e) = 1 ∷ 15 ∷ 16 ∷ 18 ∷ 19 ∷ []
refusals (hand_out room) = 17 ∷ 24 ∷ 22 ∷ []
