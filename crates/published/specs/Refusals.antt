-- The numbers by which each step can be refused, in document 01's order of checks. This file is to be believed.
use Rattle.std.specs.Prelude.{ℕ, List, [], ◌∷◌}
use Rattle.published.specs.Rounds.{Step, start, abstain, leave, fail, turn, arrive, notice}

unfoldable pub refusals : Step → List ℕ
refusals (start b v w) = 1 ∷ 3 ∷ 4 ∷ 5 ∷ 6 ∷ 7 ∷ []
refusals (abstain b) = 1 ∷ 3 ∷ []
refusals (leave b) = 1 ∷ 3 ∷ []
refusals (fail b) = 1 ∷ 3 ∷ []
refusals (turn b) = 1 ∷ 3 ∷ 11 ∷ []
refusals (arrive b f) = 1 ∷ 2 ∷ 3 ∷ 9 ∷ 8 ∷ []
refusals (notice b f) = 1 ∷ 2 ∷ 3 ∷ 10 ∷ 9 ∷ []
