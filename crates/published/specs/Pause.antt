-- How far the rounds of a run have come, and that nobody fails in a list of steps. This file is to be believed: W8, how long after the last lid, and W9, how
-- far rounds ever come, are stated by it.
use Rattle.std.specs.Prelude.{List, ℕ, ◌≤◌}
use Rattle.published.specs.Rounds.{Run, Step, fail}
use Rattle.published.specs.Proposals.{M}
use Rattle.published.specs.Accepted.{Accepted}

-- every bench has last sent round r or an earlier one, or nothing
abbrev pub NoRoundAbove : ℕ → Run → Type 0
NoRoundAbove r s = (b q v w : ℕ) → M s b q v w → q ≤ r

-- no fail step of the list l of steps from the run s is done; refused ones may stand in it
abbrev pub NoFailDone : ℕ → Run → List Step → Type 0
NoFailDone n s l = (b : ℕ) → Accepted n (fail b) s l → ⊥
