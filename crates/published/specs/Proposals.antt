-- What was said and what was proposed in a run: the words in which validity and "not above own" are stated.
-- This file is to be believed.
use Rattle.std.specs.Prelude.{◌≡◌, ℕ, ◌≤◌}
use Rattle.published.specs.Rounds.{Run, found, find, Step, start, step}

-- bench f has sent the round r message with value v and world w; the value of its round 1 message is its proposal
abbrev pub M : Run → ℕ → ℕ → ℕ → ℕ → Type 0
M s f r v w = find r (s f).sent ≡ found v w

-- the value v is the proposal of some bench
pub record Proposed (s : Run) (v : ℕ) : Type 0 where
  pub by : ℕ
  pub by_world : ℕ
  pub by_message : M s by 1 v by_world

-- bench i has proposed, and d is not above its proposal
pub record NotAboveOwn (s : Run) (i d : ℕ) : Type 0 where
  pub own_value : ℕ
  pub own_world : ℕ
  pub own_message : M s i 1 own_value own_world
  pub not_above : d ≤ own_value

-- where a proposal of bench i after a step comes from: it was there before, or the step is a start that is done
pub data Proposal (n : ℕ) (s : Run) (a : Step) (i v w : ℕ) : Type 0 where
  earlier : M s i 1 v w → Proposal n s a i v w
  now : a ≡ start i v w → (step n s a).number ≡ 0 → Proposal n s a i v w
