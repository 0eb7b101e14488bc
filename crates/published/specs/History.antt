-- The history of one bench in a list of steps: what was done at it, and the messages it took. This file is to be believed: it says what locality means,
-- since whatever is not in a bench's history cannot matter to it.
use Rattle.std.specs.Prelude.{ℕ, cond, ◌&&◌, List, [], ◌∷◌, ◌++◌, eqb}
use Rattle.published.specs.Rounds.{Run, Bench, Message, abstained, failed, in_state, entering, parting, leaving, turned, taking, noticing, waiting, Step, start, abstain, leave, fail, turn, arrive, notice, step}

-- ---- what befalls a bench

pub data Event : Type 0 where
  started : ℕ → ℕ → Event
  abstains leaves fails turns : Event
  took : ℕ → Message → Event
  noticed : ℕ → Event

-- what it makes of bench b: a function of the bench alone
unfoldable pub befalls : ℕ → ℕ → Bench → Event → Bench
befalls n b x (started v w) = entering 1 v w x
befalls n b x abstains = parting abstained x
befalls n b x leaves = leaving x
befalls n b x fails = in_state failed x
befalls n b x turns = turned n b x
befalls n b x (took f m) = taking f m x
befalls n b x (noticed f) = noticing f x

unfoldable pub replay : ℕ → ℕ → Bench → List Event → Bench
replay n b x [] = x
replay n b x (e ∷ l) = replay n b (befalls n b x e) l

-- ---- the history of a bench in a list of steps

unfoldable pub bench_of : Step → ℕ
bench_of (start b v w) = b
bench_of (abstain b) = b
bench_of (leave b) = b
bench_of (fail b) = b
bench_of (turn b) = b
bench_of (arrive b f) = b
bench_of (notice b f) = b

-- the first message is taken, if there is one
unfoldable pub took_first : ℕ → List Message → List Event
took_first f [] = []
took_first f (m ∷ l) = took f m ∷ []

unfoldable pub events_of : Run → Step → List Event
events_of s (start b v w) = started v w ∷ []
events_of s (abstain b) = abstains ∷ []
events_of s (leave b) = leaves ∷ []
events_of s (fail b) = fails ∷ []
events_of s (turn b) = turns ∷ []
events_of s (arrive b f) = took_first f (waiting s b f)
events_of s (notice b f) = noticed f ∷ []

-- what a step brings to bench b: something only where it is done, and done at b
unfoldable pub brings : ℕ → Run → ℕ → Step → List Event
brings n s b a = cond (eqb (step n s a).number 0 && eqb (bench_of a) b) (events_of s a) []

unfoldable pub history : ℕ → Run → ℕ → List Step → List Event
history n s b [] = []
history n s b (a ∷ l) = brings n s b a ++ history n (step n s a).run b l
