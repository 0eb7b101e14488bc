-- What it means that the tables are the published rounds: of one step, and of a list of steps. N benches.
-- This file is to be believed: the theorems of proofs/Theorems.antt are these statements.
use Rattle.std.specs.Prelude.{◌≡◌, List, ℕ}
use Rattle.published.specs.Rounds.{Step, Run, Answer, run_from, answers}
use Rattle.tables.specs.Steps.{Tables, Act, tables_from, table_answers}
use Rattle.tables.specs.Runs.{run_of}
use Rattle.tables.specs.Sound.{Sound}

-- the tables' answer is the published one, the tables after it stand for the published run, and they are sound
pub record Links (N : ℕ) (e : Act) (a : Answer) : Type 0 where
  pub number : a.number ≡ e.answer
  pub run : a.run ≡ run_of e.tables.benches e.tables.logs
  pub sound : Sound N e.tables.benches e.tables.logs

-- the tables e and the run s give the same answers to the steps l, and the tables after them stand for the run after them
pub record Meets (N : ℕ) (e : Tables) (l : List Step) (s : Run) : Type 0 where
  pub answers_are : answers N s l ≡ table_answers N e l
  pub run_is : run_from N s l ≡ run_of (tables_from N e l).benches (tables_from N e l).logs
  pub stays : Sound N (tables_from N e l).benches (tables_from N e l).logs
