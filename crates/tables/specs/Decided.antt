-- What the table of benches says of decisions and of rounds after a list of steps from the empty tables, for N benches.
-- This file is to be believed: that decisions agree, and how far and how long rounds go, is stated by it.
use Rattle.std.specs.Prelude.{◌≡◌, List, ℕ}
use Rattle.published.specs.Rounds.{Step}
use Rattle.bench.specs.declared.Bench.{Bench}
use Rattle.tables.specs.Rows.{rows}
use Rattle.tables.specs.Steps.{tables_from, empty_tables}

module _ (N : ℕ) (l : List Step) where
  -- bench k + 1 as the table then has it
  abbrev pub bench : ℕ → Bench
  bench k = rows (tables_from N empty_tables l).benches k

  -- it has decided, and on this value
  abbrev pub Chose : ℕ → Type 0
  Chose k = (bench k).chose ≡ 1

  abbrev pub value : ℕ → ℕ
  value k = (bench k).value.0

  -- the last round that it has sent, 0 if none
  abbrev pub last_sent : ℕ → ℕ
  last_sent k = (bench k).sent
