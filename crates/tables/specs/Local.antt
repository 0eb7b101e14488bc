-- What it means that one log keeps what another has of the first rounds. This file is to be believed: `turn_local` is stated by it.
use Rattle.std.specs.Prelude.{◌≡◌, List, ℕ, ◌<◌}
use Rattle.bench.specs.declared.Entry.{Entry}
use Rattle.bench.specs.Entries.{entry}

-- log' has the entries of log for the rounds up to m
abbrev pub KeepsRounds : List Entry → List Entry → ℕ → Type 0
KeepsRounds log log' m = (q : ℕ) → q < m → entry log' q ≡ entry log q
