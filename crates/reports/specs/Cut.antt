-- A run text cut behind its line k: the run after the first k lines, and the steps of the lines behind them; and the round that a report prints of a bench.
-- This file is to be believed: what docs/PAUSE.md says of reports is stated by it.
use Rattle.std.specs.Prelude.{List, ℕ, take, drop}
use Rattle.published.specs.Rounds.{Run, new_run, Step, run_from}
use Rattle.kinds.specs.declared.Size.{Size}
use Rattle.kinds.specs.Sizes.{benches_of}
use Rattle.spelling.specs.Text.{read_text}
use Rattle.reports.specs.RunReport.{steps_of, last_round}

abbrev pub run_at : Size → List ℕ → ℕ → Run
run_at size text k = run_from (benches_of size) new_run (steps_of (take k (read_text (benches_of size) text)))

abbrev pub steps_behind : Size → List ℕ → ℕ → List Step
steps_behind size text k = steps_of (drop k (read_text (benches_of size) text))

abbrev pub printed_round : Run → ℕ → ℕ
printed_round s b = last_round 0 (s b).sent
