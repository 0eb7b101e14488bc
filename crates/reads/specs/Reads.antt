-- What is read of a bench by its number. Where a table has no such place it reads as fresh.
use Rattle.std.specs.Prelude.{cond, List, ℕ, ◌-◌}
use Rattle.published.specs.Rounds as published
use Rattle.common.specs.Benches.{is_bench}
use Rattle.kinds.specs.Sizes.{places}
use Rattle.bench.specs.declared.Bench.{Bench}
use Rattle.tables.specs.Rows.{rows}
use Rattle.tables.specs.Runs.{decision_of}

unfoldable pub state_word : List Bench → ℕ → ℕ
state_word t b = cond (is_bench places b) (rows t (b - 1)).state 0

unfoldable pub sent_word : List Bench → ℕ → ℕ
sent_word t b = cond (is_bench places b) (rows t (b - 1)).sent 0

unfoldable pub decision_at : List Bench → ℕ → published.Decision
decision_at t b = cond (is_bench places b) (decision_of (rows t (b - 1)).chose (rows t (b - 1)).value.0) published.none
