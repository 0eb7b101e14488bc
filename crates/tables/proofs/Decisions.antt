-- A decision as the tables hold it is that of the published run. Assumes nothing.
use Rattle.bench.specs.declared.Entry.{Entry}
use Rattle.bench.specs.declared.Bench.{Bench}
use mathlib.Core.Path.{◌≡◌, refl}
use mathlib.Core.List.{List}
use Prim.Native.Nat.{ℕ, suc}
use borrow.Author.Tests.{eq-eqb}
use Rattle.published.specs.Rounds.{chosen}
use Rattle.tables.specs.Rows.{rows}
use Rattle.tables.specs.Runs.{decision_of, bench_of, run_by, run_of}

-- a bench that chose has decided its value
pub decision_is_lem : (t : List Bench) (l : List (List Entry)) (k : ℕ) → (rows t k).chose ≡ 1 → (run_of t l (suc k)).decision ≡ chosen (rows t k).value.0
unfolding run_of run_by bench_of decision_of
decision_is_lem t l k e = rw (eq-eqb (rows t k).chose 1 e) refl
