-- What is read of a bench by its number, and what it says of the run that the tables stand for. Assumes nothing.
use mathlib.Core.Path.{◌≡◌, refl}
use mathlib.Core.Bool.{true}
use mathlib.Core.List.{List}
use Prim.Native.Nat.{ℕ, zero, suc, ◌-◌}
use native.Mathlib.Nat.{not-suc-le-zero}
use native.Mathlib.Omega.{arith}
use lib.Dec.{eqb}
use Rattle.common.specs.Benches.{is_bench}
use Rattle.sets.proofs.Numbers.{bench_first}
use Rattle.kinds.specs.Sizes.{places}
use Rattle.bench.specs.declared.Bench.{Bench}
use Rattle.bench.specs.declared.Entry.{Entry}
use Rattle.tables.specs.Rows.{rows, logs}
use Rattle.tables.specs.Runs.{line_of, state_of, bench_of, run_by, run_of}
use Rattle.reads.specs.Reads.{state_word, sent_word, decision_at}

-- where a table has a place the words are the run's
module _ (t : List Bench) (l : List (List Entry)) where
  pub state_stands : (b : ℕ) → is_bench places b ≡ true → state_of (state_word t b) ≡ (run_of t l b).state
  unfolding state_word run_of run_by bench_of
  state_stands zero e = absurd (not-suc-le-zero (bench_first places 0 e))
  state_stands (suc k) e = let i : suc k - 1 ≡ k = omega arith in rw (e, i) refl

  pub decision_stands : (b : ℕ) → is_bench places b ≡ true → decision_at t b ≡ (run_of t l b).decision
  unfolding decision_at run_of run_by bench_of
  decision_stands zero e = absurd (not-suc-le-zero (bench_first places 0 e))
  decision_stands (suc k) e = let i : suc k - 1 ≡ k = omega arith in rw (e, i) refl

  -- its messages are those of rounds 1 to the last sent, and then OUT if it sent it
  pub sent_stands : (k : ℕ) → is_bench places (suc k) ≡ true → (run_of t l (suc k)).sent ≡ line_of (logs l k) (sent_word t (suc k)) (eqb (rows t k).silent 1)
  unfolding sent_word run_of run_by bench_of
  sent_stands k e = let i : suc k - 1 ≡ k = omega arith in rw (e, i) refl
