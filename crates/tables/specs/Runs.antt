-- The run of `published` that two tables stand for. This file is to be believed: promises above the tables speak of this run.
use Rattle.std.specs.Prelude.{Bool, false, cond, List, [], ◌∷◌, ◌++◌, ℕ, zero, suc, eqb, get_or}
use Rattle.published.specs.Rounds as published
use Rattle.published.specs.Rounds.{Message, Round, Out, State, fresh, running, decided, abstained, left, failed, Decision, none, chosen, Run, new_bench}
use Rattle.bench.specs.declared.Bench.{Bench}
use Rattle.bench.specs.declared.Entry.{Entry}
use Rattle.bench.specs.Entries.{entry}
use Rattle.common.specs.Places.{has}
use Rattle.tables.specs.Rows.{rows, logs}

-- a log's messages of rounds 1 to n
unfoldable pub messages_to : List Entry → ℕ → List Message
messages_to log zero = []
messages_to log (suc n) = messages_to log n ++ (Round (suc n) (entry log n).value.0 (entry log n).world ∷ [])

-- and then OUT, if it has come
unfoldable pub line_of : List Entry → ℕ → Bool → List Message
line_of log n out = messages_to log n ++ cond out (Out ∷ []) []

unfoldable pub state_of : ℕ → State
state_of zero = fresh
state_of (suc zero) = running
state_of (suc (suc zero)) = decided
state_of (suc (suc (suc zero))) = abstained
state_of (suc (suc (suc (suc zero)))) = left
state_of (suc (suc (suc (suc (suc n))))) = failed

-- what bench k + 1, now b, has taken of each other bench
unfoldable pub taken_by : (ℕ → List Entry) → ℕ → Bench → ℕ → List Message
taken_by L k b zero = []
taken_by L k b (suc j) = cond (eqb j k) [] (line_of (L j) (get_or b.taken j 0) (has b.outs j))

unfoldable pub noticed_by : ℕ → ℕ → Bool
noticed_by set zero = false
noticed_by set (suc j) = has set j

unfoldable pub decision_of : ℕ → ℕ → Decision
decision_of chose v = cond (eqb chose 1) (chosen v) none

unfoldable pub bench_of : (ℕ → List Entry) → ℕ → Bench → published.Bench
bench_of L k b =
    record {
      state = state_of b.state;
      round = b.round.0;
      value = b.value.0;
      world = b.world;
      sent = line_of (L k) b.sent (eqb b.silent 1);
      taken = taken_by L k b;
      noticed = noticed_by b.noticed;
      decision = decision_of b.chose b.value.0;
    }

-- the run of benches and logs given by place
unfoldable pub run_by : (ℕ → Bench) → (ℕ → List Entry) → Run
run_by B L zero = new_bench
run_by B L (suc k) = bench_of L k (B k)

unfoldable pub run_of : List Bench → List (List Entry) → Run
run_of t l = run_by (rows t) (logs l)
