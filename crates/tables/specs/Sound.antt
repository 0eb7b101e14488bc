-- What holds of two tables that steps have made from the empty ones, for N benches. Behind the last place stand blank benches and empty logs, so
-- every statement is for all places.
use Rattle.std.specs.Prelude.{◌≡◌, true, false, List, ℕ, ◌^◌, ◌≤◌, ◌<◌, eqb, get_or, length}
use Rattle.published.specs.Rounds.{Step, run_from, new_run}
use Rattle.kinds.specs.Sizes.{places, depth}
use Rattle.bench.specs.declared.Bench.{Bench}
use Rattle.bench.specs.declared.Entry.{Entry}
use Rattle.bench.specs.Entries.{entry}
use Rattle.common.specs.Places.{has}
use Rattle.tables.specs.Rows.{rows, logs}
use Rattle.tables.specs.Runs.{run_of}

-- one bench by itself
pub record Fit (N : ℕ) (b : Bench) : Type 0 where
  -- it counts the messages of each place
  pub size : length b.taken ≡ places
  -- fresh or running: it has neither sent OUT nor decided
  pub live : b.state ≤ 1 → (eqb b.silent 1 ≡ false) × (eqb b.chose 1 ≡ false)
  -- fresh: it has sent nothing
  pub fresh : b.state ≡ 0 → b.sent ≡ 0
  -- running: its round is the last that it sent, and its world names no bench above N
  pub running : b.state ≡ 1 → (b.round.0 ≡ b.sent) × (1 ≤ b.sent) × (b.world < 2 ^ N)
  -- decided: it has sent a round message
  pub decided : b.state ≡ 2 → 1 ≤ b.sent
  -- abstained: it has sent none
  pub abstained : b.state ≡ 3 → b.sent ≡ 0

-- benches and their logs together
pub record Ok (N : ℕ) (B : ℕ → Bench) (L : ℕ → List Entry) : Type 0 where
  pub fit : (k : ℕ) → Fit N (B k)
  -- a bench has taken its own messages
  pub own : (k : ℕ) → get_or (B k).taken k 0 ≡ (B k).sent
  pub own_out : (k : ℕ) → has (B k).outs k ≡ eqb (B k).silent 1
  -- nothing is taken that was not sent, and OUT is the last
  pub line : (k j : ℕ) → get_or (B k).taken j 0 ≤ (B j).sent
  pub end : (k j : ℕ) → has (B k).outs j ≡ true → (eqb (B j).silent 1 ≡ true) × (get_or (B k).taken j 0 ≡ (B j).sent)
  -- a world that was sent names no bench above N
  pub worlds : (k i : ℕ) → i < (B k).sent → (entry (L k) i).world < 2 ^ N

pub record Sound (N : ℕ) (t : List Bench) (l : List (List Entry)) : Type 0 where
  -- the tables have room for N benches
  pub fits : N ≤ places
  pub benches : length t ≡ places
  pub books : length l ≡ places
  pub ok : Ok N (rows t) (logs l)
  pub logs : (k : ℕ) → k < places → length (logs l k) ≡ depth
  -- some steps lead to the run that they stand for: so no round is sent for which a log has no room
  pub steps : List Step
  pub led : run_from N new_run steps ≡ run_of t l
