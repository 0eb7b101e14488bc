-- The seven steps on the two tables, for N benches: the answer and both tables after, for all tables that can be handed in.
-- Whatever N is, a table has `places` places and a log has room for `depth` rounds.
use Rattle.std.specs.Prelude.{◌≡◌, Bool, cond, not, ◌&&◌, ◌||◌, ℕ, ◌-◌, ◌^◌, List, [], ◌∷◌, eqb, ltb, get_or, set, replicate, Option, Some, None, Result, Ok, Err}
use Rattle.published.specs.Rounds.{Step, start, abstain, leave, fail, turn, arrive, notice}
use Rattle.common.specs.Benches.{is_bench}
use Rattle.kinds.specs.Sizes.{places, depth}
use Rattle.kinds.specs.Refusals.{number_of}
use Rattle.kinds.specs.declared.Refusal.{Refusal}
use Rattle.kinds.specs.declared.Message.{Message}
use Rattle.kinds.specs.declared.Message.TheVariants.{Round, Out}
use Rattle.bench.specs.declared.Bench.{Bench}
use Rattle.bench.specs.declared.Entry.{Entry}
use Rattle.bench.specs.Entries.{no_entry, entry}
use Rattle.bench.specs.declared.Turned.{Turned}
use Rattle.bench.specs.declared.Turn.{Turn}
use Rattle.bench.specs.declared.Turn.TheVariants.{Decided, Went}
use Rattle.common.specs.Places.{has, some}
use Rattle.bench.specs.Changes.{take_of, notice_of, in_state, in_round, sent_to, sent_out}
use Rattle.bench.specs.Turns.{turn_of}
pub use Rattle.tables.specs.declared.Tables.{Tables}
use Rattle.tables.specs.Rows.{blank, rows, logs}
use Rattle.tables.specs.Lines.{message, waiting_of, heard_of}

-- the answer and both tables of a step
pub record Act : Type 0 where
  pub answer : ℕ
  pub tables : Tables

-- an answer and two tables are those of a step: what every step promises
pub record Acts (r : ℕ) (t : List Bench) (l : List (List Entry)) (e : Act) : Type 0 where
  pub answer : r ≡ e.answer
  pub benches : t ≡ e.tables.benches
  pub logs : l ≡ e.tables.logs

abbrev pub refused : ℕ → List Bench → List (List Entry) → Act
refused n t l = record { answer = n; tables = record { benches = t; logs = l } }

abbrev pub acted : Tables → Act
acted e = record { answer = 0; tables = e }

-- bench k is now b
abbrev pub stored : List Bench → List (List Entry) → ℕ → Bench → Tables
stored t l k b = record { benches = set t k b; logs = l }

-- e at place i of log k
abbrev pub put_at : List (List Entry) → ℕ → ℕ → Entry → List (List Entry)
put_at l k i e = set l k (set (logs l k) i e)

-- bench k, now b, sends a message: it stands in its log, and the bench has it at once
unfoldable pub sent_of : List Bench → List (List Entry) → ℕ → Bench → Message → Tables
sent_of t l k b (Round m) =
    stored t (put_at l k (m.round.0 - 1) (record { value = m.value; world = m.world })) k (sent_to m.round.0 (take_of b k (Round m)))
sent_of t l k b Out = stored t l k (sent_out (take_of b k Out))

-- ---- the steps at place k, and from place j

-- bench j is running or decided, and not in the world
unfoldable pub lacks_at : List Bench → ℕ → ℕ → Bool
lacks_at t w j = (eqb (rows t j).state 1 || eqb (rows t j).state 2) && not (has w j)

unfoldable pub lacks_one : ℕ → List Bench → ℕ → Bool
lacks_one N t w = some (lacks_at t w) N

-- bench j ever started, with a world without bench k
unfoldable pub lacked_at : List Bench → List (List Entry) → ℕ → ℕ → Bool
lacked_at t l k j = ltb 0 (rows t j).sent && not (has (entry (logs l j) 0).world k)

unfoldable pub lacked_by_one : ℕ → List Bench → List (List Entry) → ℕ → Bool
lacked_by_one N t l k = some (lacked_at t l k) N

unfoldable pub start_at : ℕ → List Bench → List (List Entry) → ℕ → ℕ → ℕ → Act
start_at N t l v w k =
    cond (eqb (rows t k).state 0)
    (cond (ltb 65535 v) (refused 4 t l)
    (cond (ltb w (2 ^ N) && has w k)
    (cond (lacks_one N t w) (refused 6 t l)
    (cond (lacked_by_one N t l k) (refused 7 t l)
    (acted (sent_of t l k (in_round 1 (record { 0 = v }) w (rows t k)) (message 1 v w)))))
    (refused 5 t l)))
    (refused 3 t l)

unfoldable pub abstain_at : List Bench → List (List Entry) → ℕ → Act
abstain_at t l k = cond (eqb (rows t k).state 0) (acted (sent_of t l k (in_state 3 (rows t k)) Out)) (refused 3 t l)

unfoldable pub leave_at : List Bench → List (List Entry) → ℕ → Act
leave_at t l k =
    cond (ltb 3 (rows t k).state) (refused 3 t l)
    (acted (cond (eqb (rows t k).silent 1) (stored t l k (in_state 4 (rows t k))) (sent_of t l k (in_state 4 (rows t k)) Out)))

unfoldable pub fail_at : List Bench → List (List Entry) → ℕ → Act
fail_at t l k = cond (ltb 3 (rows t k).state) (refused 3 t l) (acted (stored t l k (in_state 5 (rows t k))))

unfoldable pub turn_by : List Bench → List (List Entry) → ℕ → Bench → Result Turn Refusal → Act
turn_by t l k b (Ok (Decided v m)) = acted (sent_of t l k b m)
turn_by t l k b (Ok (Went m)) = acted (sent_of t l k b m)
turn_by t l k b (Err r) = refused (number_of r) t l

unfoldable pub turn_on : List Bench → List (List Entry) → ℕ → Turned → Act
turn_on t l k r = turn_by t l k r.bench r.answer

unfoldable pub turn_at : ℕ → List Bench → List (List Entry) → ℕ → Act
turn_at N t l k = turn_on t l k (turn_of N (rows t k) (heard_of N l (rows t k)))

unfoldable pub take_next : List Bench → List (List Entry) → ℕ → ℕ → Option Message → Act
take_next t l k j (Some m) = acted (stored t l k (take_of (rows t k) j m))
take_next t l k j None = refused 8 t l

-- what waits for bench k on the line from bench j
unfoldable pub next_on : List Bench → List (List Entry) → ℕ → ℕ → Option Message
next_on t l k j = waiting_of (logs l j) (get_or (rows t k).taken j 0) (has (rows t k).outs j) (rows t j).sent (rows t j).silent

unfoldable pub arrive_at : List Bench → List (List Entry) → ℕ → ℕ → Act
arrive_at t l k j =
    cond (ltb 1 (rows t k).state) (refused 3 t l)
    (cond (has (rows t k).noticed j) (refused 9 t l) (take_next t l k j (next_on t l k j)))

unfoldable pub notice_at : List Bench → List (List Entry) → ℕ → ℕ → Act
notice_at t l k j =
    cond (ltb 1 (rows t k).state) (refused 3 t l)
    (cond (ltb 4 (rows t j).state)
    (cond (has (rows t k).noticed j) (refused 9 t l) (acted (stored t l k (notice_of (rows t k) j))))
    (refused 10 t l))

-- ---- the steps

-- check 1, and the bench's place
unfoldable pub at_bench : ℕ → List Bench → List (List Entry) → (ℕ → Act) → ℕ → Act
at_bench N t l f b = cond (is_bench N b) (f (b - 1)) (refused 1 t l)

-- checks 1 and 2, and the places of the bench and of the sender
unfoldable pub at_benches : ℕ → List Bench → List (List Entry) → (ℕ → ℕ → Act) → ℕ → ℕ → Act
at_benches N t l g b f = cond (is_bench N b && is_bench N f) (cond (eqb b f) (refused 2 t l) (g (b - 1) (f - 1))) (refused 1 t l)

unfoldable pub table_step : ℕ → List Bench → List (List Entry) → Step → Act
table_step N t l (start b v w) = at_bench N t l (start_at N t l v w) b
table_step N t l (abstain b) = at_bench N t l (abstain_at t l) b
table_step N t l (leave b) = at_bench N t l (leave_at t l) b
table_step N t l (fail b) = at_bench N t l (fail_at t l) b
table_step N t l (turn b) = at_bench N t l (turn_at N t l) b
table_step N t l (arrive b f) = at_benches N t l (arrive_at t l) b f
table_step N t l (notice b f) = at_benches N t l (notice_at t l) b f

-- ---- lists of steps

unfoldable pub tables_from : ℕ → Tables → List Step → Tables
tables_from N e [] = e
tables_from N e (a ∷ l) = tables_from N (table_step N e.benches e.logs a).tables l

unfoldable pub table_answers : ℕ → Tables → List Step → List ℕ
table_answers N e [] = []
table_answers N e (a ∷ l) = (table_step N e.benches e.logs a).answer ∷ table_answers N (table_step N e.benches e.logs a).tables l

unfoldable pub empty_tables : Tables
empty_tables = record { benches = replicate places blank; logs = replicate places (replicate depth no_entry) }
