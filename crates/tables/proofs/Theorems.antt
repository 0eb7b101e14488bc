-- What is proved of the two tables, for any N benches that they have room for: they are the published rounds, so decisions agree, without further failures
-- two rounds more are enough, and no log is ever full; what a step promises settles everything; a turn is local. Each statement stands below its words, the
-- proofs are in the other files. Assumes nothing.
use Rattle.bench.specs.declared.Entry.{Entry}
use mathlib.Core.Path.{◌≡◌, refl, sym, ap, ◌∙◌}
use mathlib.Core.List.{List, ◌++◌}
use Prim.Native.Nat.{ℕ, suc, ◌+◌, ◌*◌, ◌≤◌, ◌<◌}
use lib.ListN.{get_or}
use Rattle.std.specs.Prelude.{Result, Ok, Err}
use Rattle.published.specs.Rounds.{Run, Step, start, turn, step, run_from, new_run, chosen}
use Rattle.published.proofs.Theorems as published
use Rattle.published.specs.History.{history}
use Rattle.bench.specs.declared.Bench.{Bench}
use Rattle.bench.specs.declared.Turn.{Turn}
use Rattle.bench.specs.declared.Turn.TheVariants.{Decided, Went}
use Rattle.bench.specs.Turns.{turn_of}
use Rattle.kinds.specs.Sizes.{benches_of, places, depth}
use Rattle.kinds.specs.declared.Size.{Size}
use Rattle.kinds.specs.declared.Refusal.{Refusal}
use Rattle.kinds.specs.Refusals.{answer_of}
use Rattle.kinds.proofs.Sizes.{benches_fit}
use Rattle.tables.specs.Rows.{rows, logs}
use Rattle.tables.specs.Lines.{heard_of}
use Rattle.tables.specs.Steps.{Act, Acts, turn_by, turn_on, turn_at, table_step, tables_from, empty_tables}
use Rattle.tables.specs.Runs.{run_of}
use Rattle.tables.specs.Sound.{Sound}
use Rattle.tables.specs.Meets.{Links, Meets}
use Rattle.tables.specs.Decided.{Chose, value, last_sent}
use Rattle.tables.specs.Local.{KeepsRounds}
use Rattle.published.specs.Accepted.{Accepted}
use Rattle.published.specs.Pause.{NoFailDone}
use Rattle.published.proofs.Starts.{accepted_start}
use Rattle.tables.proofs.Steps.{links}
use Rattle.tables.proofs.Empty as empty
use Rattle.tables.proofs.Meeting.{empty_meet}
use Rattle.tables.proofs.Decisions.{decision_is_lem}
use Rattle.tables.proofs.Counts.{rows_above, above_rows, sent_few, sent_fits}
use Rattle.tables.proofs.Local.{heard_local}
use Rattle.tables.proofs.Refusing as refusing

-- ---- the tables are the published rounds

-- The empty tables are sound, and stand for a new run.
pub empty_sound : (N : ℕ) → N ≤ places → Sound N empty_tables.benches empty_tables.logs
empty_sound = empty.empty_sound

pub empty_run : run_of empty_tables.benches empty_tables.logs ≡ new_run
empty_run = empty.empty_run

-- One step on sound tables: the answer is the published one, the tables after it stand for the published run, and they are sound again.
pub step_links : (N : ℕ) (t : List Bench) (l : List (List Entry)) → Sound N t l → (a : Step) → Links N (table_step N t l a) (step N (run_of t l) a)
step_links = links

-- The same of an answer and two tables that are promised to be those of a step.
pub promise_links : (N : ℕ) (t : List Bench) (l : List (List Entry)) → Sound N t l → (a : Step)
    → (r : ℕ) (t' : List Bench) (l' : List (List Entry)) → Acts r t' l' (table_step N t l a)
    → Links N (record { answer = r; tables = record { benches = t'; logs = l' } }) (step N (run_of t l) a)
promise_links N t l s a r t' l' p = rw (p.answer, p.benches, p.logs) (step_links N t l s a)

-- Every list of steps from the empty tables gets the published answers, and the tables after it stand for the published run.
pub tables_meet : (N : ℕ) → N ≤ places → (l : List Step) → Meets N empty_tables l new_run
tables_meet = empty_meet

-- The same for every size.
pub size_meets : (z : Size) (l : List Step) → Meets (benches_of z) empty_tables l new_run
size_meets z = tables_meet (benches_of z) (benches_fit z)

-- ---- after any list of steps from the empty tables

module _ (N : ℕ) (fits : N ≤ places) (l : List Step) where
  decided : (k : ℕ) → Chose N l k → (run_from N new_run l (suc k)).decision ≡ chosen (value N l k)
  decided k c =
      let after = tables_from N empty_tables l in
      ap (λ (s : Run). (s (suc k)).decision) (tables_meet N fits l).run_is ∙ decision_is_lem after.benches after.logs k c

  -- Agreement: any two rows that have decided hold one value, those of benches that left or failed later included.
  pub agreement : (i j : ℕ) → Chose N l i → Chose N l j → value N l i ≡ value N l j
  agreement i j c d = published.agreement N l (suc i) (suc j) (value N l i) (value N l j) (decided i c) (decided j d)

  -- Validity: the value was given by a start that was accepted.
  pub validity : (k : ℕ) → Chose N l k → (b : ℕ) × (w : ℕ) × Accepted N (start b (value N l k) w) new_run l
  validity k c =
      let p = published.validity N l (suc k) (value N l k) (decided k c) in
      (p.by, p.by_world, accepted_start N p.by (value N l k) p.by_world l p.by_message)

  -- No bench decides above its own proposal: it was started, with a value not below.
  pub not_above_own : (k : ℕ) → Chose N l k → (v : ℕ) × (w : ℕ) × (Accepted N (start (suc k) v w) new_run l) × (value N l k ≤ v)
  not_above_own k c =
      let p = published.not_above_own N l (suc k) (value N l k) (decided k c) in
      (p.own_value, p.own_world, accepted_start N (suc k) p.own_value p.own_world l p.own_message, p.not_above)

-- ---- how long after the last lid

-- Where every row says that its bench has last sent round r or an earlier one, r being at least 1, and no fail step is done from there on, no row ever says a round above r + 2.
pub two_more : (N : ℕ) → N ≤ places → (l : List Step) (r : ℕ) → 1 ≤ r → ((k : ℕ) → last_sent N l k ≤ r)
    → (m : List Step) → NoFailDone N (run_from N new_run l) m → (k : ℕ) → last_sent N (l ++ m) k ≤ r + 2
two_more N fits l r pos below m nf =
    let before = tables_from N empty_tables l in let after = tables_from N empty_tables (l ++ m) in
    above_rows after.benches after.logs (r + 2) (rw (← (tables_meet N fits (l ++ m)).run_is)
    (published.two_more N l r pos (rw (tables_meet N fits l).run_is (rows_above before.benches before.logs r below)) m nf))

-- ---- how far rounds come

-- No row ever says a round above 2 N + 1, so a log has room for all that is sent.
pub rounds_end : (N : ℕ) → N ≤ places → (l : List Step) (k : ℕ) → last_sent N l k ≤ 2 * N + 1
rounds_end N fits l = sent_few N (tables_from N empty_tables l).benches (tables_from N empty_tables l).logs (tables_meet N fits l).stays

pub log_suffices : (N : ℕ) → N ≤ places → (l : List Step) (k : ℕ) → last_sent N l k ≤ depth
log_suffices N fits l = sent_fits N (tables_from N empty_tables l).benches (tables_from N empty_tables l).logs (tables_meet N fits l).stays

-- Whatever tables are handed in, no step answers 12, nor any number above it.
pub answer_upto_11 : (N : ℕ) (t : List Bench) (l : List (List Entry)) (a : Step) → (table_step N t l a).answer ≤ 11
answer_upto_11 = refusing.answer_upto_11

-- ---- a promise settles everything

-- Two answers with their tables that are both those of one step are equal: the number, and every word of both tables.
pub acts_settle : (e : Act) (r r' : ℕ) (t t' : List Bench) (l l' : List (List Entry)) → Acts r t l e → Acts r' t' l' e → (r ≡ r') × (t ≡ t') × (l ≡ l')
acts_settle e r r' t t' l l' p q = (p.answer ∙ sym q.answer, p.benches ∙ sym q.benches, p.logs ∙ sym q.logs)

-- ---- locality of turn

-- A turn depends on the bench's own row and on the log entries that it has taken, in all tables that can be handed in.
pub turn_local : (N : ℕ) (t : List Bench) (l : List (List Entry)) (t' : List Bench) (l' : List (List Entry)) (k : ℕ) → rows t k ≡ rows t' k
    → ((j : ℕ) → j < N → KeepsRounds (logs l j) (logs l' j) (get_or (rows t k).taken j 0))
    → turn_of N (rows t k) (heard_of N l (rows t k)) ≡ turn_of N (rows t' k) (heard_of N l' (rows t' k))
turn_local N t l t' l' k e same = rw (← e, heard_local N (rows t k) l l' same) refl

-- A turn is answered by the number of what the bench by value answers.
pub turn_number : (N : ℕ) (t : List Bench) (l : List (List Entry)) (k : ℕ) → (turn_at N t l k).answer ≡ answer_of (turn_of N (rows t k) (heard_of N l (rows t k))).answer
unfolding turn_at turn_on turn_by
turn_number N t l k = said _ (turn_of N (rows t k) (heard_of N l (rows t k))).answer
  where
    said : (b : Bench) (a : Result Turn Refusal) → (turn_by t l k b a).answer ≡ answer_of a
    said b (Ok (Decided v m)) = refl
    said b (Ok (Went m)) = refl
    said b (Err r) = refl

-- After two lists of steps that bring the same history to a bench, turn answers it the same number.
pub turn_answer_local : (N : ℕ) → N ≤ places → (l l' : List Step) (b : ℕ) → history N new_run b l ≡ history N new_run b l'
    → (table_step N (tables_from N empty_tables l).benches (tables_from N empty_tables l).logs (turn b)).answer
    ≡ (table_step N (tables_from N empty_tables l').benches (tables_from N empty_tables l').logs (turn b)).answer
turn_answer_local N fits l l' b e = sym (number l) ∙ published.turn_number_local N l l' b e ∙ number l'
  where
    number : (m : List Step) → (step N (run_from N new_run m) (turn b)).number
        ≡ (table_step N (tables_from N empty_tables m).benches (tables_from N empty_tables m).logs (turn b)).answer
    number m = let t = tables_meet N fits m in
        rw t.run_is (step_links N (tables_from N empty_tables m).benches (tables_from N empty_tables m).logs t.stays (turn b)).number
