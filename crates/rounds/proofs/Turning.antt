-- What a turn sends has room in the log, and a law for each end of a turn over the tables. Assumes nothing.
use mathlib.Core.Path.{◌≡◌, refl, sym, ap, ◌∙◌, subst}
use mathlib.Core.List.{List}
use mathlib.Core.Bool.{true}
use Prim.Native.Nat.{ℕ, ◌-◌}
use Rattle.common.specs.Benches.{is_bench}
use Rattle.published.specs.Rounds.{turn}
use Rattle.std.specs.Prelude.{Result, Ok, Err}
use Rattle.kinds.specs.declared.Refusal.{Refusal}
use Rattle.kinds.specs.Refusals.{answer_of}
use Rattle.bench.specs.declared.Bench.{Bench}
use Rattle.bench.specs.declared.Entry.{Entry}
use Rattle.bench.specs.declared.Heard.{Heard}
use Rattle.bench.specs.declared.Turn.{Turn}
use Rattle.bench.specs.declared.Turn.TheVariants.{Decided, Went}
use Rattle.bench.specs.declared.Turned.{Turned}
use Rattle.bench.specs.Changes.{in_round}
use Rattle.bench.specs.Turns.{message_of, go_on_of, turn_of}
use Rattle.bench.proofs.Answers.{next_fits, turn_ind}
use Rattle.tables.specs.Rows.{rows}
use Rattle.tables.specs.Lines.{heard_of}
use Rattle.tables.specs.declared.Tables.{Tables}
use Rattle.tables.specs.Steps.{Acts, acted, sent_of, turn_by, turn_on, turn_at, at_bench, table_step}
use Rattle.rounds.specs.Sending.{HasRoom}

abbrev Sends : Result Turn Refusal → Type 0
Sends (Ok a) = HasRoom (message_of a)
Sends (Err r) = Unit {0}

-- what it sends has room in a log
sends : (n : ℕ) (b : Bench) (h : Heard) → Sends (turn_of n b h).answer
unfolding go_on_of in_round
sends n b h = turn_ind n b h (λ r. Sends r.answer) tt tt tt (next_fits b.round.0)

module _ (n : ℕ) (t : List Bench) (l : List (List Entry)) (k : ℕ) (h : Heard) (is_h : h ≡ heard_of n l (rows t k)) (r : Turned) (is_r : r ≡ turn_of n (rows t k) h) where
  pub has_room : (a : Turn) → r.answer ≡ Ok a → HasRoom (message_of a)
  has_room a e = subst Sends (sym (ap (λ (x : Turned). x.answer) is_r) ∙ e) (sends n (rows t k) h)

  turned : turn_at n t l k ≡ turn_by t l k r.bench r.answer
  unfolding turn_at turn_on
  turned = rw (← is_h, ← is_r) refl

  sends_it : (a : Turn) → turn_by t l k r.bench (Ok a) ≡ acted (sent_of t l k r.bench (message_of a))
  unfolding turn_by
  sends_it (Decided v m) = refl
  sends_it (Went m) = refl

  module _ (b : ℕ) (known : (is_bench n b ≡ true) × (k ≡ b - 1)) where
    whole : table_step n t l (turn b) ≡ turn_at n t l k
    unfolding table_step at_bench
    whole = rw (known.0, known.1) refl

    pub turn_done : (a : Turn) (x : Tables) → r.answer ≡ Ok a → x ≡ sent_of t l k r.bench (message_of a) → Acts 0 x.benches x.logs (table_step n t l (turn b))
    turn_done a x e d = rw (d, whole, turned) (rw (e, sends_it a) (record { answer = refl; benches = refl; logs = refl }))

    pub turn_refused : (x : Refusal) (q : Result (Unit {0}) Refusal) → r.answer ≡ Err x → q ≡ Err x → Acts (answer_of q) t l (table_step n t l (turn b))
    unfolding turn_by
    turn_refused x q e i = rw (whole, turned) (rw (e, i) (record { answer = refl; benches = refl; logs = refl }))
