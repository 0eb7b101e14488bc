-- What every step promises settles its result and both tables, and a step that is refused leaves both tables. Assumes nothing.
use mathlib.Core.Path.{◌≡◌}
use Prim.Native.Nat.{ℕ}
use Rattle.std.specs.Prelude.{Result, Err}
use Rattle.published.specs.Rounds.{Step}
use Rattle.kinds.specs.declared.Refusal.{Refusal}
use Rattle.kinds.specs.Refusals.{number_of, answer_of}
use Rattle.kinds.proofs.Refusals.{never_done, same_result}
use Rattle.tables.specs.declared.Tables.{Tables}
use Rattle.tables.specs.Steps.{table_step}
use Rattle.tables.proofs.Theorems.{acts_settle}
use Rattle.tables.proofs.Refusing.{refused_keeps}
use Rattle.rounds.specs.Stepped.{Stepped}

module _ (N : ℕ) (before : Tables) (a : Step) where
  -- Two results with their tables that one step allows are equal: what was refused, and every word of both tables.
  pub steps_settle : (r r' : Result (Unit {0}) Refusal) (after after' : Tables) → Stepped N (answer_of r) before after a → Stepped N (answer_of r') before after' a → (r ≡ r') × (after ≡ after')
  steps_settle r r' after after' p q =
      let e = acts_settle (table_step N before.benches before.logs a) (answer_of r) (answer_of r') after.benches after'.benches after.logs after'.logs p q in
      (same_result r r' e.0, λ i. record { benches = e.1 i; logs = e.2 i })

  -- Where a step is refused, every word of both tables is as it was, whatever tables are handed in.
  pub refused_step_keeps : (e : Refusal) (after : Tables) → Stepped N (answer_of {A = Unit {0}} (Err e)) before after a → after ≡ before
  refused_step_keeps e after p =
      let k = refused_keeps N before.benches before.logs a (number_of e) after.benches after.logs p (never_done e) in
      λ i. record { benches = k.0 i; logs = k.1 i }
