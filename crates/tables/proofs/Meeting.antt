-- Every list of steps, by one step after the other: from sound tables, and from the empty ones. Assumes nothing.
use mathlib.Core.Path.{refl, ap, subst}
use mathlib.Core.List.{List, [], ◌∷◌}
use Prim.Native.Nat.{ℕ, ◌≤◌}
use Rattle.published.specs.Rounds.{Step, run_from, answers, new_run}
use Rattle.kinds.specs.Sizes.{places}
use Rattle.tables.specs.Steps.{Tables, table_step, tables_from, table_answers, empty_tables}
use Rattle.tables.specs.Runs.{run_of}
use Rattle.tables.specs.Sound.{Sound}
use Rattle.tables.specs.Meets.{Meets}
use Rattle.tables.proofs.Steps.{links}
use Rattle.tables.proofs.Empty.{empty_sound, empty_run}

module _ (N : ℕ) where
  sound_meet : (e : Tables) → Sound N e.benches e.logs → (l : List Step) → Meets N e l (run_of e.benches e.logs)
  unfolding answers table_answers run_from tables_from
  sound_meet e s [] = record { answers_are = refl; run_is = refl; stays = s }
  sound_meet e s (a ∷ l) =
      let k = links N e.benches e.logs s a in
      let m = sound_meet (table_step N e.benches e.logs a).tables k.sound l in
      record {
        answers_are = rw (k.number, k.run) (ap (λ (r : List ℕ). (table_step N e.benches e.logs a).answer ∷ r) m.answers_are);
        run_is = rw k.run m.run_is;
        stays = m.stays;
      }

  pub empty_meet : N ≤ places → (l : List Step) → Meets N empty_tables l new_run
  empty_meet fits l = subst (Meets N empty_tables l) empty_run (sound_meet empty_tables (empty_sound N fits) l)
