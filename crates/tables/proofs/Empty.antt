-- The empty tables are sound, and stand for a new run. Assumes nothing.
use Rattle.bench.specs.declared.Entry.{Entry}
use Rattle.bench.specs.Entries.{no_entry}
use mathlib.Core.Path.{◌≡◌, refl, sym, ap, ◌∙◌, fun_ext, subst}
use mathlib.Core.Bool.{Bool, true, false, cond}
use mathlib.Core.List.{List, []}
use Prim.Native.Nat.{ℕ, zero, suc, ◌≤◌}
use native.Mathlib.Omega.{arith}
use lib.Dec.{eqb, ltb}
use lib.ListN.{replicate, length-replicate, get_or-replicate, get_or-eq_default}
use borrow.Author.Tests.{ltb-true, ltb-false}
use Rattle.published.specs.Rounds.{run_from, new_run, new_bench}
use Rattle.common.proofs.Tests.{split, clash}
use Rattle.bench.specs.declared.Bench.{Bench}
use Rattle.common.specs.Places.{has}
use Rattle.kinds.specs.Sizes.{places, depth}
use Rattle.tables.specs.Rows.{blank, rows, logs}
use Rattle.tables.specs.Steps.{empty_tables}
use Rattle.tables.specs.Runs.{messages_to, line_of, state_of, taken_by, noticed_by, decision_of, bench_of, run_by, run_of}
use Rattle.tables.specs.Sound.{Ok, Sound}
use Rattle.common.proofs.Sets.{has_none}
use Rattle.tables.proofs.Rows.{zeros}
use Rattle.tables.proofs.Change.{bench_path}

-- every bench of the empty table is blank, past its end too
blank_rows : rows empty_tables.benches ≡ λ (k : ℕ). blank
unfolding empty_tables
blank_rows = fun_ext λ k. split (ltb k places)
    (λ e. get_or-replicate places k blank blank (ltb-true k places e))
    (λ e. get_or-eq_default (replicate places blank) blank {n = k} (rw (length-replicate places blank) (ltb-false k places e)))

none_has : (j : ℕ) {A : Type 0} → has 0 j ≡ true → A
none_has j e = let h = has_none j in clash (cc)

module _ (N : ℕ) where
  blank_ok : (L : ℕ → List Entry) → Ok N (λ k. blank) L
  blank_ok L = record {
    fit = λ k. record {
      size = length-replicate {A = ℕ} places 0;
      live = λ e. (refl, refl);
      fresh = λ e. refl;
      running = λ e. absurd (omega arith);
      decided = λ e. absurd (omega arith);
      abstained = λ e. refl;
    };
    own = λ k. zeros places k;
    own_out = λ k. has_none k;
    line = λ k j. rw (zeros places j) (omega arith);
    end = λ k j e. none_has j e;
    worlds = λ k i h. absurd (omega arith);
  }

blank_run : (L : ℕ → List Entry) → run_by (λ k. blank) L ≡ new_run
unfolding run_by new_run new_bench bench_of line_of messages_to taken_by noticed_by decision_of state_of
blank_run L = fun_ext go
  where
    taken : (k f : ℕ) → taken_by L k (blank) f ≡ []
    taken k zero = refl
    taken k (suc j) = rw (zeros places j, has_none j) (nothing (eqb j k))
      where
        nothing : (c : Bool) → cond c [] (line_of (L j) 0 false) ≡ []
        nothing true = refl
        nothing false = refl

    noticed : (f : ℕ) → noticed_by 0 f ≡ false
    noticed zero = refl
    noticed (suc j) = has_none j

    go : (i : ℕ) → run_by (λ k. blank) L i ≡ new_run i
    go zero = refl
    go (suc k) = bench_path _ _ refl refl refl refl refl (fun_ext (taken k)) (fun_ext noticed) refl

pub empty_run : run_of empty_tables.benches empty_tables.logs ≡ new_run
unfolding run_of
empty_run = ap (λ (B : ℕ → Bench). run_by B (logs empty_tables.logs)) blank_rows ∙ blank_run (logs empty_tables.logs)

pub empty_sound : (N : ℕ) → N ≤ places → Sound N empty_tables.benches empty_tables.logs
empty_sound N fits = record {
  fits = fits;
  benches = unfold empty_tables in length-replicate places blank;
  books = unfold empty_tables in length-replicate places (replicate depth no_entry);
  ok = subst (λ (B : ℕ → Bench). Ok N B (logs empty_tables.logs)) (sym blank_rows) (blank_ok N (logs empty_tables.logs));
  logs = λ k h. unfold empty_tables in rw (get_or-replicate places k (replicate depth no_entry) [] h) (length-replicate depth no_entry);
  steps = [];
  led = unfold run_from in sym empty_run;
}
