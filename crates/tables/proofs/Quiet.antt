-- Steps that send and take nothing: a bench leaves quietly, fails, or notices. Assumes nothing.
use Rattle.bench.specs.declared.Entry.{Entry}
use mathlib.Core.Path.{◌≡◌, refl, sym, fun_ext}
use mathlib.Core.Bool.{Bool, true}
use mathlib.Core.List.{List}
use Prim.Native.Nat.{ℕ, zero, suc, ◌^◌, ◌≤◌, ◌<◌}
use native.Mathlib.Omega.{arith}
use lib.Bits.{bit_or}
use Rattle.published.specs.Rounds as published
use Rattle.common.specs.Updates.{put}
use Rattle.published.specs.Rounds.{done, noticing}
use Rattle.common.proofs.Updates.{put_ind, put_other}
use Rattle.bench.specs.declared.Bench.{Bench}
use Rattle.common.specs.Places.{has}
use Rattle.bench.specs.Changes.{notice_of, in_state}
use Rattle.tables.specs.Rows.{rows, logs}
use Rattle.tables.specs.Steps.{acted, stored}
use Rattle.tables.specs.Runs.{state_of, taken_by, noticed_by, bench_of, run_by, run_of}
use Rattle.tables.specs.Sound.{Fit, Sound}
use Rattle.common.proofs.Sets.{joined_same, joined_other}
use Rattle.tables.proofs.Change.{Linked, bench_path, remains, idle}

module _ (N : ℕ) where
  -- in state 4 or above a bench takes no part any more
  fit_gone : (b : Bench) (st : ℕ) → 4 ≤ st → Fit N b → Fit N (in_state st b)
  unfolding in_state
  fit_gone b st h f = record {
    size = f.size;
    live = λ e. absurd (omega arith);
    fresh = λ e. absurd (omega arith);
    running = λ e. absurd (omega arith);
    decided = λ e. absurd (omega arith);
    abstained = λ e. absurd (omega arith);
  }

  fit_notice : (b : Bench) (j : ℕ) → Fit N b → Fit N (notice_of b j)
  unfolding notice_of
  fit_notice b j f =
      record { size = f.size; live = f.live; fresh = f.fresh; running = f.running; decided = f.decided; abstained = f.abstained }

  noticed_put : (a j : ℕ) → noticed_by (bit_or a (2 ^ j)) ≡ put (noticed_by a) (suc j) true
  unfolding noticed_by
  noticed_put a j = fun_ext go
    where
      go : (f : ℕ) → noticed_by (bit_or a (2 ^ j)) f ≡ put (noticed_by a) (suc j) true f
      go zero = sym (put_other (noticed_by a) (suc j) true 0 (λ e. absurd (omega arith)))
      go (suc i) = put_ind (λ (y : Bool). has (bit_or a (2 ^ j)) i ≡ y) (noticed_by a) (suc j) true (suc i)
          (λ e. let p : i ≡ j = omega arith in rw p (joined_same a j))
          (λ e. joined_other a j i (λ p. e (omega arith)))

  module _ (t : List Bench) (l : List (List Entry)) (s : Sound N t l) (k : ℕ) (h : k < N) where
    abbrev b : Bench
    b = rows t k

    taken_same : (b' : Bench) → b'.taken ≡ b.taken → b'.outs ≡ b.outs → taken_by (logs l) k b' ≡ taken_by (logs l) k b
    unfolding taken_by
    taken_same b' p q = fun_ext go
      where
        go : (f : ℕ) → taken_by (logs l) k b' f ≡ taken_by (logs l) k b f
        go zero = refl
        go (suc j) = rw (p, q) refl

    pub goes_quietly : (st : ℕ) → 4 ≤ st
        → Linked N (acted (stored t l k (in_state st b))) (done (put (run_of t l) (suc k) (published.in_state (state_of st) (run_of t l (suc k)))))
    unfolding in_state published.in_state bench_of run_of run_by
    goes_quietly st hs =
        remains N t l s k h (in_state st b) (idle N t l s k h (in_state st b) (fit_gone b st hs (s.ok.fit k)) refl refl refl refl) _
        (bench_path _ _ refl refl refl refl refl (taken_same (in_state st b) refl refl) refl refl)

    pub notices : (j : ℕ) → Linked N (acted (stored t l k (notice_of b j))) (done (put (run_of t l) (suc k) (noticing (suc j) (run_of t l (suc k)))))
    unfolding notice_of noticing bench_of run_of run_by
    notices j =
        remains N t l s k h (notice_of b j) (idle N t l s k h (notice_of b j) (fit_notice b j (s.ok.fit k)) refl refl refl refl) _
        (bench_path _ _ refl refl refl refl refl (taken_same (notice_of b j) refl refl) (noticed_put b.noticed j) refl)
