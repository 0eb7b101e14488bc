-- How far the rounds have come is what the rows say: each bench's count of round messages is the last round that it has sent. So a log has room for
-- all rounds of sound tables. Assumes nothing.
use Rattle.bench.specs.declared.Bench.{Bench}
use Rattle.bench.specs.declared.Entry.{Entry}
use Rattle.bench.specs.Entries.{entry}
use mathlib.Core.Path.{◌≡◌, refl, ◌∙◌, subst}
use mathlib.Core.List.{List}
use Prim.Native.Nat.{ℕ, zero, suc, ◌+◌, ◌*◌, ◌≤◌}
use native.Mathlib.Omega.{arith}
use lib.Dec.{eqb, ltb}
use borrow.Author.Tests.{ltb-true, lt-ltb}
use Rattle.published.specs.Rounds.{absent, find, new_bench}
use Rattle.published.specs.Pause.{NoRoundAbove}
use Rattle.published.proofs.Messages.{never}
use Rattle.published.proofs.Reached.{Reached, reached_run, none_higher}
use Rattle.common.proofs.Tests.{split, clash}
use Rattle.kinds.specs.Sizes.{places, depth}
use Rattle.kinds.proofs.Sizes.{rounds_fit}
use Rattle.tables.specs.Rows.{rows, logs}
use Rattle.tables.specs.Runs.{bench_of, run_by, run_of}
use Rattle.tables.specs.Sound.{Sound}
use Rattle.tables.proofs.Lines.{line_find}

module _ (t : List Bench) (l : List (List Entry)) (r : ℕ) where
  -- a message that is found is of a round up to the count
  pub rows_above : ((k : ℕ) → (rows t k).sent ≤ r) → NoRoundAbove r (run_of t l)
  unfolding run_of run_by bench_of new_bench find
  rows_above h zero q v w m = never absent v w refl m
  rows_above h (suc k) zero v w m = omega arith
  rows_above h (suc k) (suc q) v w m = let x = rows t k in split (ltb q x.sent)
      (λ e. omega (arith, ltb-true q x.sent e, h k))
      (λ e. let z = line_find (logs l k) x.sent q (eqb x.silent 1) in clash (cc))

  -- and that of the last round is found
  pub above_rows : NoRoundAbove r (run_of t l) → (k : ℕ) → (rows t k).sent ≤ r
  unfolding run_of run_by bench_of
  above_rows h k = last (rows t k).sent refl
    where
      last : (c : ℕ) → (rows t k).sent ≡ c → c ≤ r
      last zero e = omega arith
      last (suc q) e = let x = rows t k in
          h (suc k) (suc q) (entry (logs l k) q).value.0 (entry (logs l k) q).world
          (line_find (logs l k) x.sent q (eqb x.silent 1) ∙ rw (lt-ltb q x.sent (omega arith)) refl)

-- ---- the room of a log

pub room_for : (N : ℕ) → N ≤ places → 2 * N + 1 ≤ depth
room_for N fits = omega (arith, rounds_fit)

pub reached : (N : ℕ) (t : List Bench) (l : List (List Entry)) → Sound N t l → Reached N (run_of t l)
reached N t l s = subst (Reached N) s.led (reached_run N s.steps)

pub sent_few : (N : ℕ) (t : List Bench) (l : List (List Entry)) → Sound N t l → (k : ℕ) → (rows t k).sent ≤ 2 * N + 1
sent_few N t l s = above_rows t l (2 * N + 1) (none_higher N (run_of t l) (reached N t l s))

pub sent_fits : (N : ℕ) (t : List Bench) (l : List (List Entry)) → Sound N t l → (k : ℕ) → (rows t k).sent ≤ depth
sent_fits N t l s k = omega (arith, sent_few N t l s k, room_for N s.fits)
