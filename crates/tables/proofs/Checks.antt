-- A check on the tables beside the published check of the same number, and the checks of bench numbers that every step begins with.
-- A step's proof is then its list of checks, in their order. Assumes nothing.
use Rattle.bench.specs.declared.Entry.{Entry}
use Rattle.bench.specs.declared.Bench.{Bench}
use mathlib.Core.Path.{◌≡◌, refl}
use mathlib.Core.Bool.{Bool, true, false, cond, not, ◌&&◌}
use mathlib.Core.List.{List, [], ◌∷◌}
use Prim.Native.Nat.{ℕ, suc, ◌-◌, ◌<◌}
use native.Mathlib.Omega.{arith}
use lib.Dec.{eqb, leb, ltb}
use lib.ListN.{drop}
use borrow.Author.Tests.{eqb-false, ltb-true, ltb-false, le-leb, lt-leb}
use Rattle.published.specs.Rounds.{Run, Step, Answer, checks, after, done, step, refuse}
use Rattle.common.specs.Checks.{Check, needs, judge}
use Rattle.common.specs.Benches.{is_bench}
use Rattle.common.proofs.Tests.{both, split}
use Rattle.common.proofs.Benches.{bench_in}
use Rattle.tables.specs.Steps.{Act, refused, at_bench, at_benches}
use Rattle.tables.specs.Runs.{run_of}
use Rattle.tables.specs.Sound.{Sound}
use Rattle.tables.proofs.Change.{Linked, refused_links}

-- a test and the other way round
pub not_above : (a b : ℕ) → leb b a ≡ not (ltb a b)
not_above a b = split (ltb a b)
    (λ e. let h = ltb-true a b e in rw (e, lt-leb b a h) refl)
    (λ e. let h = ltb-false a b e in rw (e, le-leb b a h) refl)

-- a bench of the run, and its place
place : (N b : ℕ) → is_bench N b ≡ true → (suc (b - 1) ≡ b) × (b - 1 < N)
place N b e = let h = bench_in N b e in (omega arith, omega arith)

module _ (N : ℕ) (t : List Bench) (l : List (List Entry)) (s : Sound N t l) where
  abbrev run : Run
  run = run_of t l

  -- the published refusal
  abbrev no : ℕ → Answer
  no k = refuse k run

  -- refused where the tables' test fails
  pub asks : (n : ℕ) (c d : Bool) (e : Act) (more : List Check) (next : Answer) → d ≡ c → (c ≡ true → Linked N e (judge no more next))
      → Linked N (cond c e (refused n t l)) (judge no (needs n d ∷ more) next)
  unfolding judge
  asks n true d e more next p f = rw p (f refl)
  asks n false d e more next p f = rw p (refused_links N t l s n)

  -- refused where it holds
  pub bars : (n : ℕ) (c d : Bool) (e : Act) (more : List Check) (next : Answer) → d ≡ not c → (c ≡ false → Linked N e (judge no more next))
      → Linked N (cond c (refused n t l) e) (judge no (needs n d ∷ more) next)
  unfolding judge
  bars n true d e more next p f = rw p (refused_links N t l s n)
  bars n false d e more next p f = rw p (f refl)

  -- no check is left
  pub all_hold_lem : (e : Act) (next : Answer) → Linked N e next → Linked N e (judge no [] next)
  unfolding judge
  all_hold_lem e next k = k

  -- a step behind its first n checks
  abbrev pub behind : ℕ → Step → Answer
  behind n a = judge no (drop n (checks N run a)) (done (after N run a))

  -- a step of one bench, by its place
  pub at_bench_lem : (a : ℕ → Step) (f : ℕ → Act)
      → ((b : ℕ) → checks N run (a b) ≡ needs 1 (is_bench N b) ∷ drop 1 (checks N run (a b)))
      → ((k : ℕ) → k < N → Linked N (f k) (behind 1 (a (suc k))))
      → (b : ℕ) → Linked N (at_bench N t l f b) (step N run (a b))
  unfolding at_bench step
  at_bench_lem a f c g b = rw (c b) (asks 1 (is_bench N b) _ _ _ _ refl λ e₁.
      let p = place N b e₁ in let k = g (b - 1) p.1 in rw p.0 at k)

  -- a step of a bench and a sender, by their places
  pub at_benches_lem : (a : ℕ → ℕ → Step) (f : ℕ → ℕ → Act)
      → ((b c : ℕ) → checks N run (a b c) ≡ needs 1 (is_bench N b && is_bench N c) ∷ needs 2 (not (eqb b c)) ∷ drop 2 (checks N run (a b c)))
      → ((k j : ℕ) → k < N → j < N → (j ≡ k → ⊥) → Linked N (f k j) (behind 2 (a (suc k) (suc j))))
      → (b c : ℕ) → Linked N (at_benches N t l f b c) (step N run (a b c))
  unfolding at_benches step
  at_benches_lem a f h g b c = rw (h b c) (asks 1 (is_bench N b && is_bench N c) _ _ _ _ refl λ e₁.
      bars 2 (eqb b c) _ _ _ _ refl λ e₂.
      let e = both (is_bench N b) (is_bench N c) e₁ in let p = place N b e.0 in let q = place N c e.1 in
      let ne = eqb-false b c e₂ in let k = g (b - 1) (c - 1) p.1 q.1 (λ x. ne (omega (arith, p.0, q.0))) in
      rw (p.0, q.0) at k)
