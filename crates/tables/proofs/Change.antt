-- One bench changes, and its log with it: the run that the tables stand for changes at that bench alone, and the tables stay sound.
-- All seven steps go through `changes`. Assumes nothing.
use Rattle.bench.specs.declared.Entry.{Entry}
use Rattle.bench.specs.Entries.{entry}
use mathlib.Core.Path.{◌≡◌, refl, sym, ap, ap₂, ◌∙◌, fun_ext, subst}
use mathlib.Core.Bool.{true, cond}
use mathlib.Core.List.{List, []}
use Prim.Native.Nat.{ℕ, zero, suc, ◌^◌, ◌≤◌, ◌<◌}
use native.Mathlib.Omega.{arith}
use lib.Dec.{eqb}
use lib.ListN.{get_or, length, set, length-set}
use lib.Seq.{get_or-set_same, get_or-set_other, set-get_or}
use borrow.Author.Tests.{eqb-true, eqb-false}
use Rattle.published.specs.Rounds as published
use Rattle.common.specs.Updates.{put}
use Rattle.published.specs.Rounds.{Step, run_from, new_run, Answer, done, refuse}
use Rattle.common.proofs.Tests.{split}
use Rattle.common.proofs.Updates.{put_ind, put_same, put_other, put_self}
use Rattle.bench.specs.declared.Bench.{Bench}
use Rattle.common.specs.Places.{has}
use Rattle.kinds.specs.Sizes.{depth}
use Rattle.tables.specs.Rows.{rows, logs}
use Rattle.tables.specs.Steps.{Act, refused, acted, stored}
use Rattle.tables.specs.Runs.{line_of, taken_by, bench_of, run_by, run_of}
use Rattle.tables.specs.Sound.{Fit, Ok, Sound}
use Rattle.tables.specs.Meets.{Links}
use Rattle.tables.specs.Local.{KeepsRounds}
use Rattle.tables.proofs.Rows.{rows_set, logs_set}
use Rattle.tables.proofs.Lines.{keeps_all, line_kept}

-- two published benches are equal by their parts
pub bench_path : (x y : published.Bench) → x.state ≡ y.state → x.round ≡ y.round → x.value ≡ y.value → x.world ≡ y.world
    → x.sent ≡ y.sent → x.taken ≡ y.taken → x.noticed ≡ y.noticed → x.decision ≡ y.decision → x ≡ y
bench_path x y p₁ p₂ p₃ p₄ p₅ p₆ p₇ p₈ =
    λ i. record { state = p₁ i; round = p₂ i; value = p₃ i; world = p₄ i; sent = p₅ i; taken = p₆ i; noticed = p₇ i; decision = p₈ i }

-- what each step shows: its link, where some steps q lead to the run after it
abbrev pub Linked : ℕ → Act → Answer → Type 0
Linked N e a = (q : List Step) → run_from N new_run q ≡ a.run → Links N e a

-- b becomes b': it has sent at least as much, and nothing behind OUT
pub record Grows (b b' : Bench) : Type 0 where
  pub more : b.sent ≤ b'.sent
  pub still : eqb b.silent 1 ≡ true → (eqb b'.silent 1 ≡ true) × (b.sent ≡ b'.sent)

-- what bench k of benches B with logs L can become, with its log: every step shows this of its bench
pub record Becomes (N : ℕ) (B : ℕ → Bench) (L : ℕ → List Entry) (k : ℕ) (b : Bench) (log : List Entry) : Type 0 where
  pub size : length log ≡ depth
  pub keeps : KeepsRounds (L k) log (B k).sent
  pub grows : Grows (B k) b
  pub fit : Fit N b
  pub own : get_or b.taken k 0 ≡ b.sent
  pub own_out : has b.outs k ≡ eqb b.silent 1
  pub line : (j : ℕ) → (j ≡ k → ⊥) → get_or b.taken j 0 ≤ (B j).sent
  pub end : (j : ℕ) → (j ≡ k → ⊥) → has b.outs j ≡ true → (eqb (B j).silent 1 ≡ true) × (get_or b.taken j 0 ≡ (B j).sent)
  pub worlds : (i : ℕ) → i < b.sent → (entry log i).world < 2 ^ N

module _ (N : ℕ) where
  module _ (B : ℕ → Bench) (L : ℕ → List Entry) (ok : Ok N B L) (k : ℕ) (b : Bench) (log : List Entry) (m : Becomes N B L k b log) where
    -- ---- the run

    -- what others have taken of the log stays
    taken_same : (i : ℕ) → taken_by (put L k log) i (B i) ≡ taken_by L i (B i)
    unfolding taken_by
    taken_same i = fun_ext go
      where
        go : (f : ℕ) → taken_by (put L k log) i (B i) f ≡ taken_by L i (B i) f
        go zero = refl
        go (suc j) =
            let n = get_or (B i).taken j 0 in let o = has (B i).outs j in
            put_ind (λ (y : List Entry). cond (eqb j i) [] (line_of y n o) ≡ cond (eqb j i) [] (line_of (L j) n o)) L k log j
            (λ e. rw (line_kept (L k) log (B k).sent m.keeps n (rw (← e) (ok.line i j)) o, e) refl)
            (λ e. refl)

    other_same : (i : ℕ) → (i ≡ k → ⊥) → bench_of (put L k log) i (B i) ≡ bench_of L i (B i)
    unfolding bench_of
    other_same i ne = bench_path _ _ refl refl refl refl (rw (put_other L k log i ne) refl) (taken_same i) refl refl

    run_change : run_by (put B k b) (put L k log) ≡ put (run_by B L) (suc k) (bench_of (put L k log) k b)
    unfolding run_by
    run_change = fun_ext go
      where
        go : (f : ℕ) → run_by (put B k b) (put L k log) f ≡ put (run_by B L) (suc k) (bench_of (put L k log) k b) f
        go zero = sym (put_other (run_by B L) (suc k) (bench_of (put L k log) k b) 0 (λ e. absurd (omega arith)))
        go (suc i) = put_ind (λ (y : Bench). bench_of (put L k log) i y ≡ put (run_by B L) (suc k) (bench_of (put L k log) k b) (suc i)) B k b i
            (λ e. rw e (sym (put_same (run_by B L) (suc k) (bench_of (put L k log) k b))))
            (λ e. other_same i e ∙ sym (put_other (run_by B L) (suc k) (bench_of (put L k log) k b) (suc i) (λ p. e (omega arith))))

    -- ---- what holds after

    abbrev Line : Bench → ℕ → Bench → Type 0
    Line x j y = get_or x.taken j 0 ≤ y.sent

    abbrev End : Bench → ℕ → Bench → Type 0
    End x j y = has x.outs j ≡ true → (eqb y.silent 1 ≡ true) × (get_or x.taken j 0 ≡ y.sent)

    line_own : Line b k b
    line_own = omega (arith, m.own)

    end_own : End b k b
    end_own o = (sym m.own_out ∙ o, m.own)

    ok_change : Ok N (put B k b) (put L k log)
    ok_change = record {
      fit = λ i. put_ind (λ (y : Bench). Fit N y) B k b i (λ e. m.fit) (λ e. ok.fit i);
      own = λ i. put_ind (λ (y : Bench). get_or y.taken i 0 ≡ y.sent) B k b i (λ e. rw e m.own) (λ e. ok.own i);
      own_out = λ i. put_ind (λ (y : Bench). has y.outs i ≡ eqb y.silent 1) B k b i (λ e. rw e m.own_out) (λ e. ok.own_out i);
      line = λ i j. put_ind (λ (y : Bench). Line y j (put B k b j)) B k b i
          (λ e. put_ind (λ (y : Bench). Line b j y) B k b j (λ e'. rw e' line_own) (λ e'. m.line j e'))
          (λ e. put_ind (λ (y : Bench). Line (B i) j y) B k b j
          (λ e'. omega (arith, ok.line i j, m.grows.more, ap (λ (x : ℕ). (B x).sent) e')) (λ e'. ok.line i j));
      end = λ i j. put_ind (λ (y : Bench). End y j (put B k b j)) B k b i
          (λ e. put_ind (λ (y : Bench). End b j y) B k b j (λ e'. rw e' end_own) (λ e'. m.end j e'))
          (λ e. put_ind (λ (y : Bench). End (B i) j y) B k b j
          (λ e' o. let p = ok.end i j o in let s = m.grows.still (rw e' at p.0) in (s.0, p.1 ∙ ap (λ (x : ℕ). (B x).sent) e' ∙ s.1))
          (λ e'. ok.end i j));
      worlds = λ i. put_ind (λ (y : Bench). (q : ℕ) → q < y.sent → (entry (put L k log i) q).world < 2 ^ N) B k b i
          (λ e q h. rw (e, put_same) (m.worlds q h))
          (λ e q h. rw (put_other L k log i e) (ok.worlds i q h));
    }

  module _ (t : List Bench) (l : List (List Entry)) (s : Sound N t l) where
    -- nothing changes
    pub refused_links : (n : ℕ) → Linked N (refused n t l) (refuse n (run_of t l))
    unfolding refuse
    refused_links n q led = record { number = refl; run = refl; sound = s }

    module _ (k : ℕ) (h : k < N) (b : Bench) where
      -- bench k is now b with this log, and stands for x
      pub changes : (log : List Entry) → Becomes N (rows t) (logs l) k b log → (x : published.Bench) → bench_of (put (logs l) k log) k b ≡ x
          → Linked N (acted (stored t (set l k log) k b)) (done (put (run_of t l) (suc k) x))
      unfolding done run_of
      changes log m x e steps led =
          let p = rows_set t k b (omega (arith, s.benches, s.fits)) in
          let q = logs_set l k log (omega (arith, s.books, s.fits)) in
          let run = sym (ap₂ run_by p q ∙ run_change (rows t) (logs l) s.ok k b log m ∙ ap (put (run_by (rows t) (logs l)) (suc k)) e) in
          record {
            number = refl;
            run = run;
            sound = record {
              fits = s.fits;
              benches = length-set t k b ∙ s.benches;
              books = length-set l k log ∙ s.books;
              logs = λ i hi. split (eqb i k)
                  (λ c. rw (eqb-true i k c, get_or-set_same l k log [] (omega (arith, s.books, s.fits))) m.size)
                  (λ c. rw (get_or-set_other l k i log [] (eqb-false i k c)) (s.logs i hi));
              ok = subst (λ (P : ℕ → Bench). Ok N P (logs (set l k log))) (sym p)
                  (subst (λ (Q : ℕ → List Entry). Ok N (put (rows t) k b) Q) (sym q) (ok_change (rows t) (logs l) s.ok k b log m));
              steps = steps;
              led = led ∙ run;
            };
          }

      -- the same where the log stays
      pub remains : Becomes N (rows t) (logs l) k b (logs l k) → (x : published.Bench) → bench_of (logs l) k b ≡ x
          → Linked N (acted (stored t l k b)) (done (put (run_of t l) (suc k) x))
      remains m x e =
          subst (λ (r : List (List Entry)). Linked N (acted (stored t r k b)) (done (put (run_of t l) (suc k) x))) (set-get_or l k [])
          (changes (logs l k) m x (ap (λ (Q : ℕ → List Entry). bench_of Q k b) (put_self (logs l) k) ∙ e))

      -- b has sent and taken what bench k has
      pub idle : Fit N b → b.sent ≡ (rows t k).sent → b.silent ≡ (rows t k).silent → b.outs ≡ (rows t k).outs → b.taken ≡ (rows t k).taken
          → Becomes N (rows t) (logs l) k b (logs l k)
      idle fit e₁ e₂ e₃ e₄ = record {
        size = s.logs k (omega (arith, s.fits));
        keeps = keeps_all (logs l k) (rows t k).sent;
        grows = record { more = omega arith; still = λ g. (rw e₂ g, sym e₁) };
        fit = fit;
        own = rw (e₄, e₁) (s.ok.own k);
        own_out = rw (e₃, e₂) (s.ok.own_out k);
        line = λ j n. rw e₄ (s.ok.line k j);
        end = λ j n. rw (e₃, e₄) (s.ok.end k j);
        worlds = λ i hi. s.ok.worlds k i (omega arith);
      }
