-- A bench takes the next message of a line: what waits by the counts and the log is what waits on the published line. Assumes nothing.
use Rattle.bench.specs.declared.Entry.{Entry}
use mathlib.Core.Path.{◌≡◌, refl, sym, ap, ◌∙◌, fun_ext}
use mathlib.Core.Bool.{true, false, cond}
use mathlib.Core.List.{List, [], ◌∷◌, ◌++◌, append-nil}
use Prim.Native.Nat.{ℕ, zero, suc, ◌^◌, ◌<◌}
use native.Mathlib.Nat.{le_refl}
use native.Mathlib.Numerals.{add-one}
use native.Mathlib.Omega.{arith}
use lib.Dec.{eqb, ltb}
use lib.ListN.{get_or, length, set, length-set, drop, drop_of_length-le}
use lib.Seq.{get_or-set_same, get_or-set_other}
use lib.Bits.{bit_or}
use borrow.Author.Tests.{eqb-true, eqb-false, ne_eqb, ltb-true, ltb-false, lt-ltb}
use Rattle.published.specs.Rounds as published
use Rattle.published.specs.Rounds.{Message, Out, Run, done, taking, taking_first, waiting}
use Rattle.common.specs.Updates.{put}
use Rattle.common.specs.Checks.{needs, judge}
use Rattle.common.proofs.Tests.{split, clash}
use Rattle.common.proofs.Updates.{put_ind, put_other}
use Rattle.bench.specs.declared.Bench.{Bench}
use Rattle.common.specs.Places.{has}
use Rattle.bench.specs.Changes.{taken_of, out_of, take_of}
use Rattle.kinds.specs.Sizes.{places, depth}
use Rattle.tables.specs.Rows.{rows, logs}
use Rattle.tables.specs.Lines.{waiting_of}
use Rattle.tables.specs.Steps.{acted, stored, take_next, next_on}
use Rattle.tables.specs.Runs.{messages_to, line_of, taken_by, bench_of, run_by, run_of}
use Rattle.tables.specs.Sound.{Sound}
use Rattle.common.proofs.Sets.{joined_same, joined_other}
use Rattle.tables.proofs.Lines.{at, keeps_all, line_length_lem, drop_rounds, ahead}
use Rattle.tables.proofs.Counts.{sent_fits}
use Rattle.tables.proofs.Change.{Linked, bench_path, Becomes, remains, refused_links}

-- more is taken of the line j: what is taken changes at that line alone
taken_put : (L : ℕ → List Entry) (k j : ℕ) (b b' : Bench) → (j ≡ k → ⊥)
    → ((i : ℕ) → (i ≡ j → ⊥) → (get_or b'.taken i 0 ≡ get_or b.taken i 0) × (has b'.outs i ≡ has b.outs i))
    → (m : Message) → line_of (L j) (get_or b'.taken j 0) (has b'.outs j) ≡ line_of (L j) (get_or b.taken j 0) (has b.outs j) ++ (m ∷ [])
    → taken_by L k b' ≡ put (taken_by L k b) (suc j) (taken_by L k b (suc j) ++ (m ∷ []))
unfolding taken_by
taken_put L k j b b' ne f m e = fun_ext go
  where
    go : (i : ℕ) → taken_by L k b' i ≡ put (taken_by L k b) (suc j) (taken_by L k b (suc j) ++ (m ∷ [])) i
    go zero = sym (put_other (taken_by L k b) (suc j) (taken_by L k b (suc j) ++ (m ∷ [])) 0 (λ p. absurd (omega arith)))
    go (suc i) = put_ind (λ (y : List Message). taken_by L k b' (suc i) ≡ y) (taken_by L k b) (suc j) (taken_by L k b (suc j) ++ (m ∷ [])) (suc i)
        (λ p. let p' : i ≡ j = omega arith in rw (p', ne_eqb j k ne) e)
        (λ p. let p' : (i ≡ j → ⊥) = λ (x : i ≡ j). p (omega arith) in rw ((f i p').0, (f i p').1) refl)

module _ (N : ℕ) (t : List Bench) (l : List (List Entry)) (s : Sound N t l) (k j : ℕ) (hk : k < N) (hj : j < N) (ne : j ≡ k → ⊥) where
  -- the bench, the sender and its log, and how many of its round messages the bench has taken
  abbrev b : Bench
  b = rows t k

  abbrev c : Bench
  c = rows t j

  abbrev log : List Entry
  log = logs l j

  abbrev n : ℕ
  n = get_or b.taken j 0

  abbrev run : Run
  run = run_of t l

  size : length b.taken ≡ places
  size = (s.ok.fit k).size

  -- ---- a round message is taken

  round_becomes : n < c.sent → has b.outs j ≡ false → Becomes N (rows t) (logs l) k (taken_of b j (suc n)) (logs l k)
  unfolding taken_of
  round_becomes h o = let f = s.ok.fit k in record {
    size = s.logs k (omega (arith, s.fits));
    keeps = keeps_all (logs l k) b.sent;
    grows = record { more = omega arith; still = λ g. (g, refl) };
    fit = record {
      size = length-set b.taken j (suc n) ∙ size;
      live = f.live;
      fresh = f.fresh;
      running = f.running;
      decided = f.decided;
      abstained = f.abstained;
    };
    own = get_or-set_other b.taken j k (suc n) 0 (λ p. ne (sym p)) ∙ s.ok.own k;
    own_out = s.ok.own_out k;
    line = λ i ni. split (eqb i j)
        (λ e. rw (eqb-true i j e, get_or-set_same b.taken j (suc n) 0 (omega (arith, size, s.fits))) h)
        (λ e. rw (get_or-set_other b.taken j i (suc n) 0 (eqb-false i j e)) (s.ok.line k i));
    end = λ i ni oi. split (eqb i j)
        (λ e. let p = ap (λ (x : ℕ). has b.outs x) (eqb-true i j e) in clash (cc))
        (λ e. let p = s.ok.end k i oi in (p.0, get_or-set_other b.taken j i (suc n) 0 (eqb-false i j e) ∙ p.1));
    worlds = λ i hi. s.ok.worlds k i hi;
  }

  longer_round : has b.outs j ≡ false
      → line_of log (get_or (set b.taken j (suc n)) j 0) (has b.outs j) ≡ line_of log n (has b.outs j) ++ (at log n ∷ [])
  unfolding line_of messages_to
  longer_round o = rw (get_or-set_same b.taken j (suc n) 0 (omega (arith, size, s.fits)), o, append-nil (messages_to log (suc n)), append-nil (messages_to log n)) refl

  takes_round : n < c.sent → has b.outs j ≡ false
      → Linked N (acted (stored t l k (taken_of b j (suc n)))) (done (put run (suc k) (taking (suc j) (at log n) (run (suc k)))))
  unfolding taken_of taking bench_of run_of run_by
  takes_round h o = remains N t l s k hk (taken_of b j (suc n)) (round_becomes h o) _
      (bench_path _ _ refl refl refl refl refl
      (taken_put (logs l) k j b (taken_of b j (suc n)) ne (λ i p. (get_or-set_other b.taken j i (suc n) 0 p, refl)) (at log n) (longer_round o))
      refl refl)

  -- ---- OUT is taken

  out_becomes : n ≡ c.sent → eqb c.silent 1 ≡ true → Becomes N (rows t) (logs l) k (out_of b j) (logs l k)
  unfolding out_of
  out_becomes h g = let f = s.ok.fit k in record {
    size = s.logs k (omega (arith, s.fits));
    keeps = keeps_all (logs l k) b.sent;
    grows = record { more = omega arith; still = λ e. (e, refl) };
    fit = record {
      size = f.size;
      live = f.live;
      fresh = f.fresh;
      running = f.running;
      decided = f.decided;
      abstained = f.abstained;
    };
    own = s.ok.own k;
    own_out = joined_other b.outs j k (λ p. ne (sym p)) ∙ s.ok.own_out k;
    line = λ i ni. s.ok.line k i;
    end = λ i ni oi. split (eqb i j)
        (λ e. rw (eqb-true i j e) (g, h))
        (λ e. s.ok.end k i (sym (joined_other b.outs j i (eqb-false i j e)) ∙ oi));
    worlds = λ i hi. s.ok.worlds k i hi;
  }

  longer_out : has b.outs j ≡ false → line_of log n (has (bit_or b.outs (2 ^ j)) j) ≡ line_of log n (has b.outs j) ++ (Out ∷ [])
  unfolding line_of
  longer_out o = rw (joined_same b.outs j, o, append-nil) refl

  takes_out : n ≡ c.sent → eqb c.silent 1 ≡ true → has b.outs j ≡ false
      → Linked N (acted (stored t l k (out_of b j))) (done (put run (suc k) (taking (suc j) Out (run (suc k)))))
  unfolding out_of taking bench_of run_of run_by
  takes_out h g o = remains N t l s k hk (out_of b j) (out_becomes h g) _
      (bench_path _ _ refl refl refl refl refl (taken_put (logs l) k j b (out_of b j) ne (λ i p. (refl, joined_other b.outs j i p)) Out (longer_out o)) refl refl)

  -- ---- what waits on the line

  abbrev rest : List Message
  rest = drop (length (line_of log n (has b.outs j))) (line_of log c.sent (eqb c.silent 1))

  rest_is : waiting run (suc k) (suc j) ≡ rest
  unfolding waiting run_of run_by bench_of taken_by
  rest_is = rw (ne_eqb j k ne) refl

  rest_round : n < c.sent → has b.outs j ≡ false → (q : List Message) × (rest ≡ at log n ∷ q)
  unfolding line_of
  rest_round h o =
      let a = ahead log n c.sent (cond (eqb c.silent 1) (Out ∷ []) []) h in
      (a.0, rw (o, line_length_lem log n) a.1)

  rest_out : n ≡ c.sent → eqb c.silent 1 ≡ true → has b.outs j ≡ false → rest ≡ Out ∷ []
  unfolding line_of
  rest_out q g o = rw (o, g, line_length_lem log n, ← q) (drop_rounds log n (Out ∷ []))

  rest_all : n ≡ c.sent → eqb c.silent 1 ≡ true → has b.outs j ≡ true → rest ≡ []
  rest_all q g o = rw (o, g, q) (drop_of_length-le (line_of log c.sent true) {i = length (line_of log c.sent true)} (le_refl _))

  rest_none : n ≡ c.sent → eqb c.silent 1 ≡ false → has b.outs j ≡ false → rest ≡ []
  unfolding line_of
  rest_none q g o = rw (o, g, line_length_lem log n, ← q) (drop_rounds log n [])

  -- check 8 and what follows it
  pub takes_next : Linked N (take_next t l k j (next_on t l k j))
      (judge (λ m. published.refuse m run) (needs 8 (published.some (waiting run (suc k) (suc j))) ∷ [])
      (done (put run (suc k) (taking_first (suc j) (waiting run (suc k) (suc j)) (run (suc k))))))
  unfolding next_on waiting_of take_next take_of taking_first judge published.some
  takes_next = split (ltb n c.sent)
      (λ e. let h = ltb-true n c.sent e in split (has b.outs j)
      (λ o. absurd (omega (arith, (s.ok.end k j o).1)))
      (λ o. let w = rest_round h o in rw (e, lt-ltb n depth (omega (arith, sent_fits N t l s j)), rest_is ∙ w.1, add-one) (takes_round h o)))
      (λ e. let h = ltb-false n c.sent e in let q : n ≡ c.sent = omega (arith, s.ok.line k j) in split (eqb c.silent 1)
      (λ g. split (has b.outs j)
      (λ o. rw (e, g, o, rest_is ∙ rest_all q g o) (refused_links N t l s 8))
      (λ o. rw (e, g, o, rest_is ∙ rest_out q g o) (takes_out q g o)))
      (λ g. split (has b.outs j)
      (λ o. let x = (s.ok.end k j o).0 in clash (cc))
      (λ o. rw (e, g, rest_is ∙ rest_none q g o) (refused_links N t l s 8))))
