-- A bench sends OUT, or the message of its next round: on the tables as in the published run. Assumes nothing.
use Rattle.bench.specs.declared.Entry.{Entry}
use Rattle.bench.specs.Entries.{no_entry, entry}
use mathlib.Core.Path.{◌≡◌, refl, sym, ◌∙◌, fun_ext}
use mathlib.Core.Bool.{false}
use mathlib.Core.List.{List, [], ◌∷◌, ◌++◌, append-nil}
use Prim.Native.Nat.{ℕ, zero, suc, ◌-◌, ◌^◌, ◌≤◌, ◌<◌}
use native.Mathlib.Omega.{arith}
use lib.Dec.{eqb}
use lib.ListN.{length, set, length-set}
use lib.Seq.{get_or-set_same, get_or-set_other}
use borrow.Author.Tests.{eqb-true, eqb-false}
use Rattle.published.specs.Rounds as published
use Rattle.common.specs.Updates.{put}
use Rattle.published.specs.Rounds.{done, entering, sending}
use Rattle.common.proofs.Tests.{split, clash}
use Rattle.common.proofs.Updates.{put_same, put_other}
use Rattle.kinds.specs.declared.Message.TheVariants.{Out}
use Rattle.bench.specs.declared.Bench.{Bench}
use Rattle.bench.specs.Changes.{taken_of, out_of, take_of, in_round, sent_to, sent_out}
use Rattle.kinds.specs.Sizes.{places, depth}
use Rattle.tables.specs.Rows.{rows, logs}
use Rattle.tables.specs.Lines.{message}
use Rattle.tables.specs.Steps.{acted, stored, sent_of}
use Rattle.tables.specs.Runs.{messages_to, line_of, state_of, taken_by, decision_of, bench_of, run_by, run_of}
use Rattle.tables.specs.Sound.{Sound}
use Rattle.tables.specs.Local.{KeepsRounds}
use Rattle.common.proofs.Sets.{joined_same, joined_other}
use Rattle.tables.proofs.Lines.{keeps_all, rounds_kept}
use Rattle.tables.proofs.Change.{Linked, bench_path, Becomes, changes, remains}

-- ---- a log with one round more

module _ (log : List Entry) (q v w : ℕ) (size : length log ≡ depth) (h : q < depth) where
  abbrev said : Entry
  said = record { value = record { 0 = v }; world = w }

  abbrev longer : List Entry
  longer = set log q said

  longer_size : length longer ≡ depth
  longer_size = length-set log q said ∙ size

  longer_keeps : KeepsRounds log longer q
  longer_keeps i l = get_or-set_other log q i said no_entry (λ e. absurd (omega arith))

  longer_said : entry longer q ≡ said
  longer_said = get_or-set_same log q said no_entry (omega (arith, size))

  longer_rounds : messages_to longer (suc q) ≡ messages_to log q ++ (published.Round (suc q) v w ∷ [])
  unfolding messages_to
  longer_rounds = rw (rounds_kept log longer q longer_keeps q (omega arith), longer_said) refl

-- ---- what a bench that sends OUT or a round message is

-- bench b in state st, with `chose` as given
unfoldable pub with_state : ℕ → ℕ → Bench → Bench
with_state st chose b = record b { state = st; chose = chose }

-- the published bench x in a state and with a decision
unfoldable pub with_decision : published.State → published.Decision → published.Bench → published.Bench
with_decision st d x = record x { state = st; decision = d }

module _ (N : ℕ) (t : List Bench) (l : List (List Entry)) (s : Sound N t l) (k : ℕ) (h : k < N) where
  abbrev b : Bench
  b = rows t k

  abbrev x : published.Bench
  x = run_of t l (suc k)

  size : length b.taken ≡ places
  size = (s.ok.fit k).size

  -- its place in the tables
  here : k < places
  here = omega (arith, s.fits)

  -- ---- OUT

  module _ (st chose : ℕ) (quiet : eqb b.silent 1 ≡ false) (h₂ : 2 ≤ st) (decided : st ≡ 2 → 1 ≤ b.sent) (abstained : st ≡ 3 → b.sent ≡ 0) where
    abbrev parted : Bench
    parted = sent_out (take_of (with_state st chose b) k Out)

    parted_becomes : Becomes N (rows t) (logs l) k parted (logs l k)
    unfolding sent_out take_of out_of with_state
    parted_becomes = record {
      size = s.logs k here;
      keeps = keeps_all (logs l k) b.sent;
      grows = record { more = omega arith; still = λ g. clash (cc) };
      fit = record {
        size = size;
        live = λ p. absurd (omega arith);
        fresh = λ p. absurd (omega arith);
        running = λ p. absurd (omega arith);
        decided = decided;
        abstained = abstained;
      };
      own = s.ok.own k;
      own_out = joined_same b.outs k;
      line = λ j n. s.ok.line k j;
      end = λ j n o. s.ok.end k j (sym (joined_other b.outs k j n) ∙ o);
      worlds = λ i hi. s.ok.worlds k i hi;
    }

    pub sends_out : Linked N (acted (sent_of t l k (with_state st chose b) Out))
        (done (put (run_of t l) (suc k) (sending published.Out (with_decision (state_of st) (decision_of chose b.value.0) x))))
    unfolding sent_of sent_out take_of out_of with_state with_decision sending run_of run_by bench_of taken_by line_of
    sends_out = remains N t l s k h parted parted_becomes _ (bench_path _ _ refl refl refl refl (rw (quiet, append-nil) refl) (fun_ext same) refl refl)
      where
        same : (f : ℕ) → taken_by (logs l) k parted f ≡ taken_by (logs l) k b f
        same zero = refl
        same (suc j) = split (eqb j k) (λ c. rw c refl) (λ c. rw (joined_other b.outs k j (eqb-false j k c)) refl)

  -- ---- the next round's message

  module _ (v w : ℕ) (hw : w < 2 ^ N) (live : b.state ≤ 1) (room : b.sent < depth) where
    abbrev q : ℕ
    q = b.sent

    abbrev entered : Bench
    entered = sent_to (suc q) (taken_of (in_round (suc q) (record { 0 = v }) w b) k (suc q))

    abbrev log : List Entry
    log = longer (logs l k) q v w (s.logs k here) room

    entered_becomes : Becomes N (rows t) (logs l) k entered log
    unfolding sent_to taken_of in_round
    entered_becomes = record {
      size = longer_size (logs l k) q v w (s.logs k here) room;
      keeps = longer_keeps (logs l k) q v w (s.logs k here) room;
      grows = record { more = omega arith; still = λ g. let e = ((s.ok.fit k).live live).0 in clash (cc) };
      fit = record {
        size = length-set b.taken k (suc q) ∙ size;
        live = λ e. (s.ok.fit k).live live;
        fresh = λ e. absurd (omega arith);
        running = λ e. (refl, omega arith, hw);
        decided = λ e. absurd (omega arith);
        abstained = λ e. absurd (omega arith);
      };
      own = get_or-set_same b.taken k (suc q) 0 (omega (arith, size, here));
      own_out = s.ok.own_out k;
      line = λ j n. rw (get_or-set_other b.taken k j (suc q) 0 n) (s.ok.line k j);
      end = λ j n o. let e = s.ok.end k j o in (e.0, get_or-set_other b.taken k j (suc q) 0 n ∙ e.1);
      worlds = λ i hi. split (eqb i q)
          (λ c. rw (eqb-true i q c, longer_said (logs l k) q v w (s.logs k here) room) hw)
          (λ c. let c' = eqb-false i q c in rw (longer_keeps (logs l k) q v w (s.logs k here) room i (omega arith)) (s.ok.worlds k i (omega arith)));
    }

    taken_same : taken_by (put (logs l) k log) k entered ≡ taken_by (logs l) k b
    unfolding taken_by sent_to taken_of in_round
    taken_same = fun_ext go
      where
        go : (f : ℕ) → taken_by (put (logs l) k log) k entered f ≡ taken_by (logs l) k b f
        go zero = refl
        go (suc j) = split (eqb j k)
            (λ c. rw c refl)
            (λ c. let n = eqb-false j k c in rw (put_other (logs l) k log j n, get_or-set_other b.taken k j (suc q) 0 n) refl)

    entered_is : bench_of (put (logs l) k log) k entered ≡ entering (suc q) v w (bench_of (logs l) k b)
    unfolding bench_of sent_to taken_of in_round entering sending published.in_round state_of line_of decision_of
    entered_is = bench_path _ _ refl refl refl refl
        (rw (put_same (logs l) k log, ((s.ok.fit k).live live).0, append-nil (messages_to log (suc q)), append-nil (messages_to (logs l k) q))
        (longer_rounds (logs l k) q v w (s.logs k here) room))
        taken_same refl (rw ((s.ok.fit k).live live).1 refl)

    enters : Linked N (acted (stored t (set l k log) k entered)) (done (put (run_of t l) (suc k) (entering (suc q) v w x)))
    unfolding run_of run_by
    enters = changes N t l s k h entered log entered_becomes (entering (suc q) v w (bench_of (logs l) k b)) entered_is

    pub sends_round : (r : ℕ) → r ≡ suc q
        → Linked N (acted (sent_of t l k (in_round r (record { 0 = v }) w b) (message r v w))) (done (put (run_of t l) (suc k) (entering r v w x)))
    unfolding sent_of take_of
    sends_round r e =
        let p : suc q - 1 ≡ q = omega arith in
        rw (e, p) enters
