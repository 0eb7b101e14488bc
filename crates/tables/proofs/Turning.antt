-- A turn on the tables is the published turn. Assumes nothing.
use Rattle.bench.specs.declared.Entry.{Entry}
use Rattle.bench.specs.Entries.{entry}
use mathlib.Core.Path.{◌≡◌, refl, sym, ◌∙◌}
use mathlib.Core.Bool.{Bool, true, false, cond, not}
use mathlib.Core.List.{List, ◌∷◌}
use Prim.Native.Nat.{ℕ, suc, ◌-◌, ◌^◌, ◌≤◌, ◌<◌}
use native.Mathlib.Nat.{lt_of_le_of_lt}
use native.Mathlib.Omega.{arith}
use lib.Dec.{eqb}
use lib.ListN.{get_or}
use lib.Bits.{bit_and, and_le_l}
use borrow.Author.Tests.{eqb-true, lt-ltb, leb-true}
use Rattle.published.specs.Rounds as published
use Rattle.published.proofs.Reached.{next_round_lem}
use Rattle.published.specs.Rounds.{see, decides, settled, next_world, next_value, done, checks, after, turn, turned, deciding, advancing, entering, parting, is_running, Run, Answer}
use Rattle.common.specs.Updates.{put}
use Rattle.common.specs.Checks.{Check, needs, judge}
use Rattle.common.proofs.Tests.{split}
use Rattle.bench.specs.declared.Bench.{Bench}
use Rattle.bench.specs.declared.Heard.{Heard}
use Rattle.bench.specs.declared.Turned.{Turned}
use Rattle.common.specs.Places.{has}
use Rattle.bench.specs.Changes.{choosing, in_round}
use Rattle.bench.specs.Turns.{awaits_of, forbids_of, least, gather_of, refuses, go_on_of, concludes, turn_of}
use Rattle.bench.proofs.Answers.{next_within}
use Rattle.kinds.specs.Sizes.{depth}
use Rattle.kinds.specs.Refusals.{number_of}
use Rattle.kinds.specs.declared.Refusal.{Refusal}
use Rattle.kinds.specs.declared.Refusal.TheVariants.{WrongState, MemberAwaited}
use Rattle.tables.specs.Rows.{rows, logs}
use Rattle.tables.specs.Lines.{message, hears, heard_of}
use Rattle.tables.specs.Steps.{acted, sent_of, turn_by, turn_on, turn_at}
use Rattle.tables.specs.Runs.{state_of, decision_of, bench_of, run_by, run_of}
use Rattle.tables.specs.Sound.{Sound}
use Rattle.tables.proofs.States.{running_is}
use Rattle.tables.proofs.Seen.{view_at, Hears, heard_all, see_is, settled_is, decides_is, heard_is, least_is}
use Rattle.tables.proofs.Sending.{with_state, with_decision, sends_out, sends_round}
use Rattle.tables.proofs.Counts.{room_for, reached, sent_fits}
use Rattle.tables.proofs.Change.{Linked}
use Rattle.tables.proofs.Checks.{asks, bars, all_hold_lem, behind}

module _ (N : ℕ) (t : List Bench) (l : List (List Entry)) (s : Sound N t l) (k : ℕ) (hk : k < N) where
  -- the bench, what it has heard, and the bench of the run
  abbrev b : Bench
  b = rows t k

  abbrev h : Heard
  h = heard_of N l b

  abbrev run : Run
  run = run_of t l

  abbrev x : published.Bench
  x = run (suc k)

  -- the published refusal
  abbrev no : ℕ → published.Answer
  no m = published.refuse m run

  -- ---- a check of turn beside the published one

  asks_turn : (r : Refusal) (c d : Bool) (p : Turned) (more : List Check) (next : Answer) → d ≡ c → (c ≡ true → Linked N (turn_on t l k p) (judge no more next))
      → Linked N (turn_on t l k (cond c p (refuses b r))) (judge no (needs (number_of r) d ∷ more) next)
  unfolding turn_on turn_by
  asks_turn r true d p more next e f = asks N t l s (number_of r) true d _ more next e f
  asks_turn r false d p more next e f = asks N t l s (number_of r) false d _ more next e f

  bars_turn : (r : Refusal) (c d : Bool) (p : Turned) (more : List Check) (next : Answer) → d ≡ not c → (c ≡ false → Linked N (turn_on t l k p) (judge no more next))
      → Linked N (turn_on t l k (cond c (refuses b r) p)) (judge no (needs (number_of r) d ∷ more) next)
  unfolding turn_on turn_by
  bars_turn r true d p more next e f = bars N t l s (number_of r) true d _ more next e f
  bars_turn r false d p more next e f = bars N t l s (number_of r) false d _ more next e f

  -- ---- a running bench: what turn asks is what the published turn asks

  module _ (st : b.state ≡ 1) where
    first : 1 ≤ b.round.0
    first = omega (arith, ((s.ok.fit k).running st).0, ((s.ok.fit k).running st).1)

    last : b.round.0 ≤ depth
    last = omega (arith, ((s.ok.fit k).running st).0, sent_fits N t l s k)

    hs : Hears (logs l) b N h
    hs = heard_all N s.fits l b first last

    zs : (j : ℕ) → j < N → see (suc k) x (suc j) ≡ view_at b h j
    unfolding run_of run_by
    zs = see_is N s.fits (logs l) k b (s.ok.own k) (s.ok.own_out k) first h hs

    worlds : (j : ℕ) → j < N → has h.set j ≡ true → (entry h.entries j).world < 2 ^ N
    worlds j hj e =
        let c : hears b j ≡ true = sym (hs.who j ∙ rw (lt-ltb j N hj) refl) ∙ e in
        rw (hs.what j hj c) (s.ok.worlds j (b.round.0 - 1) (omega (arith, leb-true b.round.0 (get_or b.taken j 0) c, s.ok.line k j, first)))

    settled_eq : settled N (suc k) x ≡ not (awaits_of N b h)
    unfolding settled run_of run_by bench_of
    settled_eq = settled_is N b h (see (suc k) x) zs

    decides_eq : decides N (suc k) x ≡ not (forbids_of N b h)
    unfolding decides run_of run_by bench_of
    decides_eq = decides_is N b h (see (suc k) x) zs worlds

    world_eq : bit_and b.world h.set ≡ next_world N (suc k) x
    unfolding next_world run_of run_by bench_of
    world_eq = heard_is N b h (see (suc k) x) zs ((s.ok.fit k).running st).2

    value_eq : least b.value.0 (bit_and b.world h.set) h.entries N ≡ next_value N (suc k) x
    unfolding next_value run_of run_by bench_of
    value_eq = least_is N b h (see (suc k) x) zs

    next_world_lem : next_world N (suc k) x < 2 ^ N
    next_world_lem = rw (← world_eq) (lt_of_le_of_lt (and_le_l b.world h.set) ((s.ok.fit k).running st).2)

    -- ---- it decides, or goes on

    concludes_links : Linked N (turn_on t l k (concludes b)) (done (put run (suc k) (deciding x)))
    unfolding turn_on turn_by choosing with_state with_decision deciding parting published.choosing published.in_state run_of run_by bench_of state_of decision_of
    concludes_links = sends_out N t l s k hk 2 1 ((s.ok.fit k).live (omega arith)).0 (omega arith) (λ e. ((s.ok.fit k).running st).1) (λ e. absurd (omega arith))

    enters : b.round.0 < depth → (v w : ℕ) → w < 2 ^ N
        → Linked N (acted (sent_of t l k (in_round (suc b.round.0) (record { 0 = v }) w b) (message (suc b.round.0) v w))) (done (put run (suc k) (entering (suc x.round) v w x)))
    unfolding run_of run_by bench_of
    enters room v w hw =
        let e = ((s.ok.fit k).running st).0 in
        sends_round N t l s k hk v w hw (omega arith) (omega arith) (suc b.round.0) (omega arith)

    goes_on : b.round.0 < depth → Linked N (turn_on t l k (go_on_of N b h)) (done (put run (suc k) (advancing N (suc k) x)))
    unfolding turn_on turn_by go_on_of gather_of in_round advancing
    goes_on room = rw (next_within b.round.0 room, value_eq, world_eq) (enters room (next_value N (suc k) x) (next_world N (suc k) x) next_world_lem)

    -- a log has room for the round that it goes on to
    room_left : settled N (suc k) x ≡ true → decides N (suc k) x ≡ false → b.round.0 < depth
    unfolding run_of run_by bench_of state_of
    room_left e d = omega (arith, next_round_lem N run (reached N t l s) (suc k) (rw st refl) d e, room_for N s.fits)

    ends : settled N (suc k) x ≡ true → Linked N (turn_on t l k (cond (forbids_of N b h) (go_on_of N b h) (concludes b))) (done (put run (suc k) (turned N (suc k) x)))
    unfolding turned
    ends e = split (forbids_of N b h)
        (λ f. let d : decides N (suc k) x ≡ false = decides_eq ∙ rw f refl in rw (f, d) (goes_on (room_left e d)))
        (λ f. let d : decides N (suc k) x ≡ true = decides_eq ∙ rw f refl in rw (f, d) concludes_links)

  pub turn_links : Linked N (turn_at N t l k) (behind N t l s 1 (turn (suc k)))
  unfolding turn_at turn_of checks after
  turn_links =
      asks_turn WrongState (eqb b.state 1) _ _ _ _ state_is λ e₃. let st = eqb-true b.state 1 e₃ in
      bars_turn MemberAwaited (awaits_of N b h) _ _ _ _ (settled_eq st) λ e₁₁.
      all_hold_lem N t l s _ _ (ends st (settled_eq st ∙ rw e₁₁ refl))
    where
      state_is : is_running x.state ≡ eqb b.state 1
      state_is = unfold run_of run_by bench_of in running_is b.state
