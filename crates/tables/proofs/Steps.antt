-- Each of the seven steps on sound tables is the published step: its checks in their order, then its change. Assumes nothing.
use Rattle.bench.specs.declared.Entry.{Entry}
use Rattle.bench.specs.declared.Bench.{Bench}
use mathlib.Core.Path.{◌≡◌, refl, ap, ◌∙◌}
use mathlib.Core.Bool.{false, cond, not, ◌&&◌, ◌||◌}
use mathlib.Core.List.{List, [], ◌∷◌, ◌++◌}
use Prim.Native.Nat.{ℕ, suc, ◌^◌, ◌≤◌, ◌<◌}
use native.Mathlib.Omega.{arith}
use lib.Dec.{eqb, ltb}
use borrow.Author.Tests.{eqb-true, ltb-true}
use Rattle.published.specs.Rounds as published
use Rattle.published.specs.Rounds.{Run, Step, start, abstain, leave, fail, turn, arrive, notice, State, is_fresh, is_running, is_gone, is_failed, has_out, done, parting, leaving, checks, after, step, run_from, new_run}
use Rattle.published.proofs.Lists.{run_append}
use Rattle.common.specs.Worlds.{member}
use Rattle.common.specs.Updates.{put}
use Rattle.common.proofs.Tests.{both, split}
use Rattle.kinds.specs.declared.Message.TheVariants.{Out}
use Rattle.common.specs.Places.{has}
use Rattle.bench.specs.Changes.{in_state}
use Rattle.tables.specs.Rows.{rows, logs}
use Rattle.tables.specs.Steps.{acted, stored, sent_of, lacks_one, lacked_by_one, start_at, abstain_at, leave_at, fail_at, turn_at, arrive_at, notice_at, table_step}
use Rattle.tables.specs.Runs.{state_of, noticed_by, bench_of, run_by, run_of}
use Rattle.tables.specs.Sound.{Sound}
use Rattle.tables.specs.Meets.{Links}
use Rattle.common.proofs.Sets.{member_has}
use Rattle.tables.proofs.Lines.{line_out}
use Rattle.tables.proofs.States.{fresh_is, live_is, gone_is, failed_is}
use Rattle.tables.proofs.Change.{Linked}
use Rattle.tables.proofs.Quiet.{goes_quietly, notices}
use Rattle.tables.proofs.Sending.{with_state, with_decision, sends_out, sends_round}
use Rattle.tables.proofs.Taking.{takes_next}
use Rattle.tables.proofs.Turning.{turn_links}
use Rattle.tables.proofs.Starting.{lacks_is, lacked_is}
use Rattle.tables.proofs.Checks.{not_above, asks, bars, all_hold_lem, behind, at_bench_lem, at_benches_lem}

module _ (N : ℕ) (t : List Bench) (l : List (List Entry)) (s : Sound N t l) where
  abbrev run : Run
  run = run_of t l

  -- ---- the tests of states

  state_is : (k : ℕ) → (run (suc k)).state ≡ state_of (rows t k).state
  unfolding run_of run_by bench_of
  state_is k = refl

  fresh_test : (k : ℕ) → is_fresh (run (suc k)).state ≡ eqb (rows t k).state 0
  fresh_test k = ap is_fresh (state_is k) ∙ fresh_is (rows t k).state

  live_test : (k : ℕ) → (is_fresh (run (suc k)).state || is_running (run (suc k)).state) ≡ not (ltb 1 (rows t k).state)
  live_test k = ap (λ (x : State). is_fresh x || is_running x) (state_is k) ∙ live_is (rows t k).state

  gone_test : (k : ℕ) → not (is_gone (run (suc k)).state) ≡ not (ltb 3 (rows t k).state)
  gone_test k = ap (λ (x : State). not (is_gone x)) (state_is k) ∙ ap not (gone_is (rows t k).state)

  failed_test : (k : ℕ) → is_failed (run (suc k)).state ≡ ltb 4 (rows t k).state
  failed_test k = ap is_failed (state_is k) ∙ failed_is (rows t k).state

  noticed_test : (k j : ℕ) → not ((run (suc k)).noticed (suc j)) ≡ not (has (rows t k).noticed j)
  unfolding run_of run_by bench_of noticed_by
  noticed_test k j = refl

  -- ---- start: 3, 4, 5, 6, 7

  world_test : (w k : ℕ) → (ltb w (2 ^ N) && member (suc k) w) ≡ (ltb w (2 ^ N) && has w k)
  world_test w k = rw (member_has k w) refl

  start_links : (v w k : ℕ) → k < N → Linked N (start_at N t l v w k) (behind N t l s 1 (start (suc k) v w))
  unfolding start_at checks after
  start_links v w k h =
      asks N t l s 3 (eqb (rows t k).state 0) _ _ _ _ (fresh_test k) λ e₃.
      bars N t l s 4 (ltb 65535 v) _ _ _ _ (not_above 65535 v) λ e₄.
      asks N t l s 5 (ltb w (2 ^ N) && has w k) _ _ _ _ (world_test w k) λ e₅.
      bars N t l s 6 (lacks_one N t w) _ _ _ _ (lacks_is N t l s w) λ e₆.
      bars N t l s 7 (lacked_by_one N t l k) _ _ _ _ (lacked_is N t l k) λ e₇.
      let new = eqb-true (rows t k).state 0 e₃ in let none = (s.ok.fit k).fresh new in
      all_hold_lem N t l s _ _
      (sends_round N t l s k h v w (ltb-true w (2 ^ N) (both (ltb w (2 ^ N)) (has w k) e₅).0) (omega arith) (omega arith) 1 (omega arith))

  -- ---- abstain, leave, fail: 3

  parts : (k : ℕ) → k < N → (st : ℕ) → eqb (rows t k).silent 1 ≡ false → 3 ≤ st → (st ≡ 3 → (rows t k).sent ≡ 0)
      → Linked N (acted (sent_of t l k (in_state st (rows t k)) Out)) (done (put run (suc k) (parting (state_of st) (run (suc k)))))
  unfolding in_state with_state with_decision parting published.in_state run_of run_by bench_of
  parts k h st quiet h₃ abstained =
      sends_out N t l s k h st (rows t k).chose quiet (omega arith) (λ p. absurd (omega arith)) abstained

  abstain_links : (k : ℕ) → k < N → Linked N (abstain_at t l k) (behind N t l s 1 (abstain (suc k)))
  unfolding abstain_at checks after state_of
  abstain_links k h =
      asks N t l s 3 (eqb (rows t k).state 0) _ _ _ _ (fresh_test k) λ e₃.
      let new = eqb-true (rows t k).state 0 e₃ in
      all_hold_lem N t l s _ _ (parts k h 3 ((s.ok.fit k).live (omega arith)).0 (omega arith) (λ p. (s.ok.fit k).fresh new))

  out_is : (k : ℕ) → has_out (run (suc k)).sent ≡ eqb (rows t k).silent 1
  unfolding run_of run_by bench_of
  out_is k = line_out (logs l k) (rows t k).sent (eqb (rows t k).silent 1)

  -- OUT is sent if it has not been yet
  leaves : (k : ℕ) → k < N → Linked N (acted (cond (eqb (rows t k).silent 1) (stored t l k (in_state 4 (rows t k))) (sent_of t l k (in_state 4 (rows t k)) Out)))
      (done (put run (suc k) (leaving (run (suc k)))))
  unfolding leaving state_of
  leaves k h = split (eqb (rows t k).silent 1)
      (λ o. rw (o, out_is k ∙ o) (goes_quietly N t l s k h 4 (omega arith)))
      (λ o. rw (o, out_is k ∙ o) (parts k h 4 o (omega arith) (λ p. absurd (omega arith))))

  leave_links : (k : ℕ) → k < N → Linked N (leave_at t l k) (behind N t l s 1 (leave (suc k)))
  unfolding leave_at checks after
  leave_links k h =
      bars N t l s 3 (ltb 3 (rows t k).state) _ _ _ _ (gone_test k) λ e₃.
      all_hold_lem N t l s _ _ (leaves k h)

  fail_links : (k : ℕ) → k < N → Linked N (fail_at t l k) (behind N t l s 1 (fail (suc k)))
  unfolding fail_at checks after state_of
  fail_links k h =
      bars N t l s 3 (ltb 3 (rows t k).state) _ _ _ _ (gone_test k) λ e₃.
      all_hold_lem N t l s _ _ (goes_quietly N t l s k h 5 (omega arith))

  -- ---- arrive: 3, 9, 8

  arrive_links : (k j : ℕ) → k < N → j < N → (j ≡ k → ⊥) → Linked N (arrive_at t l k j) (behind N t l s 2 (arrive (suc k) (suc j)))
  unfolding arrive_at checks after
  arrive_links k j hk hj ne =
      bars N t l s 3 (ltb 1 (rows t k).state) _ _ _ _ (live_test k) λ e₃.
      bars N t l s 9 (has (rows t k).noticed j) _ _ _ _ (noticed_test k j) λ e₉.
      takes_next N t l s k j hk hj ne

  -- ---- notice: 3, 10, 9

  notice_links : (k j : ℕ) → k < N → j < N → (j ≡ k → ⊥) → Linked N (notice_at t l k j) (behind N t l s 2 (notice (suc k) (suc j)))
  unfolding notice_at checks after
  notice_links k j hk hj ne =
      bars N t l s 3 (ltb 1 (rows t k).state) _ _ _ _ (live_test k) λ e₃.
      asks N t l s 10 (ltb 4 (rows t j).state) _ _ _ _ (failed_test j) λ e₁₀.
      bars N t l s 9 (has (rows t k).noticed j) _ _ _ _ (noticed_test k j) λ e₉.
      all_hold_lem N t l s _ _ (notices N t l s k hk j)

  -- ---- all seven, behind checks 1 and 2

  linked : (a : Step) → Linked N (table_step N t l a) (step N run a)
  unfolding table_step checks
  linked (start b v w) = at_bench_lem N t l s (λ c. start c v w) (start_at N t l v w) (λ c. refl) (start_links v w) b
  linked (abstain b) = at_bench_lem N t l s abstain (abstain_at t l) (λ c. refl) abstain_links b
  linked (leave b) = at_bench_lem N t l s leave (leave_at t l) (λ c. refl) leave_links b
  linked (fail b) = at_bench_lem N t l s fail (fail_at t l) (λ c. refl) fail_links b
  linked (turn b) = at_bench_lem N t l s turn (turn_at N t l) (λ c. refl) (turn_links N t l s) b
  linked (arrive b f) = at_benches_lem N t l s arrive (arrive_at t l) (λ c d. refl) arrive_links b f
  linked (notice b f) = at_benches_lem N t l s notice (notice_at t l) (λ c d. refl) notice_links b f

  pub links : (a : Step) → Links N (table_step N t l a) (step N run a)
  unfolding run_from
  links a = linked a (s.steps ++ (a ∷ [])) (run_append N new_run s.steps (a ∷ []) ∙ ap (λ (r : Run). (step N r a).run) s.led)
