-- A step that is not answered 0 leaves every word of both tables, and no answer is above 11, whatever tables are handed in: check by check. Assumes nothing.
use Rattle.bench.specs.declared.Entry.{Entry}
use Rattle.bench.specs.declared.Bench.{Bench}
use mathlib.Core.Path.{◌≡◌, refl, ◌∙◌}
use mathlib.Core.Bool.{Bool, true, false, cond, ◌&&◌}
use native.Mathlib.Omega.{arith}
use lib.Dec.{eqb, leb, ltb}
use borrow.Author.Tests.{leb-true}
use Rattle.common.specs.Places.{has}
use Rattle.tables.specs.Rows.{rows}
use Rattle.tables.specs.Lines.{heard_of}
use mathlib.Core.List.{List}
use Prim.Native.Nat.{ℕ, ◌-◌, ◌^◌, ◌≤◌}
use Rattle.published.specs.Rounds.{Step, start, abstain, leave, fail, turn, arrive, notice}
use Rattle.common.specs.Benches.{is_bench}
use Rattle.std.specs.Prelude.{Option, Some, None}
use Rattle.kinds.specs.declared.Message.{Message}
use Rattle.bench.specs.Turns.{go_on_of}
use Rattle.bench.proofs.Answers.{turn_ind}
use Rattle.tables.specs.Steps.{Tables, Act, Acts, refused, acted, lacks_one, lacked_by_one, start_at, abstain_at, leave_at, fail_at, turn_by, turn_on, turn_at, take_next, arrive_at, notice_at, at_bench, at_benches, table_step}

module _ (N : ℕ) (t : List Bench) (l : List (List Entry)) where
  -- what is not answered 0 leaves both tables; and the answer
  record Stays (e : Act) : Type 0 where
    pub stays : (e.answer ≡ 0 → ⊥) → (e.tables.benches ≡ t) × (e.tables.logs ≡ l)
    pub upto : e.answer ≤ 11

  no : (n : ℕ) → leb n 11 ≡ true → Stays (refused n t l)
  no n h = record { stays = λ z. (refl, refl); upto = leb-true n 11 h }

  yes : (x : Tables) → Stays (acted x)
  yes x = record { stays = λ z. absurd (z refl); upto = omega arith }

  either : (c : Bool) (x y : Act) → Stays x → Stays y → Stays (cond c x y)
  either true x y p q = p
  either false x y p q = q

  by_next : (k j : ℕ) (w : Option Message) → Stays (take_next t l k j w)
  unfolding take_next
  by_next k j (Some m) = yes _
  by_next k j None = no 8 refl

  at_bench_lem : (f : ℕ → Act) → ((k : ℕ) → Stays (f k)) → (b : ℕ) → Stays (at_bench N t l f b)
  unfolding at_bench
  at_bench_lem f h b = either (is_bench N b) _ _ (h (b - 1)) (no 1 refl)

  at_benches_lem : (g : ℕ → ℕ → Act) → ((k j : ℕ) → Stays (g k j)) → (b f : ℕ) → Stays (at_benches N t l g b f)
  unfolding at_benches
  at_benches_lem g h b f = either (is_bench N b && is_bench N f) _ _ (either (eqb b f) _ _ (no 2 refl) (h (b - 1) (f - 1))) (no 1 refl)

  at_start : (v w k : ℕ) → Stays (start_at N t l v w k)
  unfolding start_at
  at_start v w k = either (eqb (rows t k).state 0) _ _ (either (ltb 65535 v) _ _ (no 4 refl) (either (ltb w (2 ^ N) && has w k) _ _
      (either (lacks_one N t w) _ _ (no 6 refl) (either (lacked_by_one N t l k) _ _ (no 7 refl) (yes _))) (no 5 refl))) (no 3 refl)

  at_abstain : (k : ℕ) → Stays (abstain_at t l k)
  unfolding abstain_at
  at_abstain k = either (eqb (rows t k).state 0) _ _ (yes _) (no 3 refl)

  at_leave : (k : ℕ) → Stays (leave_at t l k)
  unfolding leave_at
  at_leave k = either (ltb 3 (rows t k).state) _ _ (no 3 refl) (yes _)

  at_fail : (k : ℕ) → Stays (fail_at t l k)
  unfolding fail_at
  at_fail k = either (ltb 3 (rows t k).state) _ _ (no 3 refl) (yes _)

  at_turn : (k : ℕ) → Stays (turn_at N t l k)
  unfolding turn_at turn_on turn_by go_on_of
  at_turn k = turn_ind N (rows t k) (heard_of N l (rows t k)) (λ r. Stays (turn_on t l k r)) (no 3 refl) (no 11 refl) (yes _) (yes _)

  at_arrive : (k j : ℕ) → Stays (arrive_at t l k j)
  unfolding arrive_at
  at_arrive k j = either (ltb 1 (rows t k).state) _ _ (no 3 refl) (either (has (rows t k).noticed j) _ _ (no 9 refl) (by_next k j _))

  at_notice : (k j : ℕ) → Stays (notice_at t l k j)
  unfolding notice_at
  at_notice k j = either (ltb 1 (rows t k).state) _ _ (no 3 refl) (either (ltb 4 (rows t j).state) _ _ (either (has (rows t k).noticed j) _ _ (no 9 refl) (yes _)) (no 10 refl))

  step_stays : (a : Step) → Stays (table_step N t l a)
  unfolding table_step
  step_stays (start b v w) = at_bench_lem _ (at_start v w) b
  step_stays (abstain b) = at_bench_lem _ at_abstain b
  step_stays (leave b) = at_bench_lem _ at_leave b
  step_stays (fail b) = at_bench_lem _ at_fail b
  step_stays (turn b) = at_bench_lem _ at_turn b
  step_stays (arrive b f) = at_benches_lem _ at_arrive b f
  step_stays (notice b f) = at_benches_lem _ at_notice b f

  -- and so of what every step of the code promises
  pub refused_keeps : (a : Step) (r : ℕ) (t' : List Bench) (l' : List (List Entry)) → Acts r t' l' (table_step N t l a) → (r ≡ 0 → ⊥) → (t' ≡ t) × (l' ≡ l)
  refused_keeps a r t' l' p n = let e = (step_stays a).stays (λ z. n (p.answer ∙ z)) in (p.benches ∙ e.0, p.logs ∙ e.1)

  pub answer_upto_11 : (a : Step) → (table_step N t l a).answer ≤ 11
  answer_upto_11 a = (step_stays a).upto
