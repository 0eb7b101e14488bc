-- A bench by value and the tables are one thing: what `Bench::take` and `Bench::notice` promise is what an arrive and a notice that are done
-- leave of the bench's row. By cases on the checks. Assumes nothing.
use Rattle.bench.specs.declared.Entry.{Entry}
use mathlib.Core.Path.{◌≡◌, refl, sym, ap, ◌∙◌}
use mathlib.Core.Bool.{true, ◌&&◌}
use mathlib.Core.List.{List}
use Prim.Native.Nat.{ℕ, ◌-◌}
use native.Mathlib.Omega.{arith}
use lib.Dec.{eqb, ltb}
use Rattle.common.specs.Benches.{is_bench}
use Rattle.common.specs.Places.{has}
use Rattle.common.proofs.Tests.{both, clash, split}
use Rattle.published.specs.Rounds.{arrive, notice}
use Rattle.kinds.specs.declared.Message.{Message}
use Rattle.bench.specs.declared.Bench.{Bench}
use Rattle.std.specs.Prelude.{Option, Some, None}
use Rattle.bench.specs.Changes.{take_of, take_from, notice_of, notice_from}
use Rattle.tables.specs.Rows.{rows}
use Rattle.tables.specs.Steps.{Act, stored, take_next, next_on, arrive_at, notice_at, at_benches, table_step}

-- of a bench 1 to N the method takes, and notices, at its place
take_at : (N f : ℕ) (x : Bench) (m : Message) → is_bench N f ≡ true → take_from N x f m ≡ take_of x (f - 1) m
unfolding take_from
take_at N f x m e = rw e refl

notice_at_lem : (N f : ℕ) (x : Bench) → is_bench N f ≡ true → notice_from N x f ≡ notice_of x (f - 1)
unfolding notice_from
notice_at_lem N f x e = rw e refl

module _ (N : ℕ) (t : List Bench) (l : List (List Entry)) where
  -- a step of two benches that is answered 0 is done at their places
  at_places : (g : ℕ → ℕ → Act) (b f : ℕ) → (at_benches N t l g b f).answer ≡ 0 → (is_bench N f ≡ true) × (at_benches N t l g b f ≡ g (b - 1) (f - 1))
  unfolding at_benches
  at_places g b f z = split (is_bench N b && is_bench N f)
      (λ e. split (eqb b f)
      (λ q. clash (let p : 2 ≡ 0 = sym (rw (e, q) refl) ∙ z in omega arith))
      (λ q. ((both (is_bench N b) (is_bench N f) e).1, rw (e, q) refl)))
      (λ e. clash (let p : 1 ≡ 0 = sym (rw e refl) ∙ z in omega arith))

  -- what an arrive that is answered 0 took, and the row that it leaves
  takes : (k j : ℕ) → (arrive_at t l k j).answer ≡ 0
      → (m : Message) × (next_on t l k j ≡ Some m) × ((arrive_at t l k j).tables ≡ stored t l k (take_of (rows t k) j m))
  unfolding arrive_at take_next
  takes k j z = split (ltb 1 (rows t k).state)
      (λ e. clash (let p : 3 ≡ 0 = sym (rw e refl) ∙ z in omega arith))
      (λ e. split (has (rows t k).noticed j)
      (λ o. clash (let p : 9 ≡ 0 = sym (rw (e, o) refl) ∙ z in omega arith))
      (λ o.
      let whole : arrive_at t l k j ≡ take_next t l k j (next_on t l k j) = rw (e, o) refl in
      let w = next (next_on t l k j) (ap (λ (a : Act). a.answer) (sym whole) ∙ z) in
      (w.0, w.1, ap (λ (a : Act). a.tables) whole ∙ w.2)))
    where
      next : (q : Option Message) → (take_next t l k j q).answer ≡ 0 → (m : Message) × (q ≡ Some m) × ((take_next t l k j q).tables ≡ stored t l k (take_of (rows t k) j m))
      next (Some m) y = (m, refl, refl)
      next None y = clash (omega arith)

  notices : (k j : ℕ) → (notice_at t l k j).answer ≡ 0 → (notice_at t l k j).tables ≡ stored t l k (notice_of (rows t k) j)
  unfolding notice_at
  notices k j z = split (ltb 1 (rows t k).state)
      (λ e. clash (let p : 3 ≡ 0 = sym (rw e refl) ∙ z in omega arith))
      (λ e. split (ltb 4 (rows t j).state)
      (λ o. split (has (rows t k).noticed j)
      (λ h. clash (let p : 9 ≡ 0 = sym (rw (e, o, h) refl) ∙ z in omega arith))
      (λ h. rw (e, o, h) refl))
      (λ o. clash (let p : 10 ≡ 0 = sym (rw (e, o) refl) ∙ z in omega arith)))

  pub arrive_by_value : (b f : ℕ) → (table_step N t l (arrive b f)).answer ≡ 0
      → (m : Message) × (next_on t l (b - 1) (f - 1) ≡ Some m) × ((table_step N t l (arrive b f)).tables ≡ stored t l (b - 1) (take_from N (rows t (b - 1)) f m))
  unfolding table_step
  arrive_by_value b f z =
      let p = at_places (arrive_at t l) b f z in
      let w = takes (b - 1) (f - 1) (ap (λ (a : Act). a.answer) (sym p.1) ∙ z) in
      (w.0, w.1, ap (λ (a : Act). a.tables) p.1 ∙ rw (take_at N f (rows t (b - 1)) w.0 p.0) w.2)

  pub notice_by_value : (b f : ℕ) → (table_step N t l (notice b f)).answer ≡ 0
      → (table_step N t l (notice b f)).tables ≡ stored t l (b - 1) (notice_from N (rows t (b - 1)) f)
  unfolding table_step
  notice_by_value b f z =
      let p = at_places (notice_at t l) b f z in
      ap (λ (a : Act). a.tables) p.1
      ∙ rw (notice_at_lem N f (rows t (b - 1)) p.0) (notices (b - 1) (f - 1) (ap (λ (a : Act). a.answer) (sym p.1) ∙ z))
