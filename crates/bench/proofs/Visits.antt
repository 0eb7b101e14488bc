-- A visit of the places below n, as `any` makes it, and one step of the least value. Assumes nothing.
use mathlib.Core.Path.{◌≡◌, refl, ap, ◌∙◌}
use mathlib.Core.Bool.{Bool, true, false, ◌||◌}
use mathlib.Core.List.{List, [], ◌∷◌, ◌++◌}
use Prim.Native.Nat.{ℕ, zero, suc, ◌+◌, min}
use native.Mathlib.Nat.{add-zero, zero-add}
use native.Mathlib.Numerals.{add-one}
use native.Mathlib.Omega.{arith}
use Rattle.std.proofs.Math.Bool.{or_comm, or-false}
use denote.Param.Members.{Mut}
use Rattle.std.proofs.iter.Yields.{nat_range_steps}
use Rattle.std.specs.Fn.{Called}
use Rattle.std.specs.Iterator.{YieldsThen}
use Rattle.std.specs.Option.{MatchOption}
use Rattle.std.specs.Prelude.{Option}
use Rattle.std.specs.declared.ops.Range.{Range}
use Rattle.std.proofs.lemmas.Iterator.{YieldsList-from_range}
use Rattle.std.proofs.lemmas.Iterator.Search.{any_from_yields_List}
use Rattle.std.specs.List.{FoldsTo, list_any, range_with_len}
use Rattle.std.proofs.lemmas.List.Folds.{list_any-append}
use Rattle.common.specs.Places.{has, some}
use Rattle.bench.specs.declared.Entry.{Entry}
use Rattle.bench.specs.Entries.{entry}
use Rattle.bench.specs.Turns.{least}

-- ---- a visit of the places below n

range_more : (a n : ℕ) → range_with_len a (suc n) ≡ range_with_len a n ++ ((a + n) ∷ [])
range_more a zero = rw add-zero refl
range_more a (suc n) = let e : a + 1 + n ≡ a + suc n = omega arith in ap (λ (l : List ℕ). a ∷ l) (range_more (a + 1) n ∙ rw e refl)

some_any : (p : ℕ → Bool) (n : ℕ) → list_any p (range_with_len 0 n) ≡ some p n
unfolding some
some_any p zero = refl
some_any p (suc n) =
    let e : 0 + n ≡ n = zero-add n in
    ap (list_any p) (range_more 0 n) ∙ list_any-append p (range_with_len 0 n) ((0 + n) ∷ []) ∙ rw (e, some_any p n, or_comm (some p n) (p n || false), or-false) refl

-- what `any` answers over 0..m, which are n places, by a closure that asks p
pub any_some : (p : ℕ → Bool) (m n : ℕ) → m ≡ n → {F : Type 0} {g : Mut F (ℕ × Unit {0}) Bool} (u : Range ℕ) (f : F) (r : Bool)
    → (xs : List ℕ) × (o : Option ℕ) × (j : F) × YieldsThen nat_range_steps (record { start = 0; end = m }) xs o u × FoldsTo (λ p x q. Called g p (x, tt) false q) f xs j × MatchOption o (r ≡ false) (λ x. (r ≡ true) × ((h : F) × Called g j (x, tt) true h))
    → ((x : ℕ) (b : Bool) (q : F) → Called g f (x, tt) b q → (q ≡ f) × (b ≡ p x)) → r ≡ some p n
any_some p m n e u f r ran asks = any_from_yields_List p u f r ran (YieldsList-from_range 0 m n refl (omega arith)) asks ∙ some_any p n

-- one more place of the least value
module _ (v s : ℕ) (l : List Entry) (k : ℕ) where
  pub least_heard : has s k ≡ true → least v s l (k + 1) ≡ min (entry l k).value.0 (least v s l k)
  unfolding least
  least_heard e = rw add-one (simp e)

  pub least_other : has s k ≡ false → least v s l (k + 1) ≡ least v s l k
  unfolding least
  least_other e = rw add-one (simp e)
