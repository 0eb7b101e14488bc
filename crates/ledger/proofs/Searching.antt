-- How the first sweep of a slot is found: by blocks that have none, and then one by one. Assumes nothing.
use mathlib.Core.Path.{◌≡◌, refl, ap, sym, ◌∙◌}
use Prim.Native.Nat.{ℕ, zero, suc, ◌+◌, ◌-◌, ◌≤◌}
use mathlib.Core.Bool.{Bool, true, false, ◌||◌, false≢true}
use mathlib.Core.List.{List, [], ◌∷◌, ◌++◌}
use native.Mathlib.Omega.{arith}
use lib.ListN.{length, take, drop, length-drop}
use lib.Seq.{drop-drop, drop_at, take_all}
use Rattle.std.specs.List.{fold, list_any, position_or_len}
use Rattle.common.proofs.Tests.{split}
use Rattle.book.specs.Book.{only}
use Rattle.ledger.specs.declared.Sweep as code
use Rattle.ledger.specs.Seen.{held_in}
use Rattle.ledger.specs.Sweeps.{of_slot, NoneOf}

-- whether one passes, asked of each
pub fold_any : {X : Type 0} (p : X → Bool) (a : Bool) (xs : List X) → fold (λ found x. found || p x) a xs ≡ (a || list_any p xs)
fold_any p true [] = refl
fold_any p false [] = refl
fold_any p true (x ∷ xs) = fold_any p true xs
fold_any p false (x ∷ xs) = fold_any p (p x) xs

module _ {X : Type 0} (p : X → Bool) where
  -- where none before place i passes, the first is looked for from there on
  pub position_from : (xs : List X) (i : ℕ) → i ≤ position_or_len p xs → position_or_len p xs ≡ i + position_or_len p (drop i xs)
  position_from xs zero h = omega arith
  position_from [] (suc i) h = absurd (omega arith)
  position_from (x ∷ xs) (suc i) h = split (p x)
      (λ e. absurd (let z : position_or_len p (x ∷ xs) ≡ 0 = rw e refl in omega (arith, z)))
      (λ e. let z : position_or_len p (x ∷ xs) ≡ 1 + position_or_len p xs = rw e refl in omega (arith, z, position_from xs i (omega (arith, z))))

  -- a block that has none is passed
  none_first : (b rest : List X) → list_any p b ≡ false → length b ≤ position_or_len p (b ++ rest)
  none_first [] rest e = omega arith
  none_first (x ∷ b) rest e = split (p x)
      (λ q. absurd (false≢true (sym e ∙ rw q refl)))
      (λ q. let z : position_or_len p ((x ∷ b) ++ rest) ≡ 1 + position_or_len p (b ++ rest) = rw q refl in
      omega (arith, z, none_first b rest (rw q at e)))

  pub block_passed : (xs : List X) (i : ℕ) (b rest : List X) → drop i xs ≡ b ++ rest → i ≤ position_or_len p xs → fold (λ found x. found || p x) false b ≡ false → i + length b ≤ position_or_len p xs
  block_passed xs i b rest e h none = omega (arith, position_from xs i h, ap (position_or_len p) e, none_first b rest (sym (fold_any p false b) ∙ none))

  pub block_dropped : (xs : List X) (i : ℕ) (b rest : List X) → drop i xs ≡ b ++ rest → rest ≡ drop (i + length b) xs
  block_dropped xs i b rest e = sym (rw (← drop-drop (length b) i xs, e) (drop_at b rest (length b) refl))

-- what is left of a slice from a place on, as code cuts it
pub rest_whole : {X : Type 0} (xs : List X) (i : ℕ) → take (length xs - i) (drop i xs) ≡ drop i xs
rest_whole xs i = take_all (length xs - i) (drop i xs) (omega (arith, length-drop i xs))

-- none before the first is of the slot
pub none_before : (k : ℕ) (xs : List code.Sweep) → NoneOf k (held_in (position_or_len (of_slot k) xs) xs)
unfolding only held_in
none_before k [] = refl
none_before k (x ∷ xs) = split (of_slot k x) (λ e. rw e refl)
    (λ e. let n : 1 + position_or_len (of_slot k) xs ≡ suc (position_or_len (of_slot k) xs) = omega arith in rw (e, n, e) (none_before k xs))
