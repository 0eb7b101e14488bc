-- Theorem 5.4 of document 000. Let no failed bench have sent a round above r, r being at least 1. Then all messages of round r + 2 are equal: whoever has sent
-- round r + 1 has not failed, and stands in every world up to there. So a bench that awaits nobody in round r + 2 decides, and none goes on. Assumes nothing.
use mathlib.Core.Path.{◌≡◌, refl}
use Prim.Native.Nat.{ℕ, suc, ◌+◌, ◌≤◌}
use mathlib.Core.Bool.{true, false, not}
use native.Mathlib.Omega.{arith}
use lib.Dec.{eqb}
use borrow.Author.Tests.{eqb-true, eqb-false, eq-eqb}
use Rattle.published.specs.Rounds.{Run, Bench, found, heard, running, failed, find, has_out, got, see, agrees, is_awaited, decides, decides_on, settled, settled_on, Step}
use Rattle.published.specs.Proposals.{M}
use Rattle.published.specs.Pause.{NoRoundAbove}
use Rattle.common.specs.Worlds.{member}
use Rattle.common.specs.Updates.{put}
use Rattle.common.proofs.Tests.{split, clash}
use Rattle.common.proofs.Updates.{put_ind}
use Rattle.common.specs.Benches.{In}
use Rattle.common.proofs.Worlds.{every_in_get, every_in_make, Sub, within_make}
use Rattle.published.proofs.Views.{view_of_ind}
use Rattle.published.proofs.Moves.{Up, Move}
use Rattle.published.proofs.Invariant.{Base}
use Rattle.published.proofs.NextRound.{got_found}
use Rattle.published.proofs.Changes.{at_start, at_turn, old, new, old_new}
use Rattle.published.proofs.Effects.{effect}
use Rattle.published.proofs.Standing.{NoneFailedAbove, stands_in}

-- ---- one world, one value

module _ (n : ℕ) (s : Run) (h : Base n s) (r : ℕ) (pos : 1 ≤ r) (fb : NoneFailedAbove r s) where
  -- lemma 5.2: all worlds of round r + 2 are one
  same_world : (i j v w v' w' : ℕ) → M s i (suc (suc r)) v w → M s j (suc (suc r)) v' w' → Sub n w w'
  same_world i j v w v' w' m m' k hk mk =
      let o = (h.came i r v w m).all_heard k hk mk in stands_in n s h r pos fb j k (suc (suc r)) v' w' o.value_of o.the_world hk o.msg m' (omega arith)

  -- lemma 5.3: and all values, since the least value is that of a member of both worlds
  value_le : (i j v w v' w' : ℕ) → M s i (suc (suc r)) v w → M s j (suc (suc r)) v' w' → v ≤ v'
  value_le i j v w v' w' m m' =
      let o = (h.came j r v' w' m').origin in
      let a = (h.came i r v w m).all_heard o.from o.from_in (same_world j i v' w' v w m' m o.from o.from_in o.from_member) in
      let p = a.msg in let q = o.from_msg in let e : a.value_of ≡ v' = cc in omega (arith, a.least)

  -- ---- round r + 2 is the last

  module _ (b : ℕ) (k : (s b).state ≡ running) (e : (s b).round ≡ suc (suc r)) where
    mine : M s b (suc (suc r)) (s b).value (s b).world
    mine = rw e at ((h.wf b).now k)

    heard_agrees : (j u y : ℕ) → find (s b).round (got b (s b) j) ≡ found u y → agrees n (s b).value (s b).world (heard u y) ≡ true
    unfolding agrees
    heard_agrees j u y g =
        let m : M s j (suc (suc r)) u y = rw e at (got_found n s h b j (s b).round u y g) in
        let p = eq-eqb u (s b).value (omega (arith, value_le b j (s b).value (s b).world u y mine m, value_le j b u y (s b).value (s b).world m mine)) in
        let q = within_make n y (s b).world (same_world j b u y (s b).value (s b).world m mine) in cc

    -- a member has sent round r + 1, so it has not failed
    none_missed : {A : Type 0} (j : ℕ) → In n j → member j (s b).world ≡ true → (s b).noticed j ≡ true → A
    none_missed j hj mj g =
        let o = (h.came b r (s b).value (s b).world mine).all_heard j hj mj in
        absurd (omega (arith, fb j (suc r) o.value_of o.the_world (h.gone b j g) o.msg))

    decides_there : settled n b (s b) ≡ true → decides n b (s b) ≡ true
    unfolding decides decides_on settled settled_on see agrees is_awaited
    decides_there t = every_in_make n (s b).world (λ i. agrees n (s b).value (s b).world (see b (s b) i)) λ j hj mj.
        view_of_ind (λ z. not (is_awaited z) ≡ true → agrees n (s b).value (s b).world z ≡ true)
        (find (s b).round (got b (s b) j)) (has_out (got b (s b) j)) ((s b).noticed j)
        (λ u y g q. heard_agrees j u y g)
        (λ g o q. refl)
        (λ g o f q. none_missed j hj mj f)
        (λ g o f q. cc)
        (every_in_get n (s b).world (λ i. not (is_awaited (see b (s b) i))) j t hj mj)

  -- nobody goes on to round r + 3
  pub stops : NoRoundAbove (r + 2) s → (b : ℕ) → (s b).state ≡ running → decides n b (s b) ≡ false → settled n b (s b) ≡ true → suc (s b).round ≤ r + 2
  stops rb b k d t = split (eqb (s b).round (suc (suc r)))
      (λ y. let p = decides_there b k (eqb-true (s b).round (suc (suc r)) y) t in clash (cc))
      (λ y. let p = eqb-false (s b).round (suc (suc r)) y in omega (arith, rb b (s b).round (s b).value (s b).world ((h.wf b).now k)))

-- ---- a move

module _ (n : ℕ) (s : Run) (h : Base n s) (a : Step) (b : ℕ) (x : Bench) (mv : Move n s a b x) (r : ℕ) where
  -- no round above r comes by a start, nor by a turn where the bench does not go on to one
  pub none_above_move : 1 ≤ r → ((s b).state ≡ running → decides n b (s b) ≡ false → settled n b (s b) ≡ true → suc (s b).round ≤ r)
      → NoRoundAbove r s → NoRoundAbove r (put s b x)
  none_above_move pos goes rb d q v w m = let f = effect n s h a b x mv in elim (old_new s b x f.extra f.change d q v w m) [
    | old m' ↦ rb d q v w m'
    | new e z ↦ elim (f.news q v w z).sends [
      | at_start e₁ ↦ omega arith
      | at_turn er k nd t ↦ omega (arith, goes k nd t)
    ]
  ]

  pub none_failed_move : Up x.state → NoneFailedAbove r s → NoneFailedAbove r (put s b x)
  none_failed_move u fb d q v w = put_ind (λ y. y.state ≡ failed → find q y.sent ≡ found v w → q ≤ r) s b x d (λ e k m. absurd (u k)) (λ e k m. fb d q v w k m)
