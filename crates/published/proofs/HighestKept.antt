-- W9: how far rounds have come stands in the empty run, and every move keeps it. Assumes nothing.
use mathlib.Core.Path.{◌≡◌, refl}
use Prim.Native.Nat.{ℕ, ◌+◌, ◌*◌}
use mathlib.Core.Bool.{true}
use native.Mathlib.Omega.{arith}
use Rattle.published.specs.Rounds.{Run, Bench, absent, is_failed, find, new_run, new_bench, Step}
use Rattle.published.specs.Pause.{NoRoundAbove}
use Rattle.common.specs.Updates.{put}
use Rattle.common.proofs.Counts.{count_mono, count_more}
use Rattle.common.proofs.Updates.{put_same}
use Rattle.published.proofs.Messages.{never}
use Rattle.published.proofs.Moves.{failed_is, up_not_failed, Move}
use Rattle.published.proofs.Invariant.{Base}
use Rattle.published.proofs.Changes.{failed_mono}
use Rattle.published.proofs.Effects.{effect}
use Rattle.published.proofs.Failures.{Fate, fell, stands, fate}
use Rattle.published.proofs.Pause.{stops, none_above_move, none_failed_move}
use Rattle.published.proofs.Highest.{lost, Few, goes_to}

module _ (n : ℕ) (s : Run) (g : Base n s) (h : Few n s) where
  module _ (a : Step) (b : ℕ) (x : Bench) (mv : Move n s a b x) where
    still_lost : (i : ℕ) → lost s i ≡ true → lost (put s b x) i ≡ true
    unfolding is_failed
    still_lost i e = let f = effect n s g a b x mv in rw (failed_mono s b x f.extra f.change i (failed_is (s i).state e)) refl

    all_move : NoRoundAbove (2 * n + 1) (put s b x)
    all_move = none_above_move n s g a b x mv (2 * n + 1) (omega arith) (goes_to n s g h b) h.all

    rounds_move : NoRoundAbove (h.floor + 2) (put s b x)
    rounds_move = none_above_move n s g a b x mv (h.floor + 2) (omega arith) (stops n s g h.floor h.pos h.fallen h.rounds b) h.rounds

    few_by : Fate n a b x → Few n (put s b x)
    unfolding is_failed
    few_by (fell e hb f) = record {
      floor = h.floor + 2;
      pos = omega arith;
      few = omega (
        arith,
        h.few,
        count_more (lost s) (lost (put s b x)) still_lost n b hb
            (up_not_failed (s b).state (effect n s g a b x mv).change.alive) (rw put_same (rw f refl)),
      );
      fallen = λ d q v w k m. rounds_move d q v w m;
      rounds = λ d q v w m. omega (arith, rounds_move d q v w m);
      all = all_move;
    }
    few_by (stands u) = record {
      floor = h.floor;
      pos = h.pos;
      few = omega (arith, h.few, count_mono (lost s) (lost (put s b x)) still_lost n);
      fallen = none_failed_move n s g a b x mv h.floor u h.fallen;
      rounds = rounds_move;
      all = all_move;
    }

    pub few_move : Few n (put s b x)
    few_move = few_by (fate n s a b x mv)

pub few_new : (n : ℕ) → Few n new_run
unfolding new_run new_bench find
few_new n = record {
  floor = 1;
  pos = omega arith;
  few = omega arith;
  fallen = λ b q v w k m. never absent v w refl m;
  rounds = λ b q v w m. never absent v w refl m;
  all = λ b q v w m. never absent v w refl m;
}
