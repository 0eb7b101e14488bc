-- W8: theorem 5.4 of document 000 along a list of steps in which no fail step is done. By induction over the list. Assumes nothing.
use mathlib.Core.Path.{◌≡◌, refl}
use Prim.Native.Nat.{ℕ, ◌+◌, ◌≤◌}
use mathlib.Core.List.{List, [], ◌∷◌}
use native.Mathlib.Omega.{arith}
use Rattle.published.specs.Rounds.{Run, Bench, Step, fail, Answer, refuse, done, step, run_from}
use Rattle.published.specs.Accepted.{here, later}
use Rattle.published.specs.Pause.{NoRoundAbove, NoFailDone}
use Rattle.common.specs.Updates.{put}
use Rattle.published.proofs.Moves.{Move, Outcome, refused, moved, step_outcome}
use Rattle.published.proofs.Invariant.{Base}
use Rattle.published.proofs.Effects.{base_move}
use Rattle.published.proofs.Failures.{fell, stands, fate}
use Rattle.published.proofs.Standing.{NoneFailedAbove}
use Rattle.published.proofs.Pause.{stops, none_above_move, none_failed_move}

record Late (n r : ℕ) (s : Run) : Type 0 where
  pub base : Base n s
  pub fb : NoneFailedAbove r s
  pub rb : NoRoundAbove (r + 2) s

module _ (n : ℕ) (r : ℕ) (pos : 1 ≤ r) where
  late_move : (s : Run) → Late n r s → (a : Step) (b : ℕ) (x : Bench) → Move n s a b x → (a ≡ fail b → ⊥) → Late n r (put s b x)
  late_move s h a b x mv ne = record {
    base = base_move n s h.base a b x mv;
    fb = elim (fate n s a b x mv) [ fell e hb f ↦ absurd (ne e) | stands u ↦ none_failed_move n s h.base a b x mv r u h.fb ];
    rb = none_above_move n s h.base a b x mv (r + 2) (omega arith) (stops n s h.base r pos h.fb h.rb b) h.rb;
  }

  late_outcome : (s : Run) → Late n r s → (a : Step) (k : Answer) → Outcome n s a k → ((b : ℕ) → a ≡ fail b → k.number ≡ 0 → ⊥) → Late n r k.run
  unfolding refuse done
  late_outcome s h a k (refused j f) ne = h
  late_outcome s h a k (moved b x mv) ne = late_move s h a b x mv (λ e. ne b e refl)

  late_from : (s : Run) → Late n r s → (l : List Step) → NoFailDone n s l → Late n r (run_from n s l)
  unfolding run_from
  late_from s h [] nf = h
  late_from s h (a ∷ l) nf = late_from (step n s a).run
      (late_outcome s h a (step n s a) (step_outcome n s a) (λ b e z. nf b (rw e (here s l (rw e at z)))))
      l (λ b g. nf b (later s a l g))

  pub two_more : (s : Run) → Base n s → NoRoundAbove r s → (l : List Step) → NoFailDone n s l → NoRoundAbove (r + 2) (run_from n s l)
  two_more s h none l nf = (late_from s (record { base = h; fb = λ b q v w k m. none b q v w m; rb = λ b q v w m. omega (arith, none b q v w m) }) l nf).rb
