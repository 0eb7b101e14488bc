-- What a move makes of failures: a fail step makes one, and no other move does. By cases on the move. Assumes nothing.
use mathlib.Core.Path.{◌≡◌, refl}
use Prim.Native.Nat.{ℕ}
use Rattle.published.specs.Rounds.{Run, Bench, failed, in_state, in_round, sending, taking, noticing, choosing, entering, parting, deciding, advancing, Step, fail}
use Rattle.common.specs.Benches.{In}
use Rattle.common.proofs.Tests.{clash}
use Rattle.published.proofs.Moves.{Up, live_up, Move, starts, abstains, leaves, leaves_silent, fails, takes, notices, concludes, advances}

-- what has become of bench b, now x, by the step a
pub data Fate (n : ℕ) (a : Step) (b : ℕ) (x : Bench) : Type 0 where
  fell : a ≡ fail b → In n b → x.state ≡ failed → Fate n a b x
  stands : Up x.state → Fate n a b x

pub fate : (n : ℕ) (s : Run) (a : Step) (b : ℕ) (x : Bench) → Move n s a b x → Fate n a b x
unfolding entering parting deciding advancing in_state in_round sending taking noticing choosing
fate n s a d x (starts b v w hb k hv hw mb c₆ c₇) = stands (λ z. clash (cc))
fate n s a d x (abstains b hb k) = stands (λ z. clash (cc))
fate n s a d x (leaves b hb u o) = stands (λ z. clash (cc))
fate n s a d x (leaves_silent b hb u o) = stands (λ z. clash (cc))
fate n s a d x (fails b hb u) = fell refl hb refl
fate n s a d x (takes b f m q hb hf ne l g e) = stands (live_up (s b).state l)
fate n s a d x (notices b f hb hf ne l e g) = stands (live_up (s b).state l)
fate n s a d x (concludes b hb k t) = stands (λ z. clash (cc))
fate n s a d x (advances b hb k t u) = stands (λ z. clash (cc))
