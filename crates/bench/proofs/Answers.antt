-- The next round, a turn by cases, and what no turn changes. Assumes nothing.
use mathlib.Core.Path.{◌≡◌, refl}
use Prim.Native.Nat.{ℕ, suc, ◌%◌, ◌<◌, ◌≤◌}
use native.Mathlib.Nat.{mod-eq_of_lt, mod-lt}
use native.Mathlib.Omega.{arith}
use lib.Dec.{eqb}
use Rattle.common.proofs.Tests.{cond_ind}
use Rattle.kinds.specs.Sizes.{depth}
use Rattle.kinds.specs.declared.Refusal.TheVariants.{WrongState, MemberAwaited}
use Rattle.bench.specs.Changes.{in_round, choosing}
use Rattle.bench.specs.Turns.{awaits_of, forbids_of, refuses, concludes, next_round, go_on_of, turn_of}
use Rattle.bench.specs.declared.Bench.{Bench}
use Rattle.bench.specs.declared.Heard.{Heard}
use Rattle.bench.specs.declared.Turned.{Turned}

-- the next round, and that a log has room for it
pub next_within : (r : ℕ) → r < depth → next_round r ≡ suc r
unfolding next_round
next_within r h = rw (mod-eq_of_lt h) (omega arith)

pub next_fits : (r : ℕ) → (1 ≤ next_round r) × (next_round r ≤ depth)
unfolding next_round
next_fits r = let h : r % depth < depth = mod-lt r (omega arith) in (omega arith, omega arith)

-- what holds of each way holds of a turn
pub turn_ind : (n : ℕ) (b : Bench) (h : Heard) (P : Turned → Type 0) → P (refuses b WrongState) → P (refuses b MemberAwaited) → P (concludes b) → P (go_on_of n b h) → P (turn_of n b h)
unfolding turn_of
turn_ind n b h P p₃ p₁₁ d g =
    cond_ind P (eqb b.state 1) _ _
    (λ s. cond_ind P (awaits_of n b h) _ _ (λ a. p₁₁) (λ a. cond_ind P (forbids_of n b h) _ _ (λ f. g) (λ f. d)))
    (λ s. p₃)

-- what is handed back is still the bench that was asked: a turn changes nothing that it has taken, noticed or sent
pub turn_keeps : (n : ℕ) (b : Bench) (h : Heard) → ((turn_of n b h).bench.outs ≡ b.outs) × ((turn_of n b h).bench.noticed ≡ b.noticed) × ((turn_of n b h).bench.sent ≡ b.sent) × ((turn_of n b h).bench.silent ≡ b.silent) × ((turn_of n b h).bench.taken ≡ b.taken)
unfolding go_on_of in_round choosing
turn_keeps n b h =
    turn_ind n b h (λ r. (r.bench.outs ≡ b.outs) × (r.bench.noticed ≡ b.noticed) × (r.bench.sent ≡ b.sent) × (r.bench.silent ≡ b.silent) × (r.bench.taken ≡ b.taken))
    (refl, refl, refl, refl, refl) (refl, refl, refl, refl, refl) (refl, refl, refl, refl, refl) (refl, refl, refl, refl, refl)
