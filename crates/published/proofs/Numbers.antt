-- The numbers by which a step can be refused: those that document 01 lists for it, in its order. Assumes nothing.
use mathlib.Core.Path.{◌≡◌, refl}
use Prim.Native.Nat.{ℕ, ◌≤◌}
use mathlib.Core.Bool.{Bool, true, ◌&&◌}
use lib.Dec.{leb}
use borrow.Author.Tests.{leb-true}
use Rattle.common.proofs.Tests.{both}
use Rattle.common.proofs.Checks.{numbers, fails_among, all, among}
use Rattle.common.specs.Lists.{OneOf}
use Rattle.common.specs.Checks.{Fails}
use Rattle.published.specs.Refusals.{refusals}
use Rattle.published.specs.Rounds.{Run, Step, start, abstain, leave, fail, turn, arrive, notice, checks}

numbers_are : (n : ℕ) (s : Run) (a : Step) → numbers (checks n s a) ≡ refusals a
unfolding numbers checks refusals
numbers_are n s (start b v w) = refl
numbers_are n s (abstain b) = refl
numbers_are n s (leave b) = refl
numbers_are n s (fail b) = refl
numbers_are n s (turn b) = refl
numbers_are n s (arrive b f) = refl
numbers_are n s (notice b f) = refl

pub refusal_among : (n : ℕ) (s : Run) (a : Step) (k : ℕ) → Fails (checks n s a) k → OneOf k (refusals a)
refusal_among n s a k f = let o = fails_among (checks n s a) k f in rw (numbers_are n s a) at o

small : ℕ → Bool
small k = leb 1 k && leb k 11

all_small : (a : Step) → all small (refusals a) ≡ true
unfolding all small refusals
all_small (start b v w) = refl
all_small (abstain b) = refl
all_small (leave b) = refl
all_small (fail b) = refl
all_small (turn b) = refl
all_small (arrive b f) = refl
all_small (notice b f) = refl

-- a refusal's number is from 1 to 11, and so never 0
pub refusal_range : (n : ℕ) (s : Run) (a : Step) (k : ℕ) → Fails (checks n s a) k → (1 ≤ k) × (k ≤ 11)
unfolding small
refusal_range n s a k f =
    let p = both (leb 1 k) (leb k 11) (among small k (refusals a) (all_small a) (refusal_among n s a k f)) in
    (leb-true 1 k p.0, leb-true k 11 p.1)
