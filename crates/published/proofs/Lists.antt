-- Lists of steps: one behind the other, and such as have no fail step. Assumes nothing.
use mathlib.Core.Path.{◌≡◌, refl}
use mathlib.Core.Bool.{Bool, true, false, ◌&&◌, false≢true}
use mathlib.Core.List.{List, [], ◌∷◌, ◌++◌}
use Prim.Native.Nat.{ℕ}
use Rattle.published.specs.Rounds.{Run, Step, start, abstain, leave, fail, turn, arrive, notice, step, run_from}
use Rattle.published.specs.Accepted.{Accepted, here, later}
use Rattle.common.proofs.Tests.{both}

pub run_append : (n : ℕ) (s : Run) (l m : List Step) → run_from n s (l ++ m) ≡ run_from n (run_from n s l) m
unfolding run_from
run_append n s [] m = refl
run_append n s (a ∷ l) m = run_append n (step n s a).run l m

unfoldable pub is_no_fail : Step → Bool
is_no_fail (start b v w) = true
is_no_fail (abstain b) = true
is_no_fail (leave b) = true
is_no_fail (fail b) = false
is_no_fail (turn b) = true
is_no_fail (arrive b f) = true
is_no_fail (notice b f) = true

-- no step of the list is a fail step
unfoldable pub no_fails : List Step → Bool
no_fails [] = true
no_fails (a ∷ l) = is_no_fail a && no_fails l

-- so none is done, wherever the list begins
pub no_fail_done : (n : ℕ) (b : ℕ) (s : Run) (l : List Step) → no_fails l ≡ true → Accepted n (fail b) s l → ⊥
unfolding no_fails is_no_fail
no_fail_done n b d m e (here s l z) = false≢true e
no_fail_done n b d m e (later s c l g) = no_fail_done n b (step n s c).run l (both (is_no_fail c) (no_fails l) e).1 g
