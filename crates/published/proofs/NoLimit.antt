-- W9: a limit on rounds from 2 n + 1 on refuses no turn: no bench that may go on goes above it. Assumes nothing.
use mathlib.Core.Path.{◌≡◌, refl}
use Prim.Native.Nat.{ℕ, suc, ◌+◌, ◌*◌, ◌≤◌}
use mathlib.Core.Bool.{true, ◌||◌}
use native.Mathlib.Omega.{arith}
use lib.Dec.{leb}
use borrow.Author.Tests.{le-leb}
use Rattle.common.proofs.Tests.{split}
use Rattle.published.specs.Rounds.{Run, running, decides, settled}
use Rattle.published.proofs.Reached.{Reached, next_round_lem}

module _ (n limit : ℕ) (enough : 2 * n + 1 ≤ limit) where
  module _ (s : Run) (h : Reached n s) where
    pub within : (b : ℕ) → (s b).state ≡ running → settled n b (s b) ≡ true → (decides n b (s b) || leb (suc (s b).round) limit) ≡ true
    within b k t = split (decides n b (s b))
        (λ d. rw d refl)
        (λ d. rw d (le-leb (suc (s b).round) limit (omega (arith, next_round_lem n s h b k d t))))
