-- Why docs/PAUSE.md says r from 1 on, and r + 2: in the case of specs/Leaver.antt nobody fails and round 3 is sent, so neither r = 0 nor r + 1 would do. By computation.
-- Assumes nothing.
use mathlib.Core.Path.{◌≡◌, refl}
use mathlib.Core.Bool.{true}
use mathlib.Core.List.{List, [], ◌++◌}
use Prim.Native.Nat.{ℕ, ◌+◌, ◌≤◌}
use native.Mathlib.Omega.{arith}
use lib.Dec.{leb}
use borrow.Author.Tests.{leb-true}
use Rattle.common.specs.Worlds.{bit, member, world_of, every_in, within}
use Rattle.common.specs.Benches.{every, is_bench}
use Rattle.common.specs.Updates.{put}
use Rattle.common.specs.Checks.{judge}
use Rattle.common.proofs.Benches.{every_get}
use Rattle.published.specs.Rounds.{new_run, new_bench, found, Step, step, run_from, find, has_out, view_of, got, see, agrees, is_awaited, is_heard, decides, decides_on, settled, settled_on, next_world, heard_on, lesser, next_value, least_on, in_state, in_round, sending, taking, noticing, choosing, entering, parting, deciding, advancing, turned, leaving, is_fresh, is_running, is_failed, is_gone, is_found, started_with, has_all, in_all, waiting, some, taking_first, checks, after, refuse, done}
use Rattle.published.specs.Pause.{NoRoundAbove, NoFailDone}
use Rattle.published.proofs.Lists.{is_no_fail, no_fails, no_fail_done}
use Rattle.published.proofs.Reached.{reached_run, reached_base, none_sent}
use Rattle.kinds.specs.Sizes.{benches_of}
use Rattle.examples.specs.Table.{benches}
use Rattle.examples.specs.Leaver.{starts, rounds}

-- bench 1 sends round 3; and when all have started, nobody is past round 1
case : (find 3 (run_from benches new_run (starts ++ rounds) 1).sent ≡ found 1 0b011) × (every benches (λ b. leb (run_from benches new_run starts b).round 1) ≡ true)
unfolding starts rounds run_from benches_of new_run new_bench step bit member every world_of every_in within put find has_out view_of got see agrees is_awaited is_heard decides decides_on settled settled_on next_world heard_on lesser next_value least_on in_state in_round sending taking noticing choosing entering parting deciding advancing turned leaving is_bench is_fresh is_running is_failed is_gone is_found started_with has_all in_all waiting some taking_first checks after refuse done judge
case = (refl, refl)

-- nobody fails
no_fails_lem : (no_fails rounds ≡ true) × (no_fails (starts ++ rounds) ≡ true)
unfolding starts rounds no_fails is_no_fail
no_fails_lem = (refl, refl)

none_second : NoRoundAbove 1 (run_from benches new_run starts)
none_second b q v w m =
    let s = run_from benches new_run starts in let h = reached_base benches s (reached_run benches starts) in
    omega (arith, (h.wf b).upto q v w m, leb-true (s b).round 1 (every_get benches (λ i. leb (s i).round 1) b case.1 (h.range b q v w m)))

-- From r = 0 on, r + 2 is too few: nobody has sent anything, nobody fails, and round 3 is sent.
pub not_from_zero : ((l : List Step) → NoRoundAbove 0 (run_from benches new_run l)
    → (m : List Step) → NoFailDone benches (run_from benches new_run l) m → NoRoundAbove 2 (run_from benches new_run (l ++ m))) → ⊥
unfolding run_from
not_from_zero f = let none = f [] none_sent (starts ++ rounds) (λ b. no_fail_done benches b new_run (starts ++ rounds) no_fails_lem.1) in
    absurd (omega (arith, none 1 3 1 0b011 case.0))

-- From r = 1 on, r + 1 is too few.
pub not_one_more : ((l : List Step) (r : ℕ) → 1 ≤ r → NoRoundAbove r (run_from benches new_run l)
    → (m : List Step) → NoFailDone benches (run_from benches new_run l) m → NoRoundAbove (r + 1) (run_from benches new_run (l ++ m))) → ⊥
not_one_more f =
    let s = run_from benches new_run starts in
    let none = f starts 1 (omega arith) none_second rounds (λ b. no_fail_done benches b s rounds no_fails_lem.0) in
    absurd (omega (arith, none 1 3 1 0b011 case.0))
