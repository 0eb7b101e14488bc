-- `ledger::sweeps::skipped` meets its contract: past the blocks of 32, then of 8, the first is looked for one by one.
use Prim.Native.Nat.{◌+◌}
use native.Mathlib.Omega.{arith}
use mathlib.Core.Bool.{not}
use mathlib.Core.Path.{ap, ◌∙◌}
use Rattle.std.specs.List.{position_or_len}
use Rattle.std.proofs.lemmas.List.Sums.{prefix_len-le-length}
use Rattle.ledger.specs.Sweeps.{of_slot}
use Rattle.ledger.proofs.Searching.{position_from, rest_whole}
use Rattle.ledger.proofs.sweeps.skipped.Goals as goal

pub overflow_add-result : goal.overflow_add-result
overflow_add-result c =
    let p = of_slot c.args.slot.0 in
    let xs = c.args.sweeps.now in
    let far = c.passed_blocks-far.result in
    let near = far + c.passed_blocks.result in
    let past_far = position_from p xs far c.passed_blocks-far.ensures.none in
    let past_near = position_from p xs near (omega (arith, past_far, c.passed_blocks.ensures.none, ap (position_or_len p) (rest_whole xs far))) in
    omega (arith, c.passed_ones.ensures ∙ ap (position_or_len p) (rest_whole xs near), past_near, prefix_len-le-length (λ w. not (p w)) xs)

pub returns : goal.returns
returns c =
    let p = of_slot c.args.slot.0 in
    let xs = c.args.sweeps.now in
    let far = c.passed_blocks-far.result in
    let near = far + c.passed_blocks.result in
    let past_far = position_from p xs far c.passed_blocks-far.ensures.none in
    let past_near = position_from p xs near (omega (arith, past_far, c.passed_blocks.ensures.none, ap (position_or_len p) (rest_whole xs far))) in
    omega (arith, c.passed_ones.ensures ∙ ap (position_or_len p) (rest_whole xs near), past_near, prefix_len-le-length (λ w. not (p w)) xs)
