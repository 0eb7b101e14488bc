-- `ledger::sweeps::passed_blocks` meets its contract: none of the sweeps passed is of the slot. Assumes nothing.
use Prim.Native.Nat.{ℕ, ◌+◌}
use native.Mathlib.Omega.{arith}
use mathlib.Core.Bool.{not}
use mathlib.Core.Path.{ap, sym, ◌∙◌}
use lib.ListN.{drop}
use Rattle.std.specs.Slice.Iter.{chunks_exact_size, chunks_exact_rest}
use Rattle.std.proofs.lemmas.List.Sums.{prefix_len-le-length}
use Rattle.ledger.specs.Sweeps.{of_slot}
use Rattle.ledger.proofs.Searching.{block_passed, block_dropped}
use Rattle.ledger.proofs.sweeps.passed_blocks.Goals as goal

pub loop-block-init : goal.loop-block-init
loop-block-init g c =
    let same = c.into_iter-block-iterator.ensures.into_iter_gives in
    let cut = c.chunks_exact-block-items.ensures in
    (omega arith, omega arith, ap chunks_exact_size same ∙ cut.size, ap chunks_exact_rest same ∙ cut.rest)

pub loop-block-preserved : goal.loop-block-preserved
loop-block-preserved g c =
    let xs = c.args.sweeps.now in
    let inv = c.loop-block.invariant in
    let next = c.in-Some.ensures.steps in
    let size = next.1.1 ∙ inv.2 in
    let cut = sym inv.3 ∙ next.1.0 in
    let none = block_passed (of_slot c.args.slot.0) xs c.loop-block.passed c.in-Some.block.now (chunks_exact_rest c.next.new.self) cut inv.1 (sym c.any_of.ensures ∙ c.if-any_of.false) in (
      omega (arith, prefix_len-le-length (λ w. not (of_slot c.args.slot.0 w)) xs),
      omega arith,
      next.0 ∙ inv.2,
      block_dropped (of_slot c.args.slot.0) xs c.loop-block.passed _ _ cut ∙ ap (λ (j : ℕ). drop (c.loop-block.passed + j) xs) size,
    )
