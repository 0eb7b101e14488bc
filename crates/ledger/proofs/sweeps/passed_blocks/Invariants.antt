-- `ledger::sweeps::passed_blocks` meets its contract: none of the sweeps passed is of the slot. Assumes nothing.
use Prim.Native.Nat.{◌≤◌}
use mathlib.Core.Path.{◌≡◌}
use lib.ListN.{length, drop}
use Rattle.std.specs.List.{position_or_len}
use Rattle.std.specs.Slice.Iter.{chunks_exact_size, chunks_exact_rest}
use Rattle.ledger.specs.Sweeps.{of_slot}
use Rattle.ledger.proofs.sweeps.passed_blocks.Given as goal

abbrev pub invariant-loop-block : goal.invariant-loop-block
invariant-loop-block g l =
    (l.passed ≤ length l.sweeps) × (l.passed ≤ position_or_len (of_slot l.slot.0) l.sweeps) × (chunks_exact_size l.block-iterator ≡ g.row.BLOCK) × (chunks_exact_rest l.block-iterator ≡ drop l.passed l.sweeps)
