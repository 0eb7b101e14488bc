-- `store_bytes` meets its contract. A part of the room is written whole. Assumes nothing.
use Rattle.std.proofs.Common.{refl, arith}
use Rattle.room.proofs.Cuts.{stored_part}
use Rattle.room.proofs.writer.Writer.store_bytes.Goals as goal

pub returns : goal.returns
returns c =
    record {
      same_room = refl;
      stored = stored_part c.args.self.now.room.now c.args.self.now.at c.args.bytes.now c.requires _ _ (omega arith) c.copy_from_slice.ensures.after;
    }
