-- `store_field` meets its contract. Two stores in a row. Assumes nothing.
use Rattle.room.proofs.Writers.{writes_then, holds_behind}
use Rattle.room.proofs.writer.Writer.store_field.Goals as goal

pub store_number-requires : goal.store_number-requires
store_number-requires c = holds_behind c.store_bytes.ensures _ c.requires

pub returns : goal.returns
returns c = writes_then c.store_bytes.ensures c.store_number.ensures
