-- `write_start`: three parts one after another, and the world behind them.
use Rattle.std.proofs.Common.{◌++◌}
use Rattle.spelling.specs.Numbers.{ascii, digits}
use Rattle.spelling.specs.Spelling.{world_text}
use Rattle.room.proofs.Writers.{put_behind, put_then}
use Rattle.run_text.proofs.writing.write_start.Goals as goal

pub write_world-requires : goal.write_world-requires
write_world-requires c =
    let world = ascii " world=" ++ world_text c.args.world in
    let value = ascii " value=" ++ digits c.args.value.0 in
    let bench = ascii "step=start bench=" ++ digits c.args.bench.0 in
    let h₁ = put_behind bench (value ++ world) c.put_field.ensures c.requires in
    let h₂ = put_behind value world c.put_field-2.ensures h₁ in
    put_behind (ascii " world=") (world_text c.args.world) c.put_bytes.ensures h₂

pub returns : goal.returns
returns c =
    put_then _ _ c.put_field.ensures (put_then _ _ c.put_field-2.ensures (put_then _ _ c.put_bytes.ensures (λ _. c.write_world.ensures))) c.requires
