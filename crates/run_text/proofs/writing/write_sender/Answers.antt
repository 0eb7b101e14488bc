-- `write_sender`: two fields, one after the other.
use Rattle.std.proofs.Common.{◌++◌, append_assoc}
use Rattle.spelling.specs.Numbers.{ascii, digits}
use Rattle.room.proofs.Writers.{put_then, put_last}
use Rattle.run_text.proofs.writing.write_sender.Goals as goal

pub returns : goal.returns
returns c =
    let e = append_assoc c.args.key.now (digits c.args.bench.0) (ascii " from=" ++ digits c.args.from.0) in
    rw (← e) (put_then _ _ c.put_field.ensures (put_last _ c.put_field-2.ensures) (rw (← e) at c.requires))
