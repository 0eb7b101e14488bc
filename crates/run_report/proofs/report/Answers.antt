-- `report` meets its contract: by the parts that stand behind `put_totals`, and by which of the three ways it then goes. Assumes nothing.
use mathlib.Core.Bool.{not}
use mathlib.Core.Path.{refl, ap}
use Rattle.spelling.proofs.Stores.{room_yes, room_not}
use Rattle.run_report.proofs.Reports.{made, benches_room, parts_short, parts_done}
use borrow.Author.Rules.{rules}
use Rattle.run_report.proofs.report.Goals as goal

pub write_benches-requires : goal.write_benches-requires
write_benches-requires c = search (benches_room, rules)

pub room_for-requires : goal.room_for-requires
room_for-requires c =
    let p = made c.play.ensures refl c.write_benches.ensures c.len.ensures.value c.refused_in.ensures c.put_totals.ensures (search rules) in
    p.short

pub returns-then-not-room_for : goal.returns-then-not-room_for
returns-then-not-room_for c =
    let p = made c.play.ensures refl c.write_benches.ensures c.len.ensures.value c.refused_in.ensures c.put_totals.ensures (search rules) in
    parts_short _ _ _ _ _ _ (search rules) p (room_not c.room_for.ensures (ap not c.if-not-room_for.true))

pub returns : goal.returns
returns c =
    let p = made c.play.ensures refl c.write_benches.ensures c.len.ensures.value c.refused_in.ensures c.put_totals.ensures (search rules) in
    let last = rw c.written.ensures at c.put_bytes.ensures in
    parts_done _ _ _ _ _ _ (search rules) p (room_yes c.room_for.ensures c.if-not-room_for.false) refl refl c.write_answers.ensures last _ (search rules)
