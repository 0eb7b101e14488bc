-- `write_line` meets its contract. By the two checks. Assumes nothing.
use Rattle.std.proofs.Common.{rules, arith, refl, sym, ◌∙◌}
use Rattle.run_text.proofs.Answers.{step_length, line_long, line_is, not_writable, no_room, line_written}
use Rattle.run_text.proofs.writing.write_line.Goals as goal

pub returns-then-not-is_writable-clause-answer : goal.returns-then-not-is_writable-clause-answer
returns-then-not-is_writable-clause-answer c = (not_writable _ _ _ _ (sym c.if-not-is_writable.ensures)).0

pub returns-then-not-is_writable-clause-held : goal.returns-then-not-is_writable-clause-held
returns-then-not-is_writable-clause-held c = (not_writable _ _ _ _ (sym c.if-not-is_writable.ensures)).1

pub write_step-requires : goal.write_step-requires
write_step-requires c = omega (arith, step_length c.args.line)

pub returns-then-not-has_room-clause-answer : goal.returns-then-not-has_room-clause-answer
returns-then-not-has_room-clause-answer c =
    let long = line_long _ refl (search rules) c.write_step.ensures c.put_bytes.ensures in
    (no_room _ _ _ _ (sym c.if-not-is_writable.ensures) long c.has_room.ensures c.if-not-has_room.true).0

pub returns-then-not-has_room-clause-held : goal.returns-then-not-has_room-clause-held
returns-then-not-has_room-clause-held c =
    let long = line_long _ refl (search rules) c.write_step.ensures c.put_bytes.ensures in
    (no_room _ _ _ _ (sym c.if-not-is_writable.ensures) long c.has_room.ensures c.if-not-has_room.true).1

pub returns-clause-answer : goal.returns-clause-answer
returns-clause-answer c =
    let long = line_long _ refl (search rules) c.write_step.ensures c.put_bytes.ensures in
    let text = c.written.ensures ∙ line_is _ refl (search rules) c.write_step.ensures c.put_bytes.ensures in
    (line_written _ _ _ _ (sym c.if-not-is_writable.ensures) long c.has_room.ensures c.if-not-has_room.false refl refl text c.put_bytes-2.ensures refl).0

pub returns-clause-held : goal.returns-clause-held
returns-clause-held c =
    let long = line_long _ refl (search rules) c.write_step.ensures c.put_bytes.ensures in
    let text = c.written.ensures ∙ line_is _ refl (search rules) c.write_step.ensures c.put_bytes.ensures in
    (line_written _ _ _ _ (sym c.if-not-is_writable.ensures) long c.has_room.ensures c.if-not-has_room.false refl refl text c.put_bytes-2.ensures (search rules)).1
