-- `put_answer` meets its contract. With room what fits is both, without it nothing. Assumes nothing.
use Rattle.std.proofs.Common.{◌++◌, refl}
use Rattle.spelling.specs.Answers.{answer_text}
use Rattle.spelling.specs.Numbers.{ascii, digits}
use Rattle.spelling.proofs.Stores.{room_after_lem}
use Rattle.room.proofs.Writers.{put_none, put_all, put_held, holds_behind, writes_then}
use Rattle.room.proofs.writer.Writer.put_answer.Goals as goal

pub returns-else-has_room_for_answer : goal.returns-else-has_room_for_answer
returns-else-has_room_for_answer c = put_none _ _ _ _ refl c.has_room_for_answer.ensures c.if-has_room_for_answer.false

pub store_answer-requires : goal.store_answer-requires
store_answer-requires c =
    let both = answer_text c.args.line c.args.answer in
    let rest = ascii " answer=" ++ digits c.args.answer in
    let held = put_held c.args.self.now both _ _ refl c.has_room_for_answer.ensures c.if-has_room_for_answer.true in
    room_after_lem rest c.store_digits-self.ensures (holds_behind c.store_bytes.ensures (digits c.args.line ++ rest) held)

pub returns-then-has_room_for_answer : goal.returns-then-has_room_for_answer
returns-then-has_room_for_answer c =
    put_all _ _ _ _ refl c.has_room_for_answer.ensures c.if-has_room_for_answer.true
    (λ _. writes_then (writes_then c.store_bytes.ensures (record { same_room = refl; stored = c.store_digits-self.ensures })) c.store_answer.ensures)
