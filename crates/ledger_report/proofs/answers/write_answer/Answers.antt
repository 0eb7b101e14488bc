-- `write_answer`: the number is put, what a hand-out says is written, and byte 10 is put behind it.
use Rattle.std.proofs.Common.{◌≡◌}
use Rattle.kinds.specs.Refusals.{answer_of}
use Rattle.ledger_report.proofs.AnswerLine.{number_kept, handed_room, line_written}
use Rattle.ledger_report.proofs.answers.write_answer.Goals as goal

pub write_handed-requires-clause-text_in_bounds : goal.write_handed-requires-clause-text_in_bounds
write_handed-requires-clause-text_in_bounds c =
    let number : c.answer_number.result ≡ answer_of c.args.answer = rw (c.answer_number.ensures, c.and.ensures) (number_kept c.args.answer) in
    handed_room _ _ _ _ (rw number at c.put_answer.ensures) c.requires.line_in_bounds

pub returns : goal.returns
returns c =
    let number : c.answer_number.result ≡ answer_of c.args.answer = rw (c.answer_number.ensures, c.and.ensures) (number_kept c.args.answer) in
    line_written _ _ _ _ (rw number at c.put_answer.ensures) c.requires.line_in_bounds c.write_handed.ensures c.put_bytes.ensures
