-- `play_text`: what each line adds keeps `Playing`, and when the text is at its end the report is whole.
use Rattle.std.proofs.Common.{rules, arith, sym, ap, ◌∙◌}
use Rattle.std.specs.Int.{from_bool}
use Rattle.ledger_report.proofs.Played.{count_inside, count_few, playing_none, playing_less, playing_room, playing_more, end_room, playing_all}
use Rattle.ledger_report.proofs.playing.play_text.Goals as goal

pub loop-line-init : goal.loop-line-init
loop-line-init c = playing_none _ _ _ _ c.new-ledger.ensures.begins

pub write_answer-requires-clause-count_in_bounds : goal.write_answer-requires-clause-count_in_bounds
write_answer-requires-clause-count_in_bounds c = count_inside _ _ _ _ _ _ _ c.play_line-answer.ensures

pub write_answer-requires-clause-count_bound : goal.write_answer-requires-clause-count_bound
write_answer-requires-clause-count_bound c = count_few _ _ _ _ _ _ _ c.play_line-answer.ensures

pub write_answer-requires-clause-line_in_bounds : goal.write_answer-requires-clause-line_in_bounds
write_answer-requires-clause-line_in_bounds c =
    playing_room _ _ _ _ _ _ _ _ c.loop-line.invariant _ _ (sym c.read_line.ensures ∙ c.in-Some.is) _ _ _ _ c.play_line-answer.ensures (omega arith)

pub loop-line-smaller : goal.loop-line-smaller
loop-line-smaller c = playing_less _ _ _ _ _ _ _ _ c.loop-line.invariant _ _ (sym c.read_line.ensures ∙ c.in-Some.is)

pub loop-line-preserved : goal.loop-line-preserved
loop-line-preserved c =
    playing_more _ _ _ _ _ _ _ _ c.loop-line.invariant _ _ (sym c.read_line.ensures ∙ c.in-Some.is) _ _ _ _ c.play_line-answer.ensures _ (c.from-refused.ensures ∙ ap from_bool c.is_err.ensures.value) _
    c.write_answer.ensures

pub write_end-requires-clause-lines_in_bounds : goal.write_end-requires-clause-lines_in_bounds
write_end-requires-clause-lines_in_bounds c = end_room _ _ _ _ _ _ _ _ c.loop-line.invariant (sym c.read_line.ensures ∙ c.in_default.is) (omega arith)

pub returns : goal.returns
returns c = playing_all _ _ _ _ _ _ _ _ c.loop-line.invariant (sym c.read_line.ensures ∙ c.in_default.is) c.write_end.ensures (search rules)
