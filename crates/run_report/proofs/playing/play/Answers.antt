-- `play`: the lines so far have their answers, and the tables stand for the run after them; reading goes on where the next line begins.
use Rattle.std.proofs.Common.{sym, ◌∙◌, arith, lit<}
use Rattle.run_report.proofs.Played.{playing_none, playing_room, playing_less, playing_more, playing_all}
use Rattle.run_report.proofs.playing.play.Goals as goal

pub loop-line-init : goal.loop-line-init
loop-line-init c = playing_none _ _ _ c.requires.new_run _ c.requires.no_answers

pub returns : goal.returns
returns c = playing_all _ _ _ _ _ _ c.loop-line.invariant (sym c.read_line.ensures ∙ c.in_default.is)

pub push-requires : goal.push-requires
push-requires c = (lit< tt, omega (arith, playing_room _ _ _ _ _ _ c.loop-line.invariant _ _ (sym c.read_line.ensures ∙ c.in-Some.is), c.requires.text_len_bound))

pub loop-line-smaller : goal.loop-line-smaller
loop-line-smaller c = playing_less _ _ _ _ _ _ c.loop-line.invariant _ _ (sym c.read_line.ensures ∙ c.in-Some.is)

pub loop-line-preserved : goal.loop-line-preserved
loop-line-preserved c = rw (c.push.ensures.items, c.answer_number.ensures) (playing_more _ _ _ _ _ _ c.loop-line.invariant _ _ (sym c.read_line.ensures ∙ c.in-Some.is) _ _ _ c.play_line.ensures)
