-- `write_answer_line`: the answer's text is put, and byte 10 behind it.
use Rattle.reports.specs.RunReport.{answer_line}
use Rattle.room.proofs.Writers.{put_then, put_last}
use Rattle.run_report.proofs.answers.write_answer_line.Goals as goal

pub returns : goal.returns
unfolding answer_line
returns c = put_then _ _ c.put_answer.ensures (put_last _ c.put_bytes.ensures) c.requires
