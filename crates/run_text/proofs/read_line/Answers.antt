-- `read_line` meets its contract: what is read where the line stands is what the line says. Assumes nothing.
use Rattle.run_text.proofs.Lines.{line_is, line_none}
use Rattle.run_text.proofs.read_line.Goals as goal

pub returns-then-at-text : goal.returns-then-at-text
returns-then-at-text c = search line_is

pub returns-else-at-text : goal.returns-else-at-text
returns-else-at-text c = search line_none
