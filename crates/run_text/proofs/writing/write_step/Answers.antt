-- `write_step`: by the step, as the definition goes.
use Rattle.spelling.specs.Spelling.{step_text}
use Rattle.room.proofs.Writers.{put_last}
use Rattle.run_text.proofs.writing.write_step.Goals as goal

pub write_start-requires : goal.write_start-requires
unfolding step_text
write_start-requires c = rw c.in-Start.is at c.requires

pub write_sender-requires : goal.write_sender-requires
unfolding step_text
write_sender-requires c = rw c.in-Arrive.is at c.requires

pub write_sender-requires-in-Notice : goal.write_sender-requires-in-Notice
unfolding step_text
write_sender-requires-in-Notice c = rw c.in-Notice.is at c.requires

pub returns-in-Start : goal.returns-in-Start
unfolding step_text
returns-in-Start c = rw c.in-Start.is c.write_start.ensures

pub returns-in-Abstain : goal.returns-in-Abstain
unfolding step_text
returns-in-Abstain c = rw c.in-Abstain.is (put_last _ c.put_field.ensures (rw c.in-Abstain.is at c.requires))

pub returns-in-Leave : goal.returns-in-Leave
unfolding step_text
returns-in-Leave c = rw c.in-Leave.is (put_last _ c.put_field-in-Leave.ensures (rw c.in-Leave.is at c.requires))

pub returns-in-Fail : goal.returns-in-Fail
unfolding step_text
returns-in-Fail c = rw c.in-Fail.is (put_last _ c.put_field-in-Fail.ensures (rw c.in-Fail.is at c.requires))

pub returns-in-Turn : goal.returns-in-Turn
unfolding step_text
returns-in-Turn c = rw c.in-Turn.is (put_last _ c.put_field-in-Turn.ensures (rw c.in-Turn.is at c.requires))

pub returns-in-Arrive : goal.returns-in-Arrive
unfolding step_text
returns-in-Arrive c = rw c.in-Arrive.is c.write_sender.ensures

pub returns-in-Notice : goal.returns-in-Notice
unfolding step_text
returns-in-Notice c = rw c.in-Notice.is c.write_sender-in-Notice.ensures
