-- What the kinds stand for in the published rounds. This file is to be believed.
use Rattle.kinds.specs.declared.Message.{Message}
use Rattle.kinds.specs.declared.Message.TheVariants as message
use Rattle.kinds.specs.declared.Step.{Step}
use Rattle.kinds.specs.declared.Step.TheVariants.{Start, Abstain, Leave, Fail, Turn, Arrive, Notice}
use Rattle.published.specs.Rounds as published

unfoldable pub message_of : Message → published.Message
message_of (message.Round m) = published.Round m.round.0 m.value.0 m.world
message_of message.Out = published.Out

unfoldable pub step_of : Step → published.Step
step_of (Start b v w) = published.start b.0 v.0 w
step_of (Abstain b) = published.abstain b.0
step_of (Leave b) = published.leave b.0
step_of (Fail b) = published.fail b.0
step_of (Turn b) = published.turn b.0
step_of (Arrive b f) = published.arrive b.0 f.0
step_of (Notice b f) = published.notice b.0 f.0
