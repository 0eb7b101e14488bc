-- What a message must be to be sent: a round message has room in a log.
use Rattle.std.specs.Prelude.{◌≤◌}
use Rattle.kinds.specs.Sizes.{depth}
use Rattle.kinds.specs.declared.Message.{Message}
use Rattle.kinds.specs.declared.Message.TheVariants.{Round, Out}

abbrev pub HasRoom : Message → Type 0
HasRoom (Round m) = (1 ≤ m.round.0) × (m.round.0 ≤ depth)
HasRoom Out = Unit {0}
