-- Which decision of the published rounds an answer stands for. This file is to be believed.
use Rattle.std.specs.Prelude.{Option, Some, None}
use Rattle.published.specs.Rounds as published
use Rattle.kinds.specs.declared.SlotNo.{SlotNo}

unfoldable pub decision_is : Option SlotNo → published.Decision
decision_is None = published.none
decision_is (Some v) = published.chosen v.0
