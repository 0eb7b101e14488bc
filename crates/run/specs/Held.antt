-- The room of crate run_report holds every report of a text that is not too long. This file need not be believed: its statement is proved.
use Rattle.std.proofs.Common.{lit<}
use Rattle.kinds.specs.declared.Size.TheVariants.{Sixteen}
use Rattle.reports.specs.RunReport.{run_report_of}
use Rattle.reports.proofs.Theorems.{run_report_never_empty, room_enough}
use Rattle.printing.specs.Printed.{HeldBy}

pub held : HeldBy 1365176 (run_report_of Sixteen)
held = record { room = lit< tt; some = run_report_never_empty Sixteen; enough = room_enough Sixteen }
