-- The room of crate ledger_report holds every report of a script that is not too long. This file need not be believed: its statement is proved.
use Rattle.std.proofs.Common.{lit<}
use Rattle.kinds.specs.declared.Size.TheVariants.{Sixteen}
use Rattle.reports.specs.LedgerReport.{ledger_report_of}
use Rattle.reports.proofs.Theorems.{ledger_report_never_empty, ledger_room_enough}
use Rattle.printing.specs.Printed.{HeldBy}

pub held : HeldBy 1377401 (ledger_report_of Sixteen)
held = record { room = lit< tt; some = ledger_report_never_empty Sixteen; enough = ledger_room_enough }
