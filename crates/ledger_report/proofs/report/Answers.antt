-- `report` meets its contract: a text that is too long is refused, and no report is longer than the room.
use Rattle.std.proofs.Common.{◌≡◌, ◌≤◌, ℕ, List, length, arith}
use Rattle.kinds.specs.declared.Size.TheVariants.{Sixteen}
use Rattle.reports.specs.Reported.{longest}
use Rattle.reports.specs.LedgerReport.{ledger_report_of}
use Rattle.reports.proofs.Theorems.{ledger_report_length_bound}
use Rattle.reports.proofs.Settled.{text_long, report_done}
use Rattle.ledger_report.proofs.report.Goals as goal

held : (text room : List ℕ) → length text ≤ longest → length room ≡ 1377401 → length (ledger_report_of Sixteen text) ≤ length room
held text room h e = omega (arith, ledger_report_length_bound text h)

pub returns-then-text-gt-LONGEST : goal.returns-then-text-gt-LONGEST
returns-then-text-gt-LONGEST c = text_long _ _ _ c.if-text-gt-LONGEST.true

pub play_text-requires : goal.play_text-requires
play_text-requires c = (c.if-text-gt-LONGEST.false, held c.args.text.now c.args.room.now c.if-text-gt-LONGEST.false c.told-room)

pub returns : goal.returns
returns c =
    report_done _ _ _ c.if-text-gt-LONGEST.false (held c.args.text.now c.args.room.now c.if-text-gt-LONGEST.false c.told-room) c.play_text.ensures
