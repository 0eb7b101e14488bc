-- No byte is printed from past the room, and what is printed is what is to be printed: a report, or a refusal's line.
use Rattle.std.proofs.Common.{ℕ, ◌≤◌, ◌<◌, ◌*◌, ◌^◌, length, arith, sym, subst, OnOk, le_of_eq}
use lib.ListN.{replicate, length-replicate}
use Rattle.std.specs.Io.KnownBytes.{Appends}
use Rattle.reports.proofs.Theorems.{report_inside, room_length_kept}
use Rattle.printing.proofs.Printed.{report_printed, refusal_printed}
use Rattle.printing.proofs.print_text.Goals as goal

as_long : (n b : ℕ) → n ≤ length (replicate n b)
as_long n b = le_of_eq (sym (length-replicate n b))

small : (n : ℕ) → n < 2 ^ 63 → n * 1 < 2 ^ 63
small n h = omega arith

pub report-requires : goal.report-requires
report-requires g c = small _ (g.met.P.Reporting.held.room)

pub shared_whole_as_front-write_all : goal.shared_whole_as_front-write_all
shared_whole_as_front-write_all g c =
    let held = g.met.P.Reporting.held in
    (omega (arith, report_inside c.report.ensures c.in-Ok.length c.in-Ok.is, room_length_kept c.report.ensures, length-replicate {0} {A = ℕ} g.row.ROOM 0), small _ held.room)

pub returns-in-Ok : goal.returns-in-Ok
returns-in-Ok g c =
    subst (λ w. OnOk c.write_all.result (Appends (g.W.Write.contents c.args.to.now) (g.W.Write.contents c.write_all.new.self) w))
    (report_printed _ g.met.P.Reporting.held (as_long g.row.ROOM 0) c.report.ensures _ c.in-Ok.is) c.write_all.ensures.bytes

pub returns-in-Err : goal.returns-in-Err
returns-in-Err g c =
    subst (λ w. OnOk c.write_all-in-Err.result (Appends (g.W.Write.contents c.args.to.now) (g.W.Write.contents c.write_all-in-Err.new.self) w))
    (refusal_printed _ g.met.P.Reporting.held (as_long g.row.ROOM 0) c.report.ensures _ c.in-Err.is (omega arith) (rw c.number.ensures at c.put_refusal.ensures.stored)) (rw c.written.ensures at c.write_all-in-Err.ensures.bytes)
