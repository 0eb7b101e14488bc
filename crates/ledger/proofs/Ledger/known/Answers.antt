-- `ledger::Ledger::known` meets its contract: a sender stands right behind its place.
use Prim.Native.Nat.{suc}
use native.Mathlib.Omega.{arith}
use mathlib.Core.Path.{◌≡◌, ap, ◌∙◌}
use Rattle.common.proofs.Benches.{bench_in}
use Rattle.senders.specs.Kept.{rows_of}
use Rattle.ledger.proofs.Ledger.known.Goals as goal

pub returns-clause-ok : goal.returns-clause-ok
returns-clause-ok c =
    let told = c.in_ok-i.ensures in
    let at = c.in_ok-i.field-0 in
    let behind : suc at.index ≡ c.args.sender.0 = omega (arith, told, bench_in _ _ told.0) in
    let x = c.args.self.now in
    (told.0, behind, at.in_tables, c.row_at.ensures ∙ ap (rows_of x.senders.joined x.senders.rows) behind)
