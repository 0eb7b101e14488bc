-- `refused_in`: `filter` and `count` are std's count.
use Rattle.std.proofs.Common.{rules, ◌≡◌, ℕ, ◌∙◌, not, eqb, count_by}
use Rattle.run_report.proofs.TotalsLine.{refused_counted}
use Rattle.run_report.proofs.totals.refused_in.Goals as goal

pub returns : goal.returns
returns c =
    let items = c.args.answers.now.items in
    let counted : c.count.result ≡ count_by (λ (a : ℕ). not (eqb a 0)) items = search rules in
    counted ∙ refused_counted items
