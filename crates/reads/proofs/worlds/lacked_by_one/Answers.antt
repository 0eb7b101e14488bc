-- `lacked_by_one`: `any` visits the places below n.
use Rattle.std.proofs.Common.{rules}
use Rattle.tables.specs.Steps.{lacked_at, lacked_by_one}
use Rattle.bench.proofs.Visits.{any_some}
use Rattle.reads.proofs.worlds.lacked_by_one.Goals as goal

pub returns : goal.returns
unfolding lacked_by_one
returns c = any_some (lacked_at c.args.tables.now.benches c.args.tables.now.logs c.args.k) _ _ c.benches_of.ensures.0 _ _ _ c.any.ensures.ran (λ x b q k. search rules)
