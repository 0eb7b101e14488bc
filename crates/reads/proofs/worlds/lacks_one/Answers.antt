-- `lacks_one`: `any` visits the places below n.
use Rattle.std.proofs.Common.{rules}
use Rattle.tables.specs.Steps.{lacks_at, lacks_one}
use Rattle.bench.proofs.Visits.{any_some}
use Rattle.reads.proofs.worlds.lacks_one.Goals as goal

pub returns : goal.returns
unfolding lacks_one
returns c = any_some (lacks_at c.args.benches.now c.args.world) _ _ c.benches_of.ensures.0 _ _ _ c.any.ensures.ran (λ x b q k. search rules)
