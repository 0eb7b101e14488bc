-- `Bench::forbids`: `any` visits the places below n.
use Rattle.std.proofs.Common.{rules}
use Rattle.bench.specs.Turns.{forbids_at, forbids_of}
use Rattle.bench.proofs.Visits.{any_some}
use Rattle.bench.proofs.Bench.forbids.Goals as goal

pub returns : goal.returns
unfolding forbids_of
returns c = any_some (forbids_at c.args.self.now c.args.h.now) _ _ c.benches_of.ensures.0 _ _ _ c.any.ensures.ran (λ x b q k. search rules)
