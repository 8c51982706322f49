-- `ready` meets its contract: what it is for few units.
-- Assumes nothing.
use Rattle.std.proofs.Common.{rules}
use Rattle.graph.proofs.Few.{when_few}
use Rattle.graph.proofs.plan.Plan.ready.Goals as goal

pub returns : goal.returns
returns c = when_few _ c.args.self _ _ _ c.few.ensures c.is_some_and.ensures (λ few e q. search rules)
