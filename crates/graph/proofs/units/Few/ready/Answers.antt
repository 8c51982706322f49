-- `ready` meets its contract: by the graph's steps and reads.
-- Assumes nothing.
use mathlib.Core.Path.{◌∙◌}
use Rattle.graph.specs.Asked.{action_step}
use Rattle.graph.proofs.Few.{few}
use Rattle.graph.proofs.Forerunners.{ready_of}
use Rattle.graph.proofs.units.Few.ready.Goals as goal

pub returns : goal.returns
returns c =
    let p = c.args.self.plan in
    (rw (few p.units c.args.self.few) at c.ready_by.ensures)
    ∙ ready_of p.units p.graph p.mask p.missing c.args.done c.args.k _ _ (action_step c.step_of-action.result)
    c.sets-reads.ensures.steps c.sets-reads.ensures.reads c.step_of-action.ensures
