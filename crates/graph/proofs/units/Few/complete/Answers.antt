-- `complete` meets its contract: the steps are a subset of the done ones.
-- Assumes nothing.
use Prim.Native.Nat.{ℕ}
use mathlib.Core.Path.{◌∙◌, ap}
use Rattle.graph.specs.Asked.{part_of}
use Rattle.graph.proofs.Forerunners.{complete_test}
use Rattle.graph.proofs.units.Few.complete.Goals as goal

pub returns : goal.returns
returns c =
    let p = c.args.self.plan in
    c.part_of.ensures
    ∙ ap (λ (s : ℕ). part_of s c.args.done) c.sets.ensures.steps
    ∙ complete_test p.units p.graph p.mask p.missing c.args.done
