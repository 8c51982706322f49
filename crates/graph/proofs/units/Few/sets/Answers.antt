-- `sets` meets its contract: the sets that `bases` finds, without the missing position, joined.
-- Assumes nothing.
use native.Mathlib.Omega.{arith}
use Rattle.graph.proofs.BySets.{reads_made, low_fits, steps_fit, steps_made}
use Rattle.graph.proofs.units.Few.sets.Goals as goal

pub overflow_add-low : goal.overflow_add-low
overflow_add-low c =
    let p = c.args.self.plan in
    let e = c.bases-bases.ensures in
    record { fits = omega (arith, low_fits p.units p.graph p.mask p.missing c.args.self.few _ _ _ _ e.reads e.writes e.sum c.present-present.ensures) }

pub overflow_add-steps-2 : goal.overflow_add-steps-2
overflow_add-steps-2 c =
    let p = c.args.self.plan in
    let e = c.bases-bases.ensures in
    record { fits = omega (arith, steps_fit p.units p.graph p.mask p.missing c.args.self.few _ _ _ _ e.reads e.writes e.sum c.present-present.ensures) }

pub returns-clause-reads : goal.returns-clause-reads
returns-clause-reads c =
    let p = c.args.self.plan in
    let e = c.bases-bases.ensures in
    reads_made p.units p.graph p.mask p.missing c.args.self.few _ _ _ _ e.reads e.writes e.sum c.present-present.ensures

pub returns-clause-steps : goal.returns-clause-steps
returns-clause-steps c =
    let p = c.args.self.plan in
    let e = c.bases-bases.ensures in
    steps_made p.units p.graph p.mask p.missing c.args.self.few _ _ _ _ e.reads e.writes e.sum c.present-present.ensures
