-- `judge` meets its contract.
-- Assumes nothing.
use Prim.Native.Nat.{ℕ}
use mathlib.Core.Path.{◌≡◌, ◌∙◌, sym, ap}
use Rattle.graph.specs.Asked.{part_of, judged}
use Rattle.graph.specs.declared.plan.Judged.{Judged}
use Rattle.graph.proofs.Forerunners.{judged_few, complete_test}
use Rattle.graph.proofs.InOrder.{in_order_of}
use Rattle.graph.proofs.plan.Plan.judge.Goals as goal

same : (v w : Judged) → v.right ≡ w.right → v.whole ≡ w.whole → v.steps ≡ w.steps → v.reads ≡ w.reads → v ≡ w
same v w a b c d = λ i. record { right = a i; whole = b i; steps = c i; reads = d i }

pub returns-in_default : goal.returns-in_default
unfolding judged
returns-in_default c =
    let d = c.default.ensures in
    rw c.in_default.ensures (same _ _ d.0 d.1.0 d.1.1.0 d.1.1.1)

pub returns : goal.returns
returns c =
    let few = c.in-Some.ensures in
    let p = c.in-Some.few.plan in
    let sets = c.sets-reads.ensures in
    let done = c.args.done in
    rw (← few.1)
    (same _ _
    (c.in_order.ensures ∙ in_order_of p.units p.graph p.mask p.missing done _ _ sets.reads sets.steps)
    (c.part_of.ensures ∙ ap (λ (s : ℕ). part_of s done) sets.steps ∙ complete_test p.units p.graph p.mask p.missing done)
    sets.steps
    sets.reads
    ∙ sym (judged_few p.units p.graph p.mask p.missing done (rw (← few.1) at few.0)))
