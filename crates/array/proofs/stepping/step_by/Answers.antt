-- `array::stepping::step_by` meets its contract: what an accepted step does is one of the stripe's.
-- Assumes nothing.
use Prim.Native.Nat.{ℕ}
use mathlib.Core.Path.{◌≡◌, sym, ap, ◌∙◌}
use native.Mathlib.Omega.{arith}
use Rattle.terms.specs.Reply.{accepted, refused}
use Rattle.graph.specs.Steps.{step_of}
use Rattle.record.specs.Life.{units_of}
use Rattle.array.specs.Refusals.{step_refusal}
use Rattle.array.proofs.Accepted.{step_stripe, step_x, step_reads, step_x_below, step_lengths}
use Rattle.array.proofs.Performed.{told_within}
use Rattle.array.proofs.Within.{some_cards}
use Rattle.array.proofs.stepping.step_by.Goals as goal

pub invariant_of-standing-2 : goal.invariant_of-standing-2
invariant_of-standing-2 c =
    let a = c.args in
    let looked = c.look-look.ensures in
    let passed : let a = c.args in accepted 0 0 ≡ refused (step_refusal a.state a.survey a.r a.work.now a.image.now a.i a.k) = c.in_ok-of.ensures.reply in
    record {
      stripe_below = rw c.in_ok-of.ensures.same (step_stripe _ _ _ _ _ _ _ _ looked passed);
      x_is = rw c.in_ok-of.ensures.same (step_x _ _ _ _ _ _ _ _ looked passed);
      reads_are = rw c.in_ok-of.ensures.same (step_reads _ _ _ _ _ _ _ _ looked passed);
      x_below = rw c.in_ok-of.ensures.same (step_x_below _ _ _ _ _ _ _ _ looked passed);
    }

pub perform-requires : goal.perform-requires
perform-requires c =
    let a = c.args in
    let of = c.in_ok-of.of in
    let units : c.saturating_sub.result ≡ units_of c.in_ok-of.of.state = rw c.in_ok-of.ensures.same (omega arith) in (
      rw c.in_ok-of.ensures.same (step_lengths a.state a.survey a.r a.work.now a.image.now a.i a.k _ c.look-look.ensures c.in_ok-of.ensures.reply),
      told_within of.state.cards _ _ (omega (arith, some_cards of.state of.limits)) (sym (c.step_of-action.ensures ∙ ap (λ (n : ℕ). step_of n c.args.k) units)),
    )
