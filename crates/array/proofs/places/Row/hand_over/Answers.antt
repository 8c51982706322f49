-- `array::places::Row::hand_over` meets its contract: after u turns the units below u are handed over.
-- Assumes nothing.
use native.Mathlib.Omega.{arith}
use mathlib.Core.Path.{sym, ◌∙◌}
use Rattle.array.proofs.Units.{turned_none, turned_pass, hand_more, keep_room}
use Rattle.array.proofs.places.Row.hand_over.Goals as goal
use Rattle.array.proofs.places.Row.hand_over.Goals.{then-has, else-has}

pub loop-u-init : goal.loop-u-init
loop-u-init c = turned_none _ _ _ _ _

pub overflow_add-place : goal.overflow_add-place
overflow_add-place c =
    let a = c.args in
    let k = c.loop-u in
    omega (
      arith,
      c.well_formed,
      keep_room a.self.of.state a.self.number a.mask a.res.now a.work.now a.self.of.limits a.self.below c.requires _ _ k.res k.place k.u k.invariant
          (sym c.has.ensures ∙ c.if-has.true),
    )

pub loop-u-preserved : goal.loop-u-preserved
loop-u-preserved c =
    let a = c.args in
    let k = c.loop-u in
    elim c.if-has.branch [
      | then-has w ↦
          rw (w.res-is, w.place-is)
          (hand_more a.self.of.state a.self.number a.mask a.res.now a.work.now a.self.of.limits a.self.below c.requires k.res k.place k.u k.invariant
          (rw c.units-u-end.ensures at c.loop-u-test.true) (sym c.has.ensures ∙ w.if-has.true) _ _ w.read_at-at.ensures w.carry.ensures)
      | else-has w ↦
          rw (w.res-is, w.place-is)
          (turned_pass _ _ _ _ _ k.res k.place k.u k.invariant (rw c.units-u-end.ensures at c.loop-u-test.true) (sym c.has.ensures ∙ w.if-has.false) (rw (sym c.has.ensures ∙ w.if-has.false)))
    ]
