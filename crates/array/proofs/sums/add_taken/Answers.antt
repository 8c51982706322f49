-- `array::sums::add_taken` meets its contract: after p turns the blocks below p that the set has are added.
-- Assumes nothing.
use native.Mathlib.Nat.{add-sub_cancel_left}
use Rattle.terms.specs.Lists.{part}
use Rattle.terms.proofs.Bits.{bit_odd, bit_even}
use Rattle.array.proofs.Adding.{added_none, added_more, added_pass}
use Rattle.array.proofs.sums.add_taken.Goals as goal
use Rattle.array.proofs.sums.add_taken.Goals.{then-taken-p-eq1, else-taken-p-eq1}

pub loop-p-init : goal.loop-p-init
loop-p-init c = added_none _ _ _ _

pub loop-p-preserved : goal.loop-p-preserved
unfolding part
loop-p-preserved c =
    let k = c.loop-p in
    let a = c.args in
    let below = c.loop-p-test.true in
    elim c.if-taken-p-eq1.branch [
      | then-taken-p-eq1 w ↦ rw w.sum-is (added_more _ _ _ _ k.sum _ k.p k.invariant below (bit_odd k.p a.taken w.if-taken-p-eq1.true) _ (rw add-sub_cancel_left) w.add.ensures)
      | else-taken-p-eq1 w ↦ rw w.sum-is (added_pass _ _ _ _ k.sum k.p k.invariant below (bit_even k.p a.taken w.if-taken-p-eq1.false))
    ]
