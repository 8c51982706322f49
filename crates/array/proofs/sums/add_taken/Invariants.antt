-- `array::sums::add_taken` meets its contract: after p turns the blocks below p that the set has are added.
-- Assumes nothing.
use Prim.Native.Nat.{◌+◌, ◌*◌}
use Rattle.terms.specs.Lists.{part}
use Rattle.terms.specs.Sets.{bit}
use Rattle.array.proofs.Adding.{Added}
use Rattle.array.proofs.sums.add_taken.Given as goal

abbrev pub invariant-loop-p : goal.invariant-loop-p
invariant-loop-p l =
    Added l.cards (λ q. bit q l.taken) (λ q. part (l.first + q * l.size) l.size l.work) l.initial.sum l.sum l.p
