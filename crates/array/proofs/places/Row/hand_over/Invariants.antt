-- `array::places::Row::hand_over` meets its contract: after u turns the units below u are moved.
-- Assumes nothing.
use Rattle.record.specs.Life.{units_of}
use Rattle.array.specs.Collection.{hand_unit}
use Rattle.array.proofs.Units.{Turned}
use Rattle.array.proofs.places.Row.hand_over.Given as goal

abbrev pub invariant-loop-u : goal.invariant-loop-u
invariant-loop-u l =
    Turned (units_of l.self.of.state) l.size l.mask (hand_unit l.self.of.state l.self.number l.mask l.work) l.initial.res l.res l.place l.u
