-- `array::places::Row::keep_units` meets its contract: after u turns the units below u are moved.
-- Assumes nothing.
use Rattle.record.specs.Life.{units_of}
use Rattle.array.specs.Admission.{keep_unit}
use Rattle.array.proofs.Units.{Turned}
use Rattle.array.proofs.places.Row.keep_units.Given as goal

abbrev pub invariant-loop-u : goal.invariant-loop-u
invariant-loop-u l =
    Turned (units_of l.self.of.state) l.size l.mask (keep_unit l.self.of.state l.self.number l.mask l.payload) l.initial.work l.work l.from l.u
