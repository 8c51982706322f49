-- A phase's number in a record, as Life has it.
-- Assumes nothing.
use Rattle.std.specs.Prelude.{ℕ}
use Rattle.record.specs.declared.phase.Phase.{Phase}
use Rattle.record.specs.declared.phase.Phase.TheVariants.{Free, Open, Finished}

abbrev pub number_of : Phase → ℕ
number_of Free = 0
number_of Open = 1
number_of Finished = 2
