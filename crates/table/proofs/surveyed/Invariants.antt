-- `table::surveyed` meets its contract. The loop's invariant: the records passed have been looked at, but the one left out.
-- Assumes nothing.
use mathlib.Core.Path.{◌≡◌}
use lib.ListN.{set}
use Rattle.record.specs.Life.{free}
use Rattle.record.specs.Seen.{seen_to}
use Rattle.table.proofs.surveyed.Given as goal

abbrev pub invariant-loop-i : goal.invariant-loop-i
invariant-loop-i l = l.survey ≡ seen_to l.state (set l.table l.but free) l.i
