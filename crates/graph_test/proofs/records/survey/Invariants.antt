-- `survey` meets its contract. The loop's invariant: the records passed have been looked at.
-- Assumes nothing.
use mathlib.Core.Path.{◌≡◌}
use Rattle.graph_test.specs.Numbers.{table_from}
use Rattle.graph_test.proofs.records.survey.Given as goal
use Rattle.record.specs.Seen.{seen_to}

abbrev pub invariant-loop-i : goal.invariant-loop-i
invariant-loop-i l = l.survey ≡ seen_to l.state (table_from l.all) l.i
