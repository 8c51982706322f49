-- `race::scenes::read_all` is safe and ends. No more touches came back than were read.
-- Assumes nothing.
use Rattle.std.proofs.Common.{◌≤◌}
use Rattle.race.proofs.scenes.read_all.Given as goal

abbrev pub invariant-loop-block : goal.invariant-loop-block
invariant-loop-block g l = l.same ≤ l.block
