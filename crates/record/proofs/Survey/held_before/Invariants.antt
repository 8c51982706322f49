-- `held_before` meets its contract. The loop's invariant: none of the records passed holds the stripe.
-- Assumes nothing.
use mathlib.Core.Bool.{false}
use mathlib.Core.Path.{◌≡◌}
use lib.Dec.{eqb}
use lib.ListN.{take}
use Rattle.std.specs.List.{list_any}
use Rattle.record.proofs.Survey.held_before.Given as goal

abbrev pub invariant-loop-held : goal.invariant-loop-held
invariant-loop-held l = list_any (λ y. eqb y l.stripe) (take l.held-index l.held-items) ≡ false
