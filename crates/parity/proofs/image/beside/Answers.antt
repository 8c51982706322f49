-- `beside` meets its contract.
-- Assumes nothing.
use mathlib.Core.Path.{sym}
use native.Mathlib.Omega.{arith}
use Rattle.parity.proofs.Restored.{beside_below, beside_above}
use Rattle.parity.proofs.image.beside.Goals as goal

pub returns-then-k-card : goal.returns-then-k-card
returns-then-k-card c = sym (beside_below c.args.card c.args.k c.if-k-card.true)

pub returns-else-k-card : goal.returns-else-k-card
returns-else-k-card c = sym (beside_above c.args.card c.args.k (omega arith))
