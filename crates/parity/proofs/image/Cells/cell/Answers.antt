-- `Cells::cell` meets its contract: the block lies inside the image.
-- Assumes nothing.
use native.Mathlib.Nat.{add-sub_cancel_left}
use native.Mathlib.Omega.{arith}
use Rattle.terms.specs.Lists.{part}
use Rattle.geometry.specs.Store.{cell_at}
use Rattle.parity.specs.Parity.{cell}
use Rattle.parity.proofs.Inside.{cell_ends}
use Rattle.parity.proofs.image.Cells.cell.Goals as goal

pub slice_bounds-result-end : goal.slice_bounds-result-end
slice_bounds-result-end c = omega (arith, cell_ends c.args.self.fitting c.args.stripe c.args.card c.requires.0 c.requires.1)

pub returns : goal.returns
unfolding cell part cell_at
returns c = rw add-sub_cancel_left
