-- `Cells::add_beside` meets its contract. The outer loop's invariant: the first i bytes of the sum have the cards' blocks added, the others are as they
-- were, and `any` is zero exactly when those first i are. The inner one's: the byte has the first cards' added.
-- Assumes nothing.
use Prim.Native.Nat.{ℕ}
use mathlib.Core.List.{List}
use mathlib.Core.Path.{◌≡◌}
use lib.Dec.{eqb}
use lib.ListN.{length}
use Rattle.block.specs.Blocks.{summed, all_zero}
use Rattle.block.proofs.Blocks.{xored}
use Rattle.block.proofs.Filled.{filled}
use Rattle.parity.specs.Fitting.{beside}
use Rattle.parity.specs.Parity.{cell}
use Rattle.parity.specs.declared.image.Cells.{Cells}
use Rattle.parity.proofs.Sums.{byte_of}
use Rattle.parity.proofs.image.Cells.add_beside.Given as goal

-- the cards' blocks
abbrev pub blocks : Cells → ℕ → ℕ → ℕ → List ℕ
blocks cells stripe but k = cell cells.stripes cells.size cells.image.now stripe (beside but k)

abbrev pub invariant-loop-k : goal.invariant-loop-k
invariant-loop-k g l = l.byte ≡ xored l.k (blocks l.self l.stripe l.but) l.sum l.i

abbrev pub invariant-loop-i : goal.invariant-loop-i
invariant-loop-i g l =
    (l.sum ≡ filled (byte_of g.row.N (blocks l.self l.stripe l.but) l.initial.sum) l.i l.initial.sum)
    × (length l.sum ≡ length l.initial.sum)
    × (eqb l.any 0 ≡ all_zero l.i (summed g.row.N (blocks l.self l.stripe l.but) l.initial.sum))
