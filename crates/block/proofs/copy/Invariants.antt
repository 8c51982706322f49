-- `block::copy` meets its contract. The loop's invariant: dst is as long as it was, its first i bytes are those of src, the others its own.
-- Assumes nothing.
use Prim.Native.Nat.{ℕ}
use mathlib.Core.Bool.{cond}
use mathlib.Core.List.{List}
use mathlib.Core.Path.{◌≡◌}
use lib.Dec.{ltb}
use lib.ListN.{length, get_or}
use Rattle.block.proofs.Filled.{filled}
use Rattle.block.proofs.copy.Given as goal

-- the byte at k
abbrev pub byte : List ℕ → List ℕ → ℕ → ℕ
byte dst src k = cond (ltb k (length src)) (get_or src k 0) (get_or dst k 0)

abbrev pub invariant-loop-i : goal.invariant-loop-i
invariant-loop-i l = (l.dst ≡ filled (byte l.initial.dst l.src) l.i l.initial.dst) × (length l.dst ≡ length l.initial.dst)
