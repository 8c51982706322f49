-- `block::add` meets its contract. The loop's invariant: the first i bytes of the sum have the block's added, the others are as they were.
-- Assumes nothing.
use Prim.Native.Nat.{ℕ}
use mathlib.Core.List.{List}
use mathlib.Core.Path.{◌≡◌}
use lib.Bits.{bit_xor}
use lib.ListN.{length, get_or}
use Rattle.block.proofs.Filled.{filled}
use Rattle.block.proofs.add.Given as goal

-- the sum's byte at k
abbrev pub byte : List ℕ → List ℕ → ℕ → ℕ
byte sum block k = bit_xor (get_or sum k 0) (get_or block k 0)

abbrev pub invariant-loop-i : goal.invariant-loop-i
invariant-loop-i l = (l.sum ≡ filled (byte l.initial.sum l.block) l.i l.initial.sum) × (length l.sum ≡ length l.initial.sum)
