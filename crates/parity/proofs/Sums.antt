-- Blocks added to a sum byte by byte in one pass.
-- Assumes nothing.
use Prim.Native.Nat.{ℕ, ◌<◌}
use mathlib.Core.List.{List}
use mathlib.Core.Path.{◌≡◌, refl, sym, ◌∙◌}
use native.Mathlib.Omega.{arith}
use lib.ListN.{length, get_or}
use Rattle.terms.proofs.Lists.{is_tabulate}
use Rattle.block.specs.Blocks.{summed}
use Rattle.block.proofs.Blocks.{length_summed, get_d_summed_beyond}
use Rattle.block.proofs.Filled.{filled, filled_all}

-- the byte at i of the sum of n blocks and s
abbrev pub byte_of : ℕ → (ℕ → List ℕ) → List ℕ → ℕ → ℕ
byte_of n f s i = get_or (summed n f s) i 0

-- once the bytes that the blocks have are filled in, it is the sum
pub filled_sum : (n : ℕ) (f : ℕ → List ℕ) (s : List ℕ) (size : ℕ) → ((k : ℕ) → k < n → length (f k) ≡ size)
    → filled (byte_of n f s) size s ≡ summed n f s
filled_sum n f s size h =
    filled_all (byte_of n f s) s size
    (λ i l m.
    sym (get_d_summed_beyond n f s i m
    (λ k j.
    let e : length (f k) ≡ size = h k j in
    omega arith)))
    ∙ sym (is_tabulate (summed n f s) (length s) (byte_of n f s) 0 (length_summed n f s) (λ i m. refl))
