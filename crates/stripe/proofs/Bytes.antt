-- Bytes under exclusive or are a group in which every element is its own inverse, so what is proved of a stripe holds of bytes.
-- Assumes nothing.
use Prim.Native.Nat.{ℕ, zero, suc}
use mathlib.Core.Path.{◌≡◌, refl, ap}
use lib.Bits.{bit_xor}
use Rattle.terms.specs.Sets.{xor_to}
use Rattle.block.proofs.Xor.{xor_assoc, xor_comm, xor_zero, xor_self}
use Rattle.stripe.specs.Group.{Group, sum_to}

abbrev pub bytes : Group
bytes =
    record {
      carrier = ℕ;
      nought = 0;
      add = bit_xor;
      add_assoc = xor_assoc;
      add_comm = xor_comm;
      add_nought = xor_zero;
      add_self = xor_self;
    }

-- a sum of bytes is their exclusive or
pub sum_xor : (n : ℕ) (f : ℕ → ℕ) → sum_to bytes n f ≡ xor_to n f
unfolding sum_to xor_to
sum_xor zero f = refl
sum_xor (suc n) f = ap (λ (x : ℕ). bit_xor x (f n)) (sum_xor n f)
