-- A packed answer is read as docs/C-INTERFACE.md says: by divisions and remainders, and nothing is lost.
-- Assumes nothing.
use Prim.Native.Nat.{ℕ, ◌/◌, ◌%◌, ◌^◌, ◌<◌}
use mathlib.Core.Path.{◌≡◌}
use native.Mathlib.Omega.{arith}
use Rattle.terms.specs.Reply.{Reply}
use Rattle.recorder.specs.Packing.{packed}

pub record Unpacked (r : Reply) (p : ℕ) : Type 0 where
  pub number : p % 2 ^ 16 ≡ r.number
  pub first : p / 2 ^ 16 % 2 ^ 16 ≡ r.first
  pub second : p / 2 ^ 32 ≡ r.second

pub unpacked : (r : Reply) → r.number < 2 ^ 16 → r.first < 2 ^ 16 → Unpacked r (packed r)
unfolding packed
unpacked r n f = omega arith
