-- A one shifted to a place of a word of 64 bits is the power of two.
-- Assumes nothing.
use Prim.Native.Nat.{ℕ, ◌*◌, ◌%◌, ◌^◌, ◌≤◌, ◌<◌}
use mathlib.Core.Path.{◌≡◌, ◌∙◌}
use native.Mathlib.Nat.{one-mul}
use native.Mathlib.Omega.{arith}
use lib.Pow.{shl_exact, pow_pos}

pub one_shl : (k : ℕ) → k < 64 → 1 * 2 ^ k % 18446744073709551616 ≡ 2 ^ k
one_shl k h = shl_exact {a = 1} 1 k 64 (omega arith) (omega arith) ∙ one-mul (2 ^ k)

pub one_shl_pos : (k : ℕ) → k < 64 → 1 ≤ 1 * 2 ^ k % 18446744073709551616
one_shl_pos k h = rw (one_shl k h) (pow_pos k)
