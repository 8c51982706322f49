-- Sets of small numbers as the bits of a number, and what holds of all numbers below a bound, or of the lowest.
-- Assumes nothing.
use Rattle.std.specs.Prelude.{ℕ, zero, suc, ◌+◌, ◌/◌, ◌%◌, ◌^◌, Bool, true, cond, ◌&&◌, leb, eqb}
use Rattle.std.specs.Int.Bits.{bit_xor}

-- whether x is from lo to hi
unfoldable pub within : ℕ → ℕ → ℕ → Bool
within lo hi x = leb lo x && leb x hi

-- whether i is in the set m: bit i of m is one
unfoldable pub bit : ℕ → ℕ → Bool
bit i m = eqb (m / 2 ^ i % 2) 1

-- the set of the numbers below n for which p holds
unfoldable pub set_of : ℕ → (ℕ → Bool) → ℕ
set_of zero p = 0
set_of (suc n) p = set_of n p + cond (p n) (2 ^ n) 0

-- whether p holds of all numbers below n
unfoldable pub all_below : ℕ → (ℕ → Bool) → Bool
all_below zero p = true
all_below (suc n) p = all_below n p && p n

-- the lowest number below n for which p holds, and n where there is none
unfoldable pub lowest : ℕ → (ℕ → Bool) → ℕ
lowest zero p = zero
lowest (suc n) p = cond (p zero) zero (suc (lowest n (λ i. p (suc i))))

-- the exclusive or of f at the numbers below n
unfoldable pub xor_to : ℕ → (ℕ → ℕ) → ℕ
xor_to zero f = zero
xor_to (suc n) f = bit_xor (xor_to n f) (f n)
