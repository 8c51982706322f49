-- The algebra of exclusive or on numbers: with zero it is a group in which every number is its own inverse, and bytes stay bytes.
-- Assumes nothing.
use Prim.Native.Nat.{ℕ, zero, suc, ◌+◌, ◌*◌, ◌/◌, ◌%◌, ◌<◌}
use mathlib.Core.Path.{◌≡◌, refl, sym, ap, ap₂, ◌∙◌}
use native.Mathlib.Omega.{arith}
use lib.Arith.{bin_ind, digits_mod}
use lib.Bits.{bit_xor, differ, xor_step, xor_shr, xor_lt, xor_zero_l, xor_zero_r}
use lib.Bits.{xor_comm as bits-comm, xor_self as bits-self}

-- ---- one digit

digit_lt : (x y : ℕ) → x < 2 → y < 2 → differ x y < 2
digit_lt zero y hx hy = hy
digit_lt (suc zero) zero hx hy = hx
digit_lt (suc zero) (suc zero) hx hy = omega arith
digit_lt (suc zero) (suc (suc y)) hx hy = omega arith
digit_lt (suc (suc x)) y hx hy = omega arith

digit_assoc : (x y z : ℕ) → x < 2 → y < 2 → z < 2 → differ (differ x y) z ≡ differ x (differ y z)
digit_assoc zero y z hx hy hz = refl
digit_assoc (suc zero) zero z hx hy hz = refl
digit_assoc (suc zero) (suc zero) zero hx hy hz = refl
digit_assoc (suc zero) (suc zero) (suc zero) hx hy hz = refl
digit_assoc (suc zero) (suc zero) (suc (suc z)) hx hy hz = absurd (omega arith)
digit_assoc (suc zero) (suc (suc y)) z hx hy hz = absurd (omega arith)
digit_assoc (suc (suc x)) y z hx hy hz = absurd (omega arith)

-- ---- numbers

odd_lt : (a : ℕ) → a % 2 < 2
odd_lt a = omega arith

xor_half : (a b : ℕ) → bit_xor a b / 2 ≡ bit_xor (a / 2) (b / 2)
xor_half a b = xor_shr a b 1

xor_odd : (a b : ℕ) → bit_xor a b % 2 ≡ differ (a % 2) (b % 2)
xor_odd a b =
    ap (λ (x : ℕ). x % 2) (xor_step a b) ∙ digits_mod (bit_xor (a / 2) (b / 2)) (digit_lt (a % 2) (b % 2) (odd_lt a) (odd_lt b))

-- (a ⊕ b) ⊕ c is a ⊕ (b ⊕ c)
pub xor_assoc : (a b c : ℕ) → bit_xor (bit_xor a b) c ≡ bit_xor a (bit_xor b c)
xor_assoc =
    bin_ind (λ (n : ℕ). (b c : ℕ) → bit_xor (bit_xor n b) c ≡ bit_xor n (bit_xor b c)) (λ b c. refl)
    (λ n ih b c.
    xor_step (bit_xor n b) c
    ∙ ap₂ (λ (x y : ℕ). x * 2 + y)
    (ap (λ (x : ℕ). bit_xor x (c / 2)) (xor_half n b) ∙ ih (b / 2) (c / 2)
    ∙ ap (λ (x : ℕ). bit_xor (n / 2) x) (sym (xor_half b c)))
    (ap (λ (x : ℕ). differ x (c % 2)) (xor_odd n b)
    ∙ digit_assoc (n % 2) (b % 2) (c % 2) (odd_lt n) (odd_lt b) (odd_lt c)
    ∙ ap (λ (x : ℕ). differ (n % 2) x) (sym (xor_odd b c)))
    ∙ sym (xor_step n (bit_xor b c)))

pub xor_comm : (a b : ℕ) → bit_xor a b ≡ bit_xor b a
xor_comm = bits-comm

pub xor_zero : (a : ℕ) → bit_xor a 0 ≡ a
xor_zero = xor_zero_r

pub zero_xor : (a : ℕ) → bit_xor 0 a ≡ a
zero_xor = xor_zero_l

pub xor_self : (a : ℕ) → bit_xor a a ≡ 0
xor_self = bits-self

-- bytes stay bytes
pub xor_byte : (a b : ℕ) → a < 256 → b < 256 → bit_xor a b < 256
xor_byte = xor_lt 8

-- a number added twice is gone
pub xor_twice : (a b : ℕ) → bit_xor (bit_xor a b) b ≡ a
xor_twice a b = xor_assoc a b b ∙ ap (λ (x : ℕ). bit_xor a x) (xor_self b) ∙ xor_zero a

-- the two on the left may change places
pub xor_left_comm : (a b c : ℕ) → bit_xor a (bit_xor b c) ≡ bit_xor b (bit_xor a c)
xor_left_comm a b c = sym (xor_assoc a b c) ∙ ap (λ (x : ℕ). bit_xor x c) (xor_comm a b) ∙ xor_assoc b a c

-- two sums are added term by term
pub xor_four : (a b c d : ℕ) → bit_xor (bit_xor a b) (bit_xor c d) ≡ bit_xor (bit_xor a c) (bit_xor b d)
xor_four a b c d =
    xor_assoc a b (bit_xor c d) ∙ ap (λ (x : ℕ). bit_xor a x) (xor_left_comm b c d) ∙ sym (xor_assoc a c (bit_xor b d))

-- two numbers are equal exactly when their sum is zero
pub xor_zero_eq : (a b : ℕ) → bit_xor a b ≡ 0 → a ≡ b
xor_zero_eq a b h = sym (xor_twice a b) ∙ ap (λ (x : ℕ). bit_xor x b) h ∙ zero_xor b

pub eq_xor_zero : (a b : ℕ) → a ≡ b → bit_xor a b ≡ 0
eq_xor_zero a b h = ap (λ (x : ℕ). bit_xor x b) h ∙ xor_self b
