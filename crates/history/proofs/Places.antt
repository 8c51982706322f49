-- Block numbers as stripes and units.
-- Assumes nothing.
use Prim.Native.Nat.{ℕ, zero, ◌+◌, ◌-◌, ◌*◌, ◌<◌}
use mathlib.Core.Path.{◌≡◌, refl, ap, ◌∙◌}
use native.Mathlib.Nat.{mul-add-div, mul-add-mod_self_left, div-eq_of_lt, mod-eq_of_lt, mod-lt, div-add-mod, div-lt_iff_lt-mul, mul-le-mul_right, add-zero}
use native.Mathlib.Omega.{arith}
use Rattle.geometry.specs.Placement.{stripe_of, unit_of, block_of}

-- unit u of stripe s, u below n
module _ (N s u : ℕ) (hu : u < N - 1) where
  pub block_stripe : stripe_of N (block_of N s u) ≡ s
  block_stripe =
      mul-add-div (let h : zero < N - 1 = omega arith in h) s u ∙ ap (λ (k : ℕ). s + k) (div-eq_of_lt hu) ∙ add-zero s

  pub block_unit : unit_of N (block_of N s u) ≡ u
  block_unit = mul-add-mod_self_left (N - 1) s u ∙ mod-eq_of_lt hu

  pub block_below : (S : ℕ) → s < S → block_of N s u < (N - 1) * S
  block_below S h = omega (arith, mul-le-mul_right (N - 1) h)

-- block L of n·S
module _ (N L : ℕ) where
  pub block_back : block_of N (stripe_of N L) (unit_of N L) ≡ L
  block_back = div-add-mod L (N - 1)

  module _ (S : ℕ) (h : L < (N - 1) * S) where
    some_unit : zero < N - 1
    some_unit = go (N - 1) refl
      where
        go : (k : ℕ) → N - 1 ≡ k → zero < N - 1
        go zero e = absurd (let z : L < zero * S = rw e at h in omega arith)
        go (ℕ.suc k) e = omega arith

    pub unit_below : unit_of N L < N - 1
    unit_below = mod-lt L some_unit

    pub stripe_below : stripe_of N L < S
    stripe_below = (div-lt_iff_lt-mul some_unit).1 (omega arith)
