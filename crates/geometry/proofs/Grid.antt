-- Rows of w numbers, one after the other: where row and column stand, and how they are read off.
-- Assumes nothing.
use Prim.Native.Nat.{ℕ, ◌+◌, ◌*◌, ◌/◌, ◌%◌, ◌<◌}
use mathlib.Core.Path.{◌≡◌, ap, sym, ◌∙◌}
use native.Mathlib.Omega.{arith}

-- rows of w numbers: row r and column i give one of the h rows' numbers
pub grid_inside : (w h r i : ℕ) → r < h → i < w → r * w + i < h * w
grid_inside w h r i hr hi = grind arith

-- and can be read off it
pub grid_row : (w r i : ℕ) → i < w → (r * w + i) / w ≡ r
grid_row w r i h = grind arith

pub grid_column : (w r i : ℕ) → i < w → (r * w + i) % w ≡ i
grid_column w r i h = grind arith

pub grid_apart : (w r i q j : ℕ) → i < w → j < w → (r ≡ q → i ≡ j → ⊥) → ¬ (r * w + i ≡ q * w + j)
grid_apart w r i q j hi hj differ e =
    differ
    (sym (grid_row w r i hi) ∙ ap (λ (k : ℕ). k / w) e ∙ grid_row w q j hj)
    (sym (grid_column w r i hi) ∙ ap (λ (k : ℕ). k % w) e ∙ grid_column w q j hj)
