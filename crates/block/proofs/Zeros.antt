-- Bytes that are all zero: found by one `or` of them all.
-- Assumes nothing.
use Prim.Native.Nat.{ℕ, ◌+◌, ◌≤◌}
use mathlib.Core.Bool.{Bool, true, false, ◌&&◌}
use mathlib.Core.List.{List}
use mathlib.Core.Path.{◌≡◌, refl, ap, ◌∙◌}
use native.Mathlib.Numerals.{add-one}
use native.Mathlib.Omega.{arith}
use borrow.Author.Tests.{eq-eqb, ne_eqb, eqb-true, eqb-false}
use lib.Bits.{bit_or, or_add_and, and_le_l, and_le_r}
use lib.Dec.{eqb}
use lib.ListN.{get_or}
use Rattle.terms.specs.Sets.{all_below}
use Rattle.block.specs.Blocks.{all_zero}

-- an `or` is zero exactly when both are
pub or_zero : (x y : ℕ) → eqb (bit_or x y) 0 ≡ (eqb x 0 && eqb y 0)
or_zero x y = go (eqb x 0) refl (eqb y 0) refl
  where
    -- the `or` is at least either
    left : x ≤ bit_or x y
    left = omega (arith, or_add_and x y, and_le_r x y)

    right : y ≤ bit_or x y
    right = omega (arith, or_add_and x y, and_le_l x y)

    go : (p : Bool) → eqb x 0 ≡ p → (q : Bool) → eqb y 0 ≡ q → eqb (bit_or x y) 0 ≡ (p && q)
    go true e true f =
        let ex : x ≡ 0 = eqb-true x 0 e in
        let ey : y ≡ 0 = eqb-true y 0 f in
        eq-eqb (bit_or x y) 0 (omega (arith, or_add_and x y))
    go true e false f =
        let ny : y ≡ 0 → ⊥ = eqb-false y 0 f in
        ne_eqb (bit_or x y) 0 (λ z. ny (omega (arith, right)))
    go false e q f =
        let nx : x ≡ 0 → ⊥ = eqb-false x 0 e in
        ne_eqb (bit_or x y) 0 (λ z. nx (omega (arith, left)))

module _ (a : List ℕ) where
  pub zeros_none : all_zero 0 a ≡ true
  unfolding all_zero all_below
  zeros_none = refl

  -- a turn of the loop that takes the `or` of all
  pub zeros_more : (i any : ℕ) → eqb any 0 ≡ all_zero i a → eqb (bit_or any (get_or a i 0)) 0 ≡ all_zero (i + 1) a
  unfolding all_zero all_below
  zeros_more i any e = rw add-one (or_zero any (get_or a i 0) ∙ ap (λ (b : Bool). b && eqb (get_or a i 0) 0) e)
