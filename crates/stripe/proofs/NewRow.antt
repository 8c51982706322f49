-- The row after a request: it is a row, and differs from the old one at the new units and parity of a write alone.
-- Assumes nothing.
use Prim.Native.Nat.{ℕ, ◌<◌}
use mathlib.Core.Bool.{Bool, true, false, not}
use mathlib.Core.Path.{◌≡◌, refl, sym, ◌∙◌}
use native.Mathlib.Omega.{arith}
use lib.Dec.{ltb}
use borrow.Author.Tests.{eq-eqb, ne_eqb, not-true}
use Rattle.terms.specs.Sets.{bit}
use Rattle.terms.proofs.Rows.{and_right}
use Rattle.graph.specs.Steps.{masked, unmasked}
use Rattle.stripe.specs.Group.{Group}
use Rattle.stripe.specs.Invariant.{IsRow, units_after, row_after}
use Rattle.stripe.proofs.Places.{masked_below, unmasked_below}
use Rattle.stripe.proofs.Sums.{sum_cong, parity_row}

module _ (G : Group) (n mask : ℕ) (R new : ℕ → G.carrier) where
  -- a read leaves the row
  pub after_read : (write : Bool) → write ≡ false → (p : ℕ) → row_after G n write mask R new p ≡ R p
  unfolding row_after
  after_read write e p = rw e

  -- below parity a write's row has the units
  after_unit : (p : ℕ) → p < n → row_after G n true mask R new p ≡ units_after G mask R new p
  unfolding row_after
  after_unit p l = rw (ne_eqb p n (λ i. omega arith))

  pub after_row_law : (write : Bool) → IsRow G n R → IsRow G n (row_after G n write mask R new)
  unfolding row_after
  after_row_law true h =
      parity_row G n (row_after G n true mask R new)
      (sum_cong G n (row_after G n true mask R new) (units_after G mask R new) after_unit ∙ sym (rw (eq-eqb n n refl)))
  after_row_law false h = h

  -- units outside the mask are as they were
  pub after_others : (write : Bool) (p : ℕ) → unmasked n mask p ≡ true → row_after G n write mask R new p ≡ R p
  unfolding row_after units_after unmasked
  after_others true p u =
      rw (ne_eqb p n (λ i. omega (arith, unmasked_below n mask p u)), not-true (bit p mask) (and_right (ltb p n) (not (bit p mask)) u))
  after_others false p u = refl

  -- units in a write's mask are new
  pub after_new : (write : Bool) → write ≡ true → (p : ℕ) → masked n mask p ≡ true → new p ≡ row_after G n write mask R new p
  unfolding row_after units_after masked
  after_new write e p m =
      rw (e, ne_eqb p n (λ i. omega (arith, masked_below n mask p m)), and_right (ltb p n) (bit p mask) m)
