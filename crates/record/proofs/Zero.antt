-- The bits of two numbers together are none where both numbers are zero.
-- Assumes nothing.
use Prim.Native.Nat.{ℕ}
use mathlib.Core.Bool.{◌&&◌}
use mathlib.Core.Path.{◌≡◌}
use native.Mathlib.Omega.{arith}
use borrow.Author.Tests.{eqb-true, eq-eqb}
use lib.Bits.{bit_or, or_add_and, and_le_l, and_le_r}
use lib.Dec.{eqb}
use Rattle.terms.proofs.Rows.{and_left, and_right, and_both}
use Rattle.graph.proofs.Rules.{both_ways}

pub or_zero : (a b : ℕ) → eqb (bit_or a b) 0 ≡ (eqb a 0 && eqb b 0)
or_zero a b =
    both_ways (eqb (bit_or a b) 0) (eqb a 0 && eqb b 0)
    (λ e.
    let z = eqb-true (bit_or a b) 0 e in
    and_both (eqb a 0) (eqb b 0)
    (eq-eqb a 0 (omega (arith, or_add_and a b, and_le_r a b)))
    (eq-eqb b 0 (omega (arith, or_add_and a b, and_le_l a b))))
    (λ e.
    let p = eqb-true a 0 (and_left (eqb a 0) (eqb b 0) e) in
    let q = eqb-true b 0 (and_right (eqb a 0) (eqb b 0) e) in
    eq-eqb (bit_or a b) 0 (omega (arith, or_add_and a b)))
