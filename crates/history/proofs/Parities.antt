-- Right parity as facts about bytes, both ways.
-- Assumes nothing.
use Prim.Native.Nat.{ℕ, ◌≤◌, ◌<◌}
use mathlib.Core.Bool.{Bool, true, false, not, ◌&&◌}
use mathlib.Core.List.{List}
use mathlib.Core.Path.{◌≡◌, refl, ap}
use native.Mathlib.Omega.{arith}
use borrow.Author.Tests.{eqb-true, eq-eqb, ltb-false, le-ltb, not-false}
use lib.Dec.{ltb, eqb}
use Rattle.terms.specs.Sets.{lowest}
use Rattle.terms.proofs.Sets.{lowest_before, lowest_none}
use Rattle.parity.specs.Parity.{parity_byte, wrong_byte, wrong_stripe, right_parity}

module _ (N S B : ℕ) (image : List ℕ) (pass : ℕ → Bool) where
  pub right_elim : right_parity N S B image pass ≡ true → (s b : ℕ) → s < S → b < B → pass s ≡ false → parity_byte N S B image s b ≡ 0
  unfolding right_parity wrong_stripe wrong_byte
  right_elim e s b hs hb free =
      let bad : ℕ → ℕ → Bool = λ t c. not (eqb (parity_byte N S B image t c) 0) in
      let wrong : ℕ → Bool = λ t. not (pass t) && ltb (lowest B (bad t)) B in
      let all : lowest S wrong ≡ S = eqb-true (lowest S wrong) S e in
      let here : (not (pass s) && ltb (lowest B (bad s)) B) ≡ false = lowest_before S wrong s (omega arith) in
      let none : B ≤ lowest B (bad s) = ltb-false (lowest B (bad s)) B (rw free at here) in
      eqb-true (parity_byte N S B image s b) 0 (not-false _ (lowest_before B (bad s) b (omega arith)))

  pub right_intro : ((s b : ℕ) → s < S → b < B → pass s ≡ false → parity_byte N S B image s b ≡ 0) → right_parity N S B image pass ≡ true
  unfolding right_parity wrong_stripe wrong_byte
  right_intro all = eq-eqb _ S (lowest_none S _ (λ s hs. stripe s hs (pass s) refl))
    where
      bad : ℕ → ℕ → Bool
      bad t c = not (eqb (parity_byte N S B image t c) 0)

      stripe : (s : ℕ) → s < S → (t : Bool) → pass s ≡ t → (not (pass s) && ltb (lowest B (bad s)) B) ≡ false
      stripe s hs true e = rw e
      stripe s hs false e =
          let none : lowest B (bad s) ≡ B = lowest_none B (bad s) (λ b hb. ap not (eq-eqb (parity_byte N S B image s b) 0 (all s b hs hb e))) in
          rw e (le-ltb (lowest B (bad s)) B (omega arith))
