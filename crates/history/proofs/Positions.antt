-- Sums over a stripe's cards are sums over its positions, in any placement.
-- Assumes nothing.
use Prim.Native.Nat.{ℕ, ◌<◌}
use mathlib.Core.Bool.{Bool, true, false, cond}
use mathlib.Core.List.{List}
use mathlib.Core.Path.{◌≡◌, refl, sym, ap, ◌∙◌}
use borrow.Author.Tests.{eqb-true, eqb-false, eq-eqb, ne_eqb}
use lib.Dec.{eqb}
use Rattle.terms.specs.Sets.{xor_to}
use Rattle.terms.proofs.Sets.{xor_to_cong}
use Rattle.block.proofs.Sums.{others, sum_reorder}
use Rattle.geometry.proofs.Placing.{one_position}
use Rattle.geometry.specs.Placing.{Placing}
use Rattle.parity.specs.Parity.{byte_at, parity_byte}

module _ (N S B : ℕ) {card position : ℕ → ℕ → ℕ} (placing : Placing N card position) (image : List ℕ) (s b : ℕ) where
  -- byte b of each position
  abbrev cells : ℕ → ℕ
  cells p = byte_at S B image (card s p) s b

  over_positions : (f : ℕ → ℕ) → xor_to N (λ p. f (card s p)) ≡ xor_to N f
  over_positions f =
      sum_reorder N (card s) (position s) (λ p h. placing.card_below s p h) (λ c h. placing.position_below s c h)
      (λ p h. placing.position_card s p h) (λ c h. placing.card_position s c h) f

  -- of all cards
  pub parity_sum : parity_byte N S B image s b ≡ xor_to N cells
  unfolding parity_byte
  parity_sum = sym (over_positions (λ c. byte_at S B image c s b))

  -- of all but one
  pub rest_sum : (u : ℕ) → u < N → xor_to N (λ d. cond (eqb d (card s u)) 0 (byte_at S B image d s b)) ≡ xor_to N (others u cells)
  rest_sum u hu =
      sym (over_positions (λ d. cond (eqb d (card s u)) 0 (byte_at S B image d s b)))
      ∙ xor_to_cong N _ _ (λ p h. ap (λ (t : Bool). cond t 0 (cells p)) (same p h (eqb p u) refl))
    where
      same : (p : ℕ) → p < N → (t : Bool) → eqb p u ≡ t → eqb (card s p) (card s u) ≡ eqb p u
      same p h true e = eq-eqb (card s p) (card s u) (ap (card s) (eqb-true p u e)) ∙ sym e
      same p h false e = ne_eqb (card s p) (card s u) (λ f. eqb-false p u e (one_position placing s p u h hu f)) ∙ sym e
