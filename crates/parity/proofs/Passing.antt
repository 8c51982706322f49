-- Stripes that are passed over: by a list of their numbers, and that a scan depends on which they are and on nothing else of the list.
-- Assumes nothing.
use Prim.Native.Nat.{ℕ, ◌<◌}
use mathlib.Core.Bool.{Bool, true, false, not, ◌&&◌, ◌||◌}
use mathlib.Core.List.{List, [], ◌∷◌}
use mathlib.Core.Path.{◌≡◌, refl, sym, ap, ◌∙◌}
use borrow.Author.Tests.{ne_eqb}
use Rattle.std.specs.List.{list_any}
use lib.Dec.{ltb, eqb}
use lib.ListN.{length, get_or}
use Rattle.terms.specs.Lists.{every, among}
use Rattle.terms.proofs.Lists.{every_intro}
use Rattle.terms.proofs.Sets.{lowest_cong}
use Rattle.parity.specs.Parity.{wrong_byte, wrong_stripe, right_parity, disagreement, looked}

module _ (skip : List ℕ) (s : ℕ) where
  -- a stripe that does not stand in the list is looked at
  pub among_none : ((k : ℕ) → k < length skip → get_or skip k 0 ≡ s → ⊥) → false ≡ among skip s
  unfolding among
  among_none n = ap not (sym (every_intro (λ h. not (eqb h s)) skip 0 (λ k h. rw (ne_eqb (get_or skip k 0) s (n k h)))))

-- whether an element is the stripe
pub among_is : (skip : List ℕ) (s : ℕ) → list_any (λ h. eqb h s) skip ≡ among skip s
unfolding among every
among_is [] s = refl
among_is (h ∷ skip) s = go (eqb h s) (among_is skip s)
  where
    go : (b : Bool) → list_any (λ h. eqb h s) skip ≡ not (every (λ h. not (eqb h s)) skip) → (b || list_any (λ h. eqb h s) skip) ≡ not (not b && every (λ h. not (eqb h s)) skip)
    go true e = refl
    go false e = e

pub is_among : (skip : List ℕ) (s : ℕ) (b : Bool) → b ≡ list_any (λ h. eqb h s) skip → b ≡ among skip s
is_among skip s b e = e ∙ among_is skip s

-- two ways to say which stripes are passed over, the same below S
module _ (N S B : ℕ) (image : List ℕ) (p q : ℕ → Bool) (same : (s : ℕ) → s < S → p s ≡ q s) where
  pub wrong_stripe_cong : wrong_stripe N S B image p ≡ wrong_stripe N S B image q
  unfolding wrong_stripe
  wrong_stripe_cong =
      lowest_cong S (λ s. not (p s) && ltb (wrong_byte N S B image s) B) (λ s. not (q s) && ltb (wrong_byte N S B image s) B)
      (λ s h. ap (λ (b : Bool). not b && ltb (wrong_byte N S B image s) B) (same s h))

  pub right_parity_cong : right_parity N S B image p ≡ right_parity N S B image q
  unfolding right_parity
  right_parity_cong = ap (λ (s : ℕ). eqb s S) wrong_stripe_cong

  pub disagreement_cong : disagreement N S B image p ≡ disagreement N S B image q
  unfolding disagreement
  disagreement_cong = rw wrong_stripe_cong

  pub looked_cong : looked N S B image p ≡ looked N S B image q
  unfolding looked
  looked_cong = rw (right_parity_cong, disagreement_cong)
