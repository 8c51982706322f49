-- The sum of all blocks of a stripe but one card's is what the others give, and a sum carried to that card's block restores it.
-- Assumes nothing.
use Prim.Native.Nat.{ℕ, zero, suc, ◌+◌, ◌-◌, ◌≤◌, ◌<◌}
use mathlib.Core.Bool.{Bool, true, false, cond, and-false}
use mathlib.Core.List.{List}
use mathlib.Core.Path.{◌≡◌, refl, sym, ap, ap₂, ◌∙◌}
use native.Mathlib.Omega.{arith}
use borrow.Author.Tests.{eq-eqb, ne_eqb, lt-ltb, le-ltb, ltb-true, ltb-false}
use lib.Bits.{bit_xor}
use lib.Dec.{ltb, eqb}
use lib.ListN.{length, get_or}
use Rattle.terms.specs.Lists.{part, put}
use Rattle.terms.specs.Sets.{xor_to}
use Rattle.terms.proofs.Lists.{length_part, get_d_part, is_tabulate}
use Rattle.terms.proofs.Sets.{xor_to_cong}
use Rattle.block.specs.Blocks.{summed, zeros, carried}
use Rattle.block.proofs.Blocks.{length_zeros, length_summed, get_d_summed_zeros, summed_cong}
use Rattle.block.proofs.Carried.{carried_whole}
use Rattle.block.proofs.Sums.{others}
use Rattle.block.proofs.Xor.{xor_zero}
use Rattle.geometry.specs.Asked.{cell_in}
use Rattle.geometry.specs.Store.{cell_at, image_wrong, in_image}
use Rattle.geometry.specs.declared.State.{State}
use Rattle.geometry.proofs.Asked.{Inside, cell_in_is, cell_in_inside}
use Rattle.parity.specs.Fitting.{Fitting, beside}
use Rattle.parity.specs.Parity.{cell, byte_at}
use Rattle.parity.specs.Rest.{rest_of, restored, restored_in}

-- ---- the cards beside one

module _ (c k : ℕ) where
  pub beside_below : k < c → beside c k ≡ k
  unfolding beside
  beside_below h = rw (lt-ltb k c h)

  pub beside_above : c < k + 1 → beside c k ≡ k + 1
  unfolding beside
  beside_above h = rw (le-ltb k c (omega arith))

  -- it is one of the m cards, where there are n of them beside c, or c is none
  pub beside_card : (n m : ℕ) → k < n → n ≤ m → (c < m → n < m) → beside c k < m
  beside_card n m h low more = go (ltb k c) refl
    where
      go : (b : Bool) → ltb k c ≡ b → beside c k < m
      go true e = omega (arith, beside_below (ltb-true k c e))
      go false e =
          let l : c ≤ k = ltb-false k c e in
          let r : n < m = more (omega arith) in
          omega (arith, beside_above (let q : c < k + 1 = omega arith in q))

-- their sum is the sum of all but that card's
beside_sum : (m c : ℕ) (f : ℕ → ℕ) → c < suc m → xor_to m (λ k. f (beside c k)) ≡ xor_to (suc m) (others c f)
unfolding xor_to
beside_sum zero c f h = rw (eq-eqb zero c (omega arith))
beside_sum (suc m) c f h = go (beside_sum m c f) (ltb c (suc m)) refl
  where
    go : (c < suc m → xor_to m (λ k. f (beside c k)) ≡ xor_to (suc m) (others c f)) → (b : Bool) → ltb c (suc m) ≡ b
        → xor_to (suc m) (λ k. f (beside c k)) ≡ xor_to (suc (suc m)) (others c f)
    go ih true e =
        let l : c < suc m = ltb-true c (suc m) e in
        ap₂ bit_xor (ih l) (ap f (beside_above c m (omega arith) ∙ (let q : m + 1 ≡ suc m = omega arith in q)) ∙ sym (rw (ne_eqb (suc m) c (λ q. omega arith))))
    go ih false e =
        let l : c ≡ suc m = let q = ltb-false c (suc m) e in omega arith in
        xor_to_cong (suc m) (λ k. f (beside c k)) (others c f) (λ k n. ap f (beside_below c k (omega arith)) ∙ sym (rw (ne_eqb k c (λ q. omega arith))))
        ∙ sym (ap (λ (x : ℕ). bit_xor (xor_to (suc m) (others c f)) x) (rw (eq-eqb (suc m) c (sym l))) ∙ xor_zero (xor_to (suc m) (others c f)))

-- beside the number after the last card's are all of them
pub all_cards : (S B : ℕ) (image : List ℕ) (s n m : ℕ) (sum : List ℕ) → n ≡ m
    → summed n (λ k. cell S B image s (beside m k)) sum ≡ summed m (cell S B image s) sum
all_cards S B image s n m sum e =
    summed_cong n (λ k. cell S B image s (beside m k)) (cell S B image s) sum (λ k l. ap (cell S B image s) (beside_below m k (omega arith)))
    ∙ ap (λ (j : ℕ). summed j (cell S B image s) sum) e

-- ---- the block that is restored

module _ (st : State) (image : List ℕ) (c s : ℕ) where
  -- the sum of the others' blocks
  abbrev pub rest_sum : List ℕ
  rest_sum = summed (st.cards - 1) (λ k. cell st.stripes st.block image s (beside c k)) (zeros 512)

  pub length_rest_sum : length rest_sum ≡ 512
  length_rest_sum = length_summed (st.cards - 1) (λ k. cell st.stripes st.block image s (beside c k)) (zeros 512) ∙ length_zeros 512

  module _ (fit : Fitting st.cards st.stripes st.block image) (there : Inside st c st.cards s st.stripes) where
    -- a byte of the sum is the exclusive or of the others' bytes
    rest_byte : (b : ℕ) → b < st.block
        → get_or rest_sum b 0 ≡ xor_to st.cards (λ d. cond (eqb d c) 0 (byte_at st.stripes st.block image d s b))
    unfolding byte_at cell
    rest_byte b m =
        let f : ℕ → ℕ = λ d. byte_at st.stripes st.block image d s b in
        let n : suc (st.cards - 1) ≡ st.cards = omega (arith, there.first) in
        get_d_summed_zeros (st.cards - 1) (λ k. cell st.stripes st.block image s (beside c k)) 512 b (omega (arith, fit.block))
        ∙ xor_to_cong (st.cards - 1) (λ k. get_or (cell st.stripes st.block image s (beside c k)) b 0) (λ k. f (beside c k))
        (λ k l. get_d_part (cell_at st.stripes st.block (beside c k) s) st.block image b 0 m)
        ∙ beside_sum (st.cards - 1) c f (omega (arith, there.first)) ∙ ap (λ (j : ℕ). xor_to j (others c f)) n

    -- the first B bytes of the sum are what the others give
    rest_is : part 0 st.block rest_sum ≡ rest_of st image c s
    unfolding rest_of
    rest_is =
        is_tabulate (part 0 st.block rest_sum) st.block _ 0 (length_part 0 st.block rest_sum (omega (arith, length_rest_sum, fit.block)))
        (λ b m. get_d_part 0 st.block rest_sum b 0 m ∙ ap (λ (k : ℕ). get_or rest_sum k 0) (let q : 0 + b ≡ b = omega arith in q) ∙ rest_byte b m)

    -- carried to its place it restores the block
    pub restored_carried : carried image (cell_in st c s) rest_sum 0 st.block ≡ restored st image c s
    unfolding restored
    restored_carried =
        carried_whole image (cell_in st c s) rest_sum 0 st.block (omega (arith, cell_in_inside st c s there, fit.whole)) (omega (arith, length_rest_sum, fit.block))
        ∙ ap₂ (λ (at : ℕ) (l : List ℕ). put at l image) (cell_in_is st c s there) rest_is

  -- the three cases: the block is restored, there is none, or the image is of another length
  pub restored_here : in_image st c s ≡ true → image_wrong st image ≡ false → restored st image c s ≡ restored_in st image c s
  unfolding restored_in
  restored_here h w = rw (h, w)

  pub restored_none : in_image st c s ≡ false → image ≡ restored_in st image c s
  unfolding restored_in
  restored_none h = rw h

  pub restored_wrong : image_wrong st image ≡ true → image ≡ restored_in st image c s
  unfolding restored_in
  restored_wrong w = rw (w, and-false (in_image st c s))
