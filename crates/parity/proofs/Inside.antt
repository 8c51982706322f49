-- An image is of the right length, or not, and a card's block lies inside one that is.
-- Assumes nothing.
use Prim.Native.Nat.{ℕ, ◌+◌, ◌*◌, ◌≤◌, ◌<◌}
use mathlib.Core.Bool.{true, false, not}
use mathlib.Core.List.{List}
use mathlib.Core.Path.{◌≡◌, sym, ap, ◌∙◌}
use native.Mathlib.Omega.{arith}
use borrow.Author.Tests.{eq-eqb, ne_eqb, not-false}
use lib.ListN.{length}
use Rattle.terms.proofs.Lists.{length_part}
use Rattle.terms.proofs.Rows.{and_left}
use Rattle.geometry.specs.Asked.{image_size_in}
use Rattle.geometry.specs.Limits.{beyond, beyond_state}
use Rattle.geometry.specs.Store.{image_size, cell_at, image_wrong, legal_state, in_image}
use Rattle.geometry.specs.declared.State.{State}
use Rattle.geometry.proofs.Apart.{cell_inside}
use Rattle.geometry.proofs.Asked.{BoundsOf, image_size_in_is}
use Rattle.geometry.proofs.Bounds.{legal_bounds}
use Rattle.geometry.proofs.Lengths.{image_length}
use Rattle.geometry.proofs.States.{state_geometry}
use Rattle.parity.specs.Fitting.{Fitting}
use Rattle.parity.specs.Parity.{cell}

module _ {N S B : ℕ} {image : List ℕ} (f : Fitting N S B image) (s c : ℕ) (hs : s < S) (hc : c < N) where
  -- the block ends within the image
  pub cell_ends : (c * S + s) * B + B ≤ length image
  unfolding cell_at
  cell_ends = omega (arith, cell_inside N S B c s hc hs, f.whole)

  -- and has B bytes
  pub length_cell : length (cell S B image s c) ≡ B
  unfolding cell cell_at
  length_cell = length_part ((c * S + s) * B) B image cell_ends

  pub long : {b : List ℕ} → b ≡ cell S B image s c → length b ≡ B
  long e = ap length e ∙ length_cell

-- N, S, B and K are within their limits
module _ (st : State) where
  pub legal_limits : legal_state st ≡ true → BoundsOf st
  legal_limits = legal_bounds st.cards st.stripes st.block st.records

  pub legal_within : beyond_state st ≡ false → legal_state st ≡ true
  unfolding beyond
  legal_within w = and_left _ _ (and_left _ _ (not-false _ (state_geometry st w)))

  pub legal_in_image : (c s : ℕ) → in_image st c s ≡ true → legal_state st ≡ true
  unfolding in_image
  legal_in_image c s e = and_left _ _ (and_left _ _ e)

-- the test of the image's length, of a state whose N, S, B and K are within their limits
module _ (st : State) (image : List ℕ) (limits : BoundsOf st) where
  pub image_whole : length image ≡ image_size_in st → image_wrong st image ≡ false
  unfolding image_wrong
  image_whole l = ap not (eq-eqb (length image) (image_size st.cards st.stripes st.block) (l ∙ image_size_in_is st limits))

  pub whole_image : image_wrong st image ≡ false → length image ≡ image_size_in st
  whole_image w = image_length st image w ∙ sym (image_size_in_is st limits)

  pub image_not_whole : (length image ≡ image_size_in st → ⊥) → image_wrong st image ≡ true
  unfolding image_wrong
  image_not_whole l =
      ap not (ne_eqb (length image) (image_size st.cards st.stripes st.block) (λ q. l (q ∙ sym (image_size_in_is st limits))))

  -- what the private functions ask
  pub fitting : length image ≡ image_size_in st → Fitting st.cards st.stripes st.block image
  fitting l =
      record {
        cards = limits.cards_high;
        stripes = limits.stripes_high;
        block = limits.block_high;
        whole = l ∙ image_size_in_is st limits;
      }
