-- No answer and no byte of a working card depends on the bytes that a card holds while it is out: of one call.
-- Assumes nothing.
use Prim.Native.Nat.{ℕ, ◌<◌}
use mathlib.Core.Bool.{Bool, not, ◌&&◌}
use mathlib.Core.List.{List}
use mathlib.Core.Path.{◌≡◌, sym, ap, ◌∙◌}
use native.Mathlib.Omega.{arith}
use lib.Dec.{eqb, ltb}
use Rattle.terms.proofs.Sets.{xor_to_cong, lowest_cong}
use Rattle.geometry.proofs.Missing.{none_missing}
use Rattle.geometry.specs.Placement.{out_in}
use Rattle.geometry.specs.Store.{image_wrong, image_size}
use Rattle.geometry.specs.declared.State.{State}
use Rattle.parity.specs.Parity.{byte_at, parity_byte, wrong_byte, wrong_stripe, right_parity, disagreement}
use Rattle.array.specs.Refusals.{admit_refusal, step_refusal, rebuild_refusal}
use Rattle.history.specs.History.{Decayed}
use Rattle.history.specs.World.{World, admit, step, rebuild, play, with_image}
use Rattle.history.proofs.Replies.{admit_number_law, step_number_law, rebuild_number_law}

-- two images of a state that agree on the cards that work
module _ (st : State) (image image' : List ℕ) (same : Decayed st image image') where
  -- they are as long
  pub wrong_same : image_wrong st image' ≡ image_wrong st image
  unfolding image_wrong
  wrong_same = ap (λ (k : ℕ). not (eqb k (image_size st.cards st.stripes st.block))) same.same_length

  -- ---- with none out they agree on every card

  module _ (none_out : (s : ℕ) → ¬ (out_in st s < st.cards)) where
    byte_same : (c s b : ℕ) → c < st.cards → s < st.stripes → b < st.block
        → byte_at st.stripes st.block image' c s b ≡ byte_at st.stripes st.block image c s b
    byte_same c s b hc hs hb = same.same_bytes c s b hc hs hb (none_missing st c s (let h = none_out s in omega arith))

    parity_same : (s b : ℕ) → s < st.stripes → b < st.block
        → parity_byte st.cards st.stripes st.block image' s b ≡ parity_byte st.cards st.stripes st.block image s b
    unfolding parity_byte
    parity_same s b hs hb = xor_to_cong st.cards _ _ (λ c hc. byte_same c s b hc hs hb)

    wrong_byte_same : (s : ℕ) → s < st.stripes
        → wrong_byte st.cards st.stripes st.block image' s ≡ wrong_byte st.cards st.stripes st.block image s
    unfolding wrong_byte
    wrong_byte_same s hs = lowest_cong st.block _ _ (λ b hb. ap (λ (v : ℕ). not (eqb v 0)) (parity_same s b hs hb))

    pub wrong_stripe_same : (pass : ℕ → Bool)
        → wrong_stripe st.cards st.stripes st.block image' pass ≡ wrong_stripe st.cards st.stripes st.block image pass
    unfolding wrong_stripe
    wrong_stripe_same pass =
        lowest_cong st.stripes _ _ (λ s hs. ap (λ (v : ℕ). not (pass s) && ltb v st.block) (wrong_byte_same s hs))

    pub right_same : (pass : ℕ → Bool)
        → right_parity st.cards st.stripes st.block image' pass ≡ right_parity st.cards st.stripes st.block image pass
    unfolding right_parity
    right_same pass = ap (λ (v : ℕ). eqb v st.stripes) (wrong_stripe_same pass)

    pub disagreement_same : (pass : ℕ → Bool) → wrong_stripe st.cards st.stripes st.block image pass < st.stripes
        → disagreement st.cards st.stripes st.block image' pass ≡ disagreement st.cards st.stripes st.block image pass
    unfolding disagreement
    disagreement_same pass h =
        rw (wrong_stripe_same pass, wrong_byte_same (wrong_stripe st.cards st.stripes st.block image pass) h)

-- an admission, a step and a rebuild step are refused for both or for neither
module _ (w : World) (image' : List ℕ) (same : Decayed w.state w.image image') where
  pub admit_same : (write : Bool) (s mask : ℕ) (payload : List ℕ)
      → (play (with_image w image') (admit write s mask payload)).reply.number ≡ (play w (admit write s mask payload)).reply.number
  unfolding admit_refusal
  admit_same write s mask payload =
      admit_number_law (with_image w image') write s mask payload ∙ rw (wrong_same w.state w.image image' same) (sym (admit_number_law w write s mask payload))

  pub step_same : (i k : ℕ) → (play (with_image w image') (step i k)).reply.number ≡ (play w (step i k)).reply.number
  unfolding step_refusal
  step_same i k = step_number_law (with_image w image') i k ∙ rw (wrong_same w.state w.image image' same) (sym (step_number_law w i k))

  pub rebuild_same : (play (with_image w image') rebuild).reply.number ≡ (play w rebuild).reply.number
  unfolding rebuild_refusal
  rebuild_same = rebuild_number_law (with_image w image') ∙ rw (wrong_same w.state w.image image' same) (sym (rebuild_number_law w))
