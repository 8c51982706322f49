-- What a scan answers: which refusal is given first, and what is left once the numbers are within their limits and the image is whole.
-- Assumes nothing.
use Prim.Native.Nat.{ℕ, ◌<◌}
use mathlib.Core.Bool.{Bool, true, false, cond, not}
use mathlib.Core.List.{List, [], ◌∷◌}
use mathlib.Core.Path.{◌≡◌, refl, sym, ap, ◌∙◌}
use native.Mathlib.Omega.{arith}
use borrow.Author.Tests.{eq-eqb, ne_eqb, eqb-false}
use lib.ListN.{get_or, replicate, get_or-replicate}
use Rattle.terms.specs.Lists.{among}
use Rattle.terms.specs.Reply.{Reply, Row, accepted, refused, refusal_reply, number_of, row, first_row, on_accept, refused_or13}
use Rattle.terms.specs.declared.refusal.Refusal.{Refusal}
use Rattle.terms.proofs.Answers.{number_not_0}
use Rattle.parity.specs.Fitting.{image_refusal}
use Rattle.geometry.proofs.States.{state_bounds}
use Rattle.geometry.specs.Limits.{none, beyond_state, is_lost}
use Rattle.geometry.specs.Store.{image_wrong}
use Rattle.geometry.specs.declared.State.{State}
use Rattle.parity.specs.Parity.{right_parity, disagreement, looked}
use Rattle.parity.specs.Scan.{look_refusal, look_reply, nothing_held, idle_scan_refusal, idle_scan_reply}
use Rattle.parity.proofs.Passing.{among_none, looked_cong}

-- the last row, 13: parity is right, or disagrees
pub last_row : (right : Bool) (d : Reply)
    → cond right (accepted 0 0) d
    ≡ on_accept (first_row (row (not right) 13 ∷ [])) (accepted 0 0) (refused_or13 (first_row (row (not right) 13 ∷ [])) d)
unfolding first_row
last_row true d = refl
last_row false d = refl

-- a refusal by one of the first two rows is the whole table's
first_left : (r : Refusal) (a b : Bool) (rows : List Row) (d : Reply) → refusal_reply r ≡ refused (first_row (row a 1 ∷ row b 2 ∷ []))
    → refusal_reply r
    ≡ on_accept (first_row (row a 1 ∷ row b 2 ∷ rows)) (accepted 0 0) (refused_or13 (first_row (row a 1 ∷ row b 2 ∷ rows)) d)
unfolding first_row
first_left r true b rows d e = e
first_left r false true rows d e = e
first_left r false false rows d e = absurd (eqb-false (number_of r) 0 (number_not_0 r) (ap (λ (p : Reply). p.number) e))

-- what the scan of an idle array passes over
abbrev pub no_stripes : List ℕ
no_stripes = replicate 8 1024

no_stripe_law : (k : ℕ) → k < 8 → get_or no_stripes k 0 ≡ 1024
no_stripe_law k l = get_or-replicate 8 k 1024 0 l

module _ (st : State) (image : List ℕ) where
  pub image_beyond : beyond_state st ≡ true → refused 1 ≡ refused (image_refusal st image)
  unfolding image_refusal first_row
  image_beyond e = rw e

  pub image_length : beyond_state st ≡ false → image_wrong st image ≡ true → refused 2 ≡ refused (image_refusal st image)
  unfolding image_refusal first_row
  image_length e w = rw (e, w)

  module _ (pass : ℕ → Bool) where
    pub look_refused : (r : Refusal) → refusal_reply r ≡ refused (image_refusal st image) → refusal_reply r ≡ look_reply st image pass
    unfolding look_reply look_refusal image_refusal
    look_refused r e = first_left r (beyond_state st) (image_wrong st image) _ _ e

    pub look_all : beyond_state st ≡ false → image_wrong st image ≡ false
        → looked st.cards st.stripes st.block image pass ≡ look_reply st image pass
    unfolding look_reply look_refusal looked first_row
    look_all e w =
        rw (e, w)
        (last_row (right_parity st.cards st.stripes st.block image pass) (disagreement st.cards st.stripes st.block image pass))

  -- none of them is a stripe
  among_nothing : beyond_state st ≡ false → (s : ℕ) → s < st.stripes → among no_stripes s ≡ false
  among_nothing e s h = sym (among_none no_stripes s (λ k l q. omega (arith, (state_bounds st e).stripes_high, no_stripe_law k l)))

  pub idle_refused : (r : Refusal) → refusal_reply r ≡ refused (image_refusal st image) → refusal_reply r ≡ idle_scan_reply st image
  unfolding idle_scan_reply idle_scan_refusal image_refusal
  idle_refused r e = first_left r (beyond_state st) (image_wrong st image) _ _ e

  module _ (e : beyond_state st ≡ false) (w : image_wrong st image ≡ false) where
    pub idle_lost : is_lost st ≡ true → refused 4 ≡ idle_scan_reply st image
    unfolding idle_scan_reply idle_scan_refusal first_row
    idle_lost l = rw (e, w, l)

    pub idle_out : is_lost st ≡ false → (st.out ≡ none → ⊥) → refused 12 ≡ idle_scan_reply st image
    unfolding idle_scan_reply idle_scan_refusal first_row
    idle_out l o = rw (e, w, l, ne_eqb st.out none o)

    -- what is left is the look at all stripes
    pub idle_all : is_lost st ≡ false → st.out ≡ none → look_reply st image (among no_stripes) ≡ idle_scan_reply st image
    unfolding idle_scan_reply idle_scan_refusal looked first_row
    idle_all l o =
        sym (look_all (among no_stripes) e w)
        ∙ looked_cong st.cards st.stripes st.block image (among no_stripes) nothing_held (among_nothing e)
        ∙ rw (e, w, l, eq-eqb st.out none o)
        (last_row (right_parity st.cards st.stripes st.block image nothing_held)
        (disagreement st.cards st.stripes st.block image nothing_held))
