-- Scan and open, of two images that agree on the cards that work: they answer the same.
-- Assumes nothing.
use Prim.Native.Nat.{ℕ, ◌≤◌, ◌<◌}
use mathlib.Core.Bool.{Bool, true, false, cond, not, ◌&&◌, ◌||◌}
use mathlib.Core.List.{List, [], ◌∷◌}
use mathlib.Core.Path.{◌≡◌, refl, ap}
use native.Mathlib.Omega.{arith}
use borrow.Author.Tests.{eqb-true, eqb-false, not-true, not-false}
use lib.Dec.{eqb, ltb}
use lib.ListN.{length}
use Rattle.terms.specs.Reply.{Reply, row, first_row, accepted, refused_or13, on_accept}
use Rattle.terms.proofs.Rows.{and_left, and_right}
use Rattle.terms.proofs.Sets.{lowest_le}
use Rattle.geometry.proofs.Bounds.{within_limits}
use Rattle.geometry.proofs.States.{state_bounds}
use Rattle.geometry.specs.Limits.{none, beyond, beyond_state, is_lost}
use Rattle.geometry.proofs.Missing.{out_none}
use Rattle.geometry.specs.Placement.{out_in}
use Rattle.geometry.specs.Store.{image_wrong, work_wrong}
use Rattle.geometry.specs.declared.Geometry.{Geometry}
use Rattle.geometry.specs.declared.State.{State}
use Rattle.parity.specs.Parity.{wrong_byte, wrong_stripe, right_parity, disagreement}
use Rattle.parity.specs.Scan.{nothing_held}
use Rattle.record.specs.Survey.{survey_of, held_in}
use Rattle.record.specs.declared.Record.{Record}
use Rattle.record.specs.declared.Survey.{Survey}
use Rattle.array.specs.Lent.{table_wrong, lent_rows}
use Rattle.array.specs.Opening.{OpeningBy, opening_by, opening, zero_state}
use Rattle.array.specs.Refusals.{opened, open_refusal, scan_rows, scan_refusal}
use Rattle.array.specs.Scan.{scan_reply_by, scan_reply}
use Rattle.history.specs.History.{Decayed}
use Rattle.history.proofs.Unseen.{wrong_same, right_same, disagreement_same}

-- the number decides the reply, and 13 alone asks for the place
reply_same : (number : ℕ) (place place' : Reply) → (eqb number 13 ≡ true → place' ≡ place)
    → on_accept number (accepted 0 0) (refused_or13 number place') ≡ on_accept number (accepted 0 0) (refused_or13 number place)
reply_same number place place' same = ap (cond (eqb number 0) (accepted 0 0)) (go (eqb number 13) refl)
  where
    go : (t : Bool) → eqb number 13 ≡ t → refused_or13 number place' ≡ refused_or13 number place
    go true e = rw e (same e)
    go false e = rw e

-- parity disagrees in some stripe
some_wrong : (N S B : ℕ) (image : List ℕ) (pass : ℕ → Bool) → right_parity N S B image pass ≡ false → wrong_stripe N S B image pass < S
unfolding right_parity
some_wrong N S B image pass e =
    let d : ¬ (wrong_stripe N S B image pass ≡ S) = eqb-false (wrong_stripe N S B image pass) S e in
    let l : wrong_stripe N S B image pass ≤ S = unfold wrong_stripe in lowest_le S (λ s. not (pass s) && ltb (wrong_byte N S B image s) B) in
    omega arith

-- the last row counts only where no row before it does
module _ (b2 b3 b4 : Bool) where
  scan_row : (b1 b5 b6 b6' : Bool) → (b1 ≡ false → b5 ≡ false → b6' ≡ b6)
      → first_row (row b1 1 ∷ row b2 2 ∷ row b3 3 ∷ row b4 4 ∷ row b5 12 ∷ row b6' 13 ∷ [])
      ≡ first_row (row b1 1 ∷ row b2 2 ∷ row b3 3 ∷ row b4 4 ∷ row b5 12 ∷ row b6 13 ∷ [])
  unfolding first_row
  scan_row true b5 b6 b6' same = refl
  scan_row false true b6 b6' same = refl
  scan_row false false b6 b6' same = rw (same refl refl)

  scan_hit : (b1 b5 b6 : Bool) → first_row (row b1 1 ∷ row b2 2 ∷ row b3 3 ∷ row b4 4 ∷ row b5 12 ∷ row b6 13 ∷ []) ≡ 13
      → (b1 ≡ false) × (b5 ≡ false) × (b6 ≡ true)
  unfolding first_row
  scan_hit true b5 b6 e = absurd (omega arith)
  scan_hit false b5 b6 e = go b2 b3 b4 b5 b6 e
    where
      go : (b2 b3 b4 b5 b6 : Bool) → ◌≡◌ {A = ℕ} (cond b2 2 (cond b3 3 (cond b4 4 (cond b5 12 (cond b6 13 0))))) 13
          → (false ≡ false) × (b5 ≡ false) × (b6 ≡ true)
      go true b3 b4 b5 b6 e = absurd (omega arith)
      go false true b4 b5 b6 e = absurd (omega arith)
      go false false true b5 b6 e = absurd (omega arith)
      go false false false true b6 e = absurd (omega arith)
      go false false false false true e = (refl, refl, refl)
      go false false false false false e = absurd (omega arith)

-- the same of open's rows
open_row : (b1 b2 b3 b3' : Bool) → (b1 ≡ false → b3' ≡ b3) → first_row (row b1 1 ∷ row b2 2 ∷ row b3' 13 ∷ []) ≡ first_row (row b1 1 ∷ row b2 2 ∷ row b3 13 ∷ [])
unfolding first_row
open_row true b2 b3 b3' same = refl
open_row false b2 b3 b3' same = rw (same refl)

open_hit : (b1 b2 b3 : Bool) → first_row (row b1 1 ∷ row b2 2 ∷ row b3 13 ∷ []) ≡ 13 → (b1 ≡ false) × (b3 ≡ true)
unfolding first_row
open_hit true b2 b3 e = absurd (omega arith)
open_hit false true b3 e = absurd (omega arith)
open_hit false false true e = (refl, refl)
open_hit false false false e = absurd (omega arith)

module _ (st : State) (image image' : List ℕ) (same : Decayed st image image') where
  -- within the limits 255 is no card
  none_out : beyond_state st ≡ false → st.out ≡ none → (s : ℕ) → ¬ (out_in st s < st.cards)
  none_out limits out s h = omega (arith, out_none st s out, (state_bounds st limits).cards_high)

  module _ (table : List Record) where
    abbrev v : Survey
    v = survey_of st table

    scan_number_same : scan_refusal st v image' ≡ scan_refusal st v image
    unfolding scan_refusal lent_rows scan_rows
    scan_number_same =
        rw (wrong_same st image image' same)
        (scan_row (image_wrong st image || table_wrong st v.len) (not v.sound) (is_lost st) (beyond_state st) (not (eqb st.out none)) _ _
        (λ l o. ap not (right_same st image image' same (none_out l (eqb-true st.out none (not-false _ o))) (held_in v))))

    pub scan_same : scan_reply st table image' ≡ scan_reply st table image
    unfolding scan_reply scan_reply_by
    scan_same =
        rw scan_number_same
        (reply_same (scan_refusal st v image) _ _
        (λ e.
        let hit = last (eqb-true (scan_refusal st v image) 13 e) in
        disagreement_same st image image' same (none_out hit.0 (eqb-true st.out none (not-false _ hit.1))) (held_in v)
        (some_wrong st.cards st.stripes st.block image (held_in v) (not-true _ hit.2))))
      where
        last : scan_refusal st v image ≡ 13
            → (beyond_state st ≡ false) × (not (eqb st.out none) ≡ false) × (not (right_parity st.cards st.stripes st.block image (held_in v)) ≡ true)
        last e =
            scan_hit (image_wrong st image || table_wrong st v.len) (not v.sound) (is_lost st) (beyond_state st) (not (eqb st.out none))
            (not (right_parity st.cards st.stripes st.block image (held_in v))) (unfold scan_refusal lent_rows scan_rows in e)

-- ---- open

module _ (g : Geometry) (out : ℕ) (table : List Record) (work image image' : List ℕ) (same : Decayed (opened g out) image image') where
  none_open : beyond g out ≡ false → out ≡ none → (s : ℕ) → ¬ (out_in (opened g out) s < g.cards)
  unfolding opened
  none_open limits o s h = omega (arith, out_none (opened g out) s o, (within_limits g out limits).cards_high)

  right_open : beyond g out ≡ false → out ≡ none
      → right_parity g.cards g.stripes g.block image' nothing_held ≡ right_parity g.cards g.stripes g.block image nothing_held
  unfolding opened
  right_open limits o = right_same (opened g out) image image' same (none_open limits o) nothing_held

  open_number_same : open_refusal g out (length table) work image' ≡ open_refusal g out (length table) work image
  unfolding open_refusal
  open_number_same =
      rw (wrong_same (opened g out) image image' same)
      (open_row (beyond g out) (image_wrong (opened g out) image || table_wrong (opened g out) (length table) || work_wrong (opened g out) work) _ _
      (λ l. go l (eqb out none) refl))
    where
      go : beyond g out ≡ false → (t : Bool) → eqb out none ≡ t
          → (t && not (right_parity g.cards g.stripes g.block image' nothing_held)) ≡ (t && not (right_parity g.cards g.stripes g.block image nothing_held))
      go l true e = ap not (right_open l (eqb-true out none e))
      go l false e = refl

  place_same : open_refusal g out (length table) work image ≡ 13
      → disagreement g.cards g.stripes g.block image' nothing_held ≡ disagreement g.cards g.stripes g.block image nothing_held
  unfolding open_refusal opened
  place_same e =
      let hit = open_hit (beyond g out) (image_wrong (opened g out) image || table_wrong (opened g out) (length table) || work_wrong (opened g out) work)
      (eqb out none && not (right_parity g.cards g.stripes g.block image nothing_held)) e in
      let o = and_left (eqb out none) (not (right_parity g.cards g.stripes g.block image nothing_held)) hit.1 in
      let wrong = and_right (eqb out none) (not (right_parity g.cards g.stripes g.block image nothing_held)) hit.1 in
      disagreement_same (opened g out) image image' same (none_open hit.0 (eqb-true out none o)) nothing_held
      (some_wrong g.cards g.stripes g.block image nothing_held (not-true _ wrong))

  open_by_same : opening_by g out (length table) work image' ≡ opening_by g out (length table) work image
  unfolding opening_by
  open_by_same =
      rw open_number_same
      (ap {B = OpeningBy} (λ (r : Reply). record { reply = r; state = on_accept (open_refusal g out (length table) work image) (opened g out) zero_state })
      (reply_same (open_refusal g out (length table) work image) _ _
      (λ e. place_same (eqb-true (open_refusal g out (length table) work image) 13 e))))

  pub open_same : opening g out table work image' ≡ opening g out table work image
  unfolding opening
  open_same = rw open_by_same
