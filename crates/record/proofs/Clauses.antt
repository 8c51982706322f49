-- A record's phases shut each other out, and a sound record that is not free, clause by clause.
-- Assumes nothing.
use Prim.Native.Nat.{ℕ, ◌+◌, ◌*◌, ◌<◌}
use mathlib.Core.Bool.{Bool, true, false, cond, not, ◌&&◌, ◌||◌}
use mathlib.Core.Logic.{◌⊎◌, inl, inr, ⊎_elim}
use mathlib.Core.Path.{◌≡◌, refl, sym, ◌∙◌}
use native.Mathlib.Omega.{arith}
use borrow.Author.Tests.{eqb-true, eq-eqb, ne_eqb, ltb-true, lt-ltb}
use lib.Dec.{ltb, leb, eqb}
use Rattle.terms.specs.Sets.{within}
use Rattle.terms.proofs.Rows.{true≢false, and_left, and_right, or_cases}
use Rattle.geometry.specs.Limits.{none}
use Rattle.geometry.specs.Placement.{out_in}
use Rattle.geometry.specs.declared.State.{State}
use Rattle.record.specs.Life.{free, is_free, is_open, is_finished, units_of}
use Rattle.record.specs.Sound.{all_zero, legal_mask, legal_record, legal_chosen, right_graph, right_steps, lacks_none, right_count, sound_record}
use Rattle.record.specs.declared.Record.{Record}

-- ---- free, open and finished shut each other out

is_number : (n m : ℕ) → ¬ (n ≡ m) → (k : ℕ) → eqb k n ≡ true → eqb k m ≡ false
is_number n m d k e = ne_eqb k m (λ f. d (sym (eqb-true k n e) ∙ f))

pub open_not_free : (r : Record) → is_open r ≡ true → is_free r ≡ false
open_not_free r e = is_number 1 0 (λ z. omega arith) r.phase e

pub finished_not_free : (r : Record) → is_finished r ≡ true → is_free r ≡ false
finished_not_free r e = is_number 2 0 (λ z. omega arith) r.phase e

pub finished_not_open : (r : Record) → is_finished r ≡ true → is_open r ≡ false
finished_not_open r e = is_number 2 1 (λ z. omega arith) r.phase e

pub free_not_open : (r : Record) → is_free r ≡ true → is_open r ≡ false
free_not_open r e = is_number 0 1 (λ z. omega arith) r.phase e

-- ---- a sound record that is not free

module _ (st : State) where
  pub record Fit (r : Record) : Type 0 where
    pub going : (is_open r || is_finished r) ≡ true
    pub kind : within 0 1 r.write ≡ true
    pub stripe_below : r.stripe < st.stripes
    pub mask_legal : legal_mask (units_of st) r.mask ≡ true
    pub graph_legal : within 1 6 r.graph ≡ true
    pub chosen_legal : legal_chosen st r ≡ true
    pub right_graph_law : right_graph st r ≡ true
    pub right_steps_law : right_steps st r ≡ true
    pub right_count_law : right_count st r ≡ true

  -- a legal record is open or finished
  pub legal_going : (r : Record) → legal_record st r ≡ true → (is_open r || is_finished r) ≡ true
  unfolding legal_record
  legal_going r e =
      let m1 : Bool = is_open r || is_finished r in
      let m2 : Bool = m1 && within 0 1 r.write in
      let m3 : Bool = m2 && ltb r.stripe st.stripes in
      let m4 : Bool = m3 && legal_mask (units_of st) r.mask in
      and_left m1 _ (and_left m2 _ (and_left m3 _ (and_left m4 (within 1 6 r.graph) e)))

  pub fit : (r : Record) → sound_record st r ≡ true → is_free r ≡ false → Fit r
  unfolding sound_record legal_record
  fit r e f =
      let m1 : Bool = is_open r || is_finished r in
      let m2 : Bool = m1 && within 0 1 r.write in
      let m3 : Bool = m2 && ltb r.stripe st.stripes in
      let m4 : Bool = m3 && legal_mask (units_of st) r.mask in
      let m5 : Bool = legal_record st r in
      let m6 : Bool = m5 && legal_chosen st r in
      let m7 : Bool = m6 && right_graph st r in
      let m8 : Bool = m7 && right_steps st r in
      let all : (m8 && right_count st r) ≡ true = rw f at e in
      let e8 = and_left m8 (right_count st r) all in
      let e7 = and_left m7 (right_steps st r) e8 in
      let e6 = and_left m6 (right_graph st r) e7 in
      let e5 = and_left m5 (legal_chosen st r) e6 in
      let e4 = and_left m4 (within 1 6 r.graph) e5 in
      let e3 = and_left m3 (legal_mask (units_of st) r.mask) e4 in
      let e2 = and_left m2 (ltb r.stripe st.stripes) e3 in
      record {
        going = legal_going r e5;
        kind = and_right m1 (within 0 1 r.write) e2;
        stripe_below = ltb-true r.stripe st.stripes (and_right m2 (ltb r.stripe st.stripes) e3);
        mask_legal = and_right m3 (legal_mask (units_of st) r.mask) e4;
        graph_legal = and_right m4 (within 1 6 r.graph) e5;
        chosen_legal = and_right m5 (legal_chosen st r) e6;
        right_graph_law = and_right m6 (right_graph st r) e7;
        right_steps_law = and_right m7 (right_steps st r) e8;
        right_count_law = and_right m8 (right_count st r) all;
      }

  -- a legal record's count is tested as an open one's, or as a finished one's
  pub count_going : (r : Record) → legal_record st r ≡ true
      → right_count st r
      ≡ cond (is_open r) (not (lacks_none st r) && leb r.count (2 * units_of st + 2)) (lacks_none st r && leb r.count (2 * units_of st + 3))
  unfolding right_count
  count_going r e = go (is_open r) (is_finished r) _ _ (legal_going r e)
    where
      go : (o f s t : Bool) → (o || f) ≡ true → cond o s (f && t) ≡ cond o s t
      go true f s t h = refl
      go false true s t h = refl
      go false false s t h = true≢false (sym h)

  going_not_free : (r : Record) → (is_open r || is_finished r) ≡ true → is_free r ≡ false
  going_not_free r e = go (or_cases (is_open r) (is_finished r) e)
    where
      go : (is_open r ≡ true) ⊎ (is_finished r ≡ true) → is_free r ≡ false
      go (inl o) = open_not_free r o
      go (inr f) = finished_not_free r f

  pub fit_sound : (r : Record) → Fit r → sound_record st r ≡ true
  unfolding sound_record legal_record
  fit_sound r f =
      rw (going_not_free r f.going)
      (rw (f.going, f.kind, lt-ltb r.stripe st.stripes f.stripe_below, f.mask_legal, f.graph_legal, f.chosen_legal, f.right_graph_law, f.right_steps_law, f.right_count_law))

  pub free_sound : sound_record st free ≡ true
  unfolding sound_record all_zero
  free_sound = refl

-- ---- the chosen-with card: 255; or, of an open record, the one that is missing in its stripe, and of a finished one any card

either : (b : Bool) → (b || true) ≡ true
either true = refl
either false = refl

module _ (st : State) (r : Record) where
  pub chosen_none : r.chosen ≡ none → legal_chosen st r ≡ true
  unfolding legal_chosen
  chosen_none e = rw (eq-eqb r.chosen none e)

  pub chosen_missing : is_open r ≡ true → r.chosen ≡ out_in st r.stripe → legal_chosen st r ≡ true
  unfolding legal_chosen
  chosen_missing o e = rw (o, eq-eqb r.chosen (out_in st r.stripe) e) (either (eqb r.chosen none))

  pub chosen_any : is_open r ≡ false → r.chosen < st.cards → legal_chosen st r ≡ true
  unfolding legal_chosen
  chosen_any o l = rw (o, lt-ltb r.chosen st.cards l) (either (eqb r.chosen none))

  pub open_chosen : is_open r ≡ true → legal_chosen st r ≡ true → (r.chosen ≡ none) ⊎ (r.chosen ≡ out_in st r.stripe)
  unfolding legal_chosen
  open_chosen o e =
      ⊎_elim (λ f. inl (eqb-true r.chosen none f)) (λ f. inr (eqb-true r.chosen (out_in st r.stripe) f))
      (or_cases (eqb r.chosen none) (eqb r.chosen (out_in st r.stripe)) (rw o at e))

  pub finished_chosen : is_open r ≡ false → legal_chosen st r ≡ true → (r.chosen ≡ none) ⊎ (r.chosen < st.cards)
  unfolding legal_chosen
  finished_chosen o e =
      ⊎_elim (λ f. inl (eqb-true r.chosen none f)) (λ f. inr (ltb-true r.chosen st.cards f))
      (or_cases (eqb r.chosen none) (ltb r.chosen st.cards) (rw o at e))
