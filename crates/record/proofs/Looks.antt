-- What one look at a record tells, and that a step that goes by it leaves the record that the definitions say.
-- Assumes nothing.
use Prim.Native.Nat.{ℕ}
use mathlib.Core.Bool.{Bool, true, false, cond, not, ◌&&◌}
use mathlib.Core.Path.{◌≡◌, refl, ap, ◌∙◌}
use native.Mathlib.Omega.{arith}
use borrow.Author.Tests.{lt-ltb}
use Rattle.geometry.specs.Placement.{filled, out_in}
use Rattle.geometry.specs.declared.State.{State}
use Rattle.graph.proofs.Forerunners.{complete_test}
use Rattle.graph.proofs.Laws.{ready_elim, member_below}
use Rattle.graph.specs.Asked.{step_set, part_of}
use Rattle.graph.specs.Order.{ready, complete, after}
use Rattle.record.specs.Asked.{few_in, sound_record_in}
use Rattle.record.specs.Life.{is_free, is_open, units_of, chosen_at, missing_in, stepped, afresh}
use Rattle.record.specs.Look.{seen_as, found, nothing, look_of, can_mark, after_step, after_choice}
use Rattle.record.specs.Sound.{all_zero, legal_record, legal_chosen, right_graph, right_steps, lacks_none, right_count, sound_record}
use Rattle.record.specs.declared.Look.{Look}
use Rattle.record.specs.declared.Record.{Record}
use Rattle.record.proofs.Clauses.{open_not_free}
use Rattle.record.proofs.Soundness.{few_elim, sound_counts}

module _ (st : State) (r : Record) where
  -- a record that is not free, with what is handed on
  pub busy_sound : (out : ℕ) → (cond (sound_record_in st r) (found st r out) (nothing false)).sound ≡ sound_record_in st r
  unfolding found nothing
  busy_sound out = go (sound_record_in st r)
    where
      go : (b : Bool) → (cond b (found st r out) (nothing false)).sound ≡ b
      go true = refl
      go false = refl

  -- soundness, and what is found, depend on the cards, the stripes, the layout and the card that is missing in the record's stripe
  as_seen : sound_record_in (seen_as st.cards st.stripes st.layout (out_in st r.stripe)) r ≡ sound_record_in st r
  unfolding sound_record_in sound_record legal_record legal_chosen right_graph right_steps right_count lacks_none out_in filled
  as_seen = refl

  pub busy_by : (now out : ℕ) → now ≡ out_in st r.stripe
      → cond (sound_record_in (seen_as st.cards st.stripes st.layout now) r) (found (seen_as st.cards st.stripes st.layout now) r out) (nothing false)
      ≡ cond (sound_record_in st r) (found st r out) (nothing false)
  unfolding found
  busy_by now out e = rw e (ap (λ (b : Bool). cond b (found st r out) (nothing false)) as_seen)

  -- the look at a free record, and at another
  pub look_free : is_free r ≡ true → look_of st r ≡ nothing (few_in st && all_zero r)
  unfolding look_of sound_record_in sound_record
  look_free e = rw e (neither (few_in st && all_zero r) _ _)
    where
      neither : (b : Bool) (v w : Look) → cond (b && false) v w ≡ w
      neither true v w = refl
      neither false v w = refl

  pub look_busy : is_free r ≡ false → look_of st r ≡ cond (sound_record_in st r) (found st r (missing_in st r.stripe)) (nothing false)
  unfolding look_of
  look_busy e = rw e (go (sound_record_in st r) _)
    where
      go : (b : Bool) (v : Look) → cond (b && true) v (nothing b) ≡ cond b v (nothing false)
      go true v = refl
      go false v = refl

  -- it tells whether the record is sound
  pub look_sound : (look_of st r).sound ≡ sound_record_in st r
  unfolding look_of found nothing
  look_sound = go (sound_record_in st r) (not (is_free r))
    where
      go : (b f : Bool) → (cond (b && f) (found st r (missing_in st r.stripe)) (nothing b)).sound ≡ b
      go true true = refl
      go true false = refl
      go false f = refl

  -- and of a sound one that is not free what a step goes by
  pub look_found : sound_record_in st r ≡ true → is_free r ≡ false → look_of st r ≡ found st r (missing_in st r.stripe)
  look_found s f = look_busy f ∙ ap (λ (b : Bool). cond b (found st r (missing_in st r.stripe)) (nothing false)) s

  -- ---- what a step leaves

  module _ (right : sound_record st r ≡ true) (going : is_open r ≡ true) (few : few_in st ≡ true) where
    pub after_step_is : (k steps : ℕ) → steps ≡ step_set (units_of st) r.graph r.mask (chosen_at st r)
        → ready (units_of st) r.graph r.mask (chosen_at st r) r.done k ≡ true → after_step r k steps ≡ stepped st r k
    unfolding after_step can_mark stepped
    after_step_is k steps s e =
        let a = ready_elim (units_of st) r.graph r.mask (chosen_at st r) r.done k e in
        let below = member_below (units_of st) r.graph r.mask (chosen_at st r) k a.in_graph in
        let units = few_elim st r few in
        let last : part_of steps (after r.done k) ≡ complete (units_of st) r.graph r.mask (chosen_at st r) (after r.done k) =
        ap (λ (w : ℕ). part_of w (after r.done k)) s ∙ complete_test (units_of st) r.graph r.mask (chosen_at st r) (after r.done k) in
        rw (lt-ltb k 64 (omega arith), a.not_done, sound_counts st r right (open_not_free r going) few, last)

    pub after_choice_is : (out : ℕ) → out ≡ missing_in st r.stripe → after_choice st r out ≡ afresh st r
    unfolding after_choice afresh
    after_choice_is out e = rw (sound_counts st r right (open_not_free r going) few, e)
