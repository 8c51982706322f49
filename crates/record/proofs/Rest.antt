-- Laws of the survey of the rest of a table: made record by record with one left out, and with that record it tells of the whole.
-- Assumes nothing.
use Prim.Native.Nat.{ℕ, zero, suc, ◌+◌, ◌≤◌, ◌<◌}
use mathlib.Core.Bool.{Bool, true, false, cond, not, ◌&&◌}
use mathlib.Core.List.{List, [], ◌∷◌}
use mathlib.Core.Logic.{⊎_elim}
use mathlib.Core.Path.{◌≡◌, refl, sym, ap, ◌∙◌}
use native.Mathlib.Nat.{le_of_suc-le-suc, not-suc-le-zero}
use native.Mathlib.Omega.{arith}
use borrow.Author.Tests.{eqb-true, eqb-false, eq-eqb, ne_eqb, ltb-true, ltb-false, leb-true, not-true}
use lib.Dec.{ltb, leb, eqb}
use lib.ListN.{length, get_or, set, length-set, get_or-eq_default}
use lib.Seq.{get_or-set_same, get_or-set_other}
use Rattle.terms.proofs.Rows.{truth, true≢false, and_left, and_right, and_both}
use Rattle.geometry.specs.declared.State.{State}
use Rattle.graph.proofs.Rules.{both_ways}
use Rattle.record.specs.Asked.{no_stripe}
use Rattle.record.specs.Life.{free, is_open}
use Rattle.record.specs.Seen.{seen, seen_to}
use Rattle.record.specs.Sound.{sound_record, sound, held}
use Rattle.record.specs.Survey.{looks_at, unseen, survey_of, survey_but, held_in, sound_with}
use Rattle.record.specs.declared.Record.{Record}
use Rattle.record.proofs.Clauses.{fit, free_sound, open_not_free}
use Rattle.record.proofs.Soundness.{sound_record_law}
use Rattle.record.proofs.Surveyed.{seen_next}
use Rattle.record.proofs.SurveyTells.{survey_sound, survey_held}
use Rattle.record.proofs.SoundTables.{sound_elim, sound_intro, holds_not, holds_elim, held_elim, held_intro}

and_true : (a b : Bool) → a ≡ b → (a && true) ≡ b
and_true true b e = e
and_true false b e = e

not_first : (a b : Bool) → a ≡ false → not (a && b) ≡ true
not_first a b e = ap (λ (t : Bool). not (t && b)) e

not_second : (a b : Bool) → b ≡ false → not (a && b) ≡ true
not_second true b e = ap not e
not_second false b e = refl

-- past the end nothing is put
set_past : (l : List Record) (i : ℕ) (r : Record) → length l ≤ i → set l i r ≡ l
set_past [] i r h = refl
set_past (x ∷ xs) zero r h = absurd (not-suc-le-zero h)
set_past (x ∷ xs) (suc i) r h = ap {B = List Record} (λ t. x ∷ t) (set_past xs i r (le_of_suc-le-suc h))

-- the record at j of the table without record i
pub rest_at : (l : List Record) (i j : ℕ) → get_or (set l i free) j free ≡ cond (eqb j i) free (get_or l j free)
rest_at l i j = ⊎_elim same other (truth (eqb j i))
  where
    same : eqb j i ≡ true → get_or (set l i free) j free ≡ cond (eqb j i) free (get_or l j free)
    same e =
        let h : j ≡ i = eqb-true j i e in
        rw e
        (⊎_elim
        (λ b. rw h (get_or-set_same l i free free (ltb-true i (length l) b)))
        (λ b. rw (set_past l i free (ltb-false i (length l) b)) (get_or-eq_default l free (rw h (ltb-false i (length l) b))))
        (truth (ltb i (length l))))

    other : eqb j i ≡ false → get_or (set l i free) j free ≡ cond (eqb j i) free (get_or l j free)
    other e = rw e (get_or-set_other l i j free free (λ q. eqb-false j i e q))

-- one more record seen, with record b left out
pub seen_rest : (st : State) (l : List Record) (b i : ℕ)
    → seen st (seen_to st (set l b free) i) i (cond (eqb i b) free (get_or l i free)) ≡ seen_to st (set l b free) (i + 1)
seen_rest st l b i = rw (← rest_at l b i) (seen_next st (set l b free) i)

not_seen : (st : State) (t : List Record) → leb (length t) 8 ≡ false → survey_of st t ≡ unseen (length t)
unfolding survey_of looks_at
not_seen st t h = rw h

-- with none of eight left out the rest is the whole
pub survey_whole : (st : State) (l : List Record) → survey_but st l 8 ≡ survey_of st l
survey_whole st l =
    ⊎_elim (λ h. ap (survey_of st) (set_past l 8 free (leb-true (length l) 8 h))) (λ h. not_seen st (set l 8 free) (long h) ∙ rw (length-set l 8 free) (sym (not_seen st l h)))
    (truth (leb (length l) 8))
  where
    long : leb (length l) 8 ≡ false → leb (length (set l 8 free)) 8 ≡ false
    long h = rw (length-set l 8 free) h

-- ---- a table is sound by its rest and the record

module _ (st : State) (l : List Record) (i : ℕ) where
  abbrev r : Record
  r = get_or l i free

  abbrev rest : List Record
  rest = set l i free

  here_at : (j : ℕ) → j ≡ i → get_or rest j free ≡ free
  here_at j e = rest_at l i j ∙ rw (eq-eqb j i e)

  other_at : (j : ℕ) → ¬ (j ≡ i) → get_or rest j free ≡ get_or l j free
  other_at j d = rest_at l i j ∙ rw (ne_eqb j i d)

  -- an open record of the rest is another record of the table
  open_other : (j : ℕ) → is_open (get_or rest j free) ≡ true → ¬ (j ≡ i)
  open_other j o e = true≢false (sym (rw (here_at j e) at o))

  in_table : (j : ℕ) → j < length rest → j < length l
  in_table j h = rw (length-set l i free) at h

  rest_sound : sound st l ≡ true → sound st rest ≡ true
  rest_sound e =
      let s = sound_elim st l e in
      sound_intro st rest (record {
        each = λ j h.
            ⊎_elim (λ q. rw (here_at j (eqb-true j i q)) (free_sound st)) (λ q. rw (other_at j (eqb-false j i q)) (s.each j (in_table j h)))
            (truth (eqb j i));
        alone = λ j k hj hk oj ok same.
            let dj = open_other j oj in
            let dk = open_other k ok in
            s.alone j k (in_table j hj) (in_table k hk) (rw (other_at j dj) at oj) (rw (other_at k dk) at ok) (rw (other_at j dj, other_at k dk) at same);
      })

  module _ (below : i < length l) where
    -- in a sound table the rest holds no stripe that the record holds
    rest_apart : sound st l ≡ true → is_open r ≡ true → held rest r.stripe ≡ false
    rest_apart e o =
        let s = sound_elim st l e in
        held_intro rest r.stripe
        (λ j h.
        holds_not r.stripe (get_or rest j free)
        (λ oj same.
        let d = open_other j oj in
        d (s.alone j i (in_table j h) below (rw (other_at j d) at oj) o (rw (other_at j d) at same))))

    whole_sound : sound st rest ≡ true → sound_record st r ≡ true → (is_open r ≡ true → held rest r.stripe ≡ false) → sound st l ≡ true
    whole_sound e own apart =
        let s = sound_elim st rest e in
        let long : (j : ℕ) → j < length l → j < length rest = λ j h. rw (length-set l i free) h in
        -- an open record that is not record i does not share its stripe
        let differs : (j : ℕ) → j < length l → ¬ (j ≡ i) → is_open (get_or l j free) ≡ true → is_open r ≡ true → ¬ ((get_or l j free).stripe ≡ r.stripe) = λ j h d oj o.
        holds_elim r.stripe (get_or l j free) (rw (other_at j d) at (held_elim rest r.stripe (apart o) j (long j h))) oj in
        sound_intro st l (record {
          each = λ j h.
              ⊎_elim (λ q. rw (eqb-true j i q) own) (λ q. rw (other_at j (eqb-false j i q)) at (s.each j (long j h))) (truth (eqb j i));
          alone = λ j k hj hk oj ok same.
              ⊎_elim
              (λ q.
              let e1 = eqb-true j i q in
              ⊎_elim (λ p. e1 ∙ sym (eqb-true k i p))
              (λ p. absurd (differs k hk (eqb-false k i p) ok (rw e1 at oj) (sym same ∙ ap (λ (m : ℕ). (get_or l m free).stripe) e1))) (truth (eqb k i)))
              (λ q.
              let d1 = eqb-false j i q in
              ⊎_elim
              (λ p. let e2 = eqb-true k i p in absurd (differs j hj d1 oj (rw e2 at ok) (same ∙ ap (λ (m : ℕ). (get_or l m free).stripe) e2)))
              (λ p.
              let d2 = eqb-false k i p in
              s.alone j k (long j hj) (long k hk) (rw (other_at j d1) oj) (rw (other_at k d2) ok) (rw (other_at j d1, other_at k d2) same))
              (truth (eqb k i)))
              (truth (eqb j i));
        })

  -- by a survey of the rest
  module _ (looks : looks_at st l ≡ true) (few : st.stripes ≤ no_stripe) where
    looks_rest : looks_at st rest ≡ true
    unfolding looks_at
    looks_rest = rw (length-set l i free) looks

    seen_sound : (survey_but st l i).sound ≡ sound st rest
    seen_sound = survey_sound st rest looks_rest

    in_array : sound_record st r ≡ true → is_open r ≡ true → r.stripe < no_stripe
    in_array own o = let h = (fit st r own (open_not_free r o)).stripe_below in omega (arith, few)

    -- past the end the record is free, and the rest is the whole
    past : length l ≤ i → sound_with st (survey_but st l i) r ≡ sound st l
    unfolding sound_with
    past h =
        let nothing : r ≡ free = get_or-eq_default l free h in
        let whole : rest ≡ l = set_past l i free h in
        rw (nothing, free_sound st) (and_true _ _ (and_true _ _ seen_sound) ∙ ap (sound st) whole)

    here : i < length l → sound_with st (survey_but st l i) r ≡ sound st l
    unfolding sound_with
    here below = both_ways _ _ to from
      where
        clear : Bool
        clear = not (is_open r && held_in (survey_but st l i) r.stripe)

        to : ((survey_but st l i).sound && sound_record st r && clear) ≡ true → sound st l ≡ true
        to e =
            let two = and_left ((survey_but st l i).sound && sound_record st r) clear e in
            let own = and_right (survey_but st l i).sound (sound_record st r) two in
            whole_sound below (sym seen_sound ∙ and_left (survey_but st l i).sound (sound_record st r) two) own
            (λ o.
            sym (survey_held st rest looks_rest r.stripe (in_array own o))
            ∙ (let c : (is_open r && held_in (survey_but st l i) r.stripe) ≡ false = not-true _ (and_right ((survey_but st l i).sound && sound_record st r) clear e) in rw o at c))

        from : sound st l ≡ true → ((survey_but st l i).sound && sound_record st r && clear) ≡ true
        from e =
            let own = sound_record_law st l e i in
            and_both ((survey_but st l i).sound && sound_record st r) clear
            (and_both (survey_but st l i).sound (sound_record st r) (seen_sound ∙ rest_sound e) own)
            (⊎_elim
            (λ o. not_second (is_open r) _ (survey_held st rest looks_rest r.stripe (in_array own o) ∙ rest_apart below e o))
            (λ o. not_first (is_open r) _ o)
            (truth (is_open r)))

    pub sound_rest : sound_with st (survey_but st l i) r ≡ sound st l
    sound_rest = ⊎_elim (λ h. here (ltb-true i (length l) h)) (λ h. past (ltb-false i (length l) h)) (truth (ltb i (length l)))
