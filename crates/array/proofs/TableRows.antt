-- The calls' refusals in the paper's own words, of the table as it stands: by a survey each is the number that the same rows give with "the table is
-- sound", "the stripe is held" and "no record is free" asked of the table itself. What a survey leaves open is refused by 1 or 2 before.
-- Assumes nothing.
use Prim.Native.Nat.{ℕ, ◌≤◌, ◌<◌}
use mathlib.Core.Bool.{Bool, true, false, cond, not, ◌&&◌, ◌||◌}
use mathlib.Core.List.{List, [], ◌∷◌, ◌++◌}
use mathlib.Core.Logic.{◌⊎◌, inl, inr, ⊎_elim}
use mathlib.Core.Path.{◌≡◌, refl, sym, ap, ap₂, ◌∙◌}
use native.Mathlib.Omega.{arith}
use borrow.Author.Tests.{leb-true, eqb-true, le-leb, eq-eqb, ne_eqb, leb-false, ltb-true, ltb-false, not-true}
use lib.Dec.{leb, ltb, eqb}
use lib.ListN.{length, get_or, get_or-eq_default}
use Rattle.terms.specs.Lists.{tabulate, among}
use Rattle.terms.specs.Reply.{Row, row, first_row}
use Rattle.terms.proofs.Lists.{length_tabulate, get_d_tabulate, every_intro}
use Rattle.terms.proofs.Rows.{or_false_left, or_false_right, truth}
use Rattle.terms.proofs.Sets.{lowest_le}
use Rattle.geometry.proofs.States.{state_bounds, state_fill}
use Rattle.geometry.specs.Limits.{none, under_way, beyond_state, is_lost}
use Rattle.geometry.specs.Store.{image_wrong, work_wrong}
use Rattle.geometry.specs.declared.State.{State}
use Rattle.graph.proofs.Rules.{both_ways}
use Rattle.parity.proofs.Passing.{right_parity_cong}
use Rattle.parity.specs.Parity.{right_parity}
use Rattle.record.proofs.Clauses.{fit, open_not_free}
use Rattle.record.proofs.SoundTables.{sound_elim, holds_not, held_intro}
use Rattle.record.proofs.Surveyed.{looks_within, free_holds}
use Rattle.record.proofs.SurveyTells.{survey_len}
use Rattle.record.specs.Asked.{no_stripe, held_stripe}
use Rattle.record.specs.Life.{free, is_free, is_open, units_of}
use Rattle.record.specs.Sound.{sound, holds, held, legal_mask, lowest_free}
use Rattle.record.specs.Survey.{survey_of, survey_but, held_in, sound_with}
use Rattle.record.specs.declared.Record.{Record}
use Rattle.array.specs.Lent.{table_wrong, lent_rows}
use Rattle.array.specs.Refusals.{admit_rows, admit_refusal, step_rows, step_refusal, collect_rows, collect_refusal, scan_rows, scan_refusal, rebuild_rows, rebuild_refusal, payload_wrong}
use Rattle.array.proofs.Admissions.{admit_number}
use Rattle.array.proofs.Collections.{collect_number}
use Rattle.array.proofs.Lent.{table_length, rest_len, sound_seen, free_seen, held_seen, with_seen}
use Rattle.array.proofs.Rebuildings.{rebuild_number}
use Rattle.array.proofs.Scannings.{scan_number}
use Rattle.array.proofs.Steppings.{step_number}

-- two ways to ask row 3 and the rows behind 4, the same where 1 and 2, and for the latter 3, are passed
same_rows : (b w f f' l : Bool) (own own' : List Row) → (b ≡ false → w ≡ false → f ≡ f')
    → (b ≡ false → w ≡ false → f' ≡ true → first_row own ≡ first_row own')
    → first_row (row b 1 ∷ row w 2 ∷ row (not f) 3 ∷ row l 4 ∷ own) ≡ first_row (row b 1 ∷ row w 2 ∷ row (not f') 3 ∷ row l 4 ∷ own')
unfolding first_row
same_rows true w f f' l own own' h k = refl
same_rows false true f f' l own own' h k = refl
same_rows false false f f' l own own' h k = ap (λ (t : Bool). first_row (row (not t) 3 ∷ row l 4 ∷ own)) (h refl refl) ∙ behind f' l (k refl refl)
  where
    behind : (f l : Bool) → (f ≡ true → first_row own ≡ first_row own')
        → first_row (row (not f) 3 ∷ row l 4 ∷ own) ≡ first_row (row (not f) 3 ∷ row l 4 ∷ own')
    behind false l g = refl
    behind true true g = refl
    behind true false g = g refl

-- a record that does not hold it has another number in the survey
other_stripe : (r : Record) (s : ℕ) → no_stripe < s → holds s r ≡ false → eqb (held_stripe r) s ≡ false
unfolding held_stripe holds
other_stripe r s high = go (is_open r)
  where
    go : (b : Bool) → (b && eqb r.stripe s) ≡ false → eqb (cond b r.stripe no_stripe) s ≡ false
    go true e = e
    go false e = ne_eqb no_stripe s (λ q. omega arith)

-- a number above those of all stripes: a sound table holds no stripe there, and its survey says so
module _ (st : State) (table : List Record) (limits : beyond_state st ≡ false) where
  none_holds : sound st table ≡ true → (s : ℕ) → no_stripe < s → (i : ℕ) → i < length table → holds s (get_or table i free) ≡ false
  none_holds fine s high i h =
      holds_not s (get_or table i free)
      (λ o e.
      let below = (fit st (get_or table i free) ((sound_elim st table fine).each i h) (open_not_free (get_or table i free) o)).stripe_below in
      omega (arith, state_bounds st limits))

  none_held : sound st table ≡ true → (s : ℕ) → no_stripe < s → held table s ≡ false
  none_held fine s high = held_intro table s (none_holds fine s high)

  none_seen : length table ≡ st.records → sound st table ≡ true → (s : ℕ) → no_stripe < s → held_in (survey_of st table) s ≡ false
  unfolding survey_of held_in among
  none_seen long fine s high =
      rw (looks_within st table limits long)
      (ap not
      (every_intro (λ a. not (eqb a s)) (tabulate 8 stripe) 0
      (λ i k.
      ap (λ (x : ℕ). not (eqb x s)) (get_d_tabulate 8 stripe i 0 (omega (arith, length_tabulate 8 stripe)))
      ∙ ap not (other_stripe (get_or table i free) s high (anywhere i (truth (ltb i (length table))))))))
    where
      stripe : ℕ → ℕ
      stripe i = held_stripe (get_or table i free)

      anywhere : (i : ℕ) → (ltb i (length table) ≡ true) ⊎ (ltb i (length table) ≡ false) → holds s (get_or table i free) ≡ false
      anywhere i (inl e) = none_holds fine s high i (ltb-true i (length table) e)
      anywhere i (inr e) = ap (holds s) (get_or-eq_default table free {n = i} (ltb-false i (length table) e)) ∙ not-true _ (free_holds s)

-- admit's own: the stripe's row matters for a stripe of the array
admit_own : (a m p h h' n n' : Bool) → (a ≡ false → h ≡ h') → n ≡ n'
    → first_row (row a 5 ∷ row m 6 ∷ row p 7 ∷ row h 8 ∷ row n 9 ∷ []) ≡ first_row (row a 5 ∷ row m 6 ∷ row p 7 ∷ row h' 8 ∷ row n' 9 ∷ [])
unfolding first_row
admit_own true m p h h' n n' f g = refl
admit_own false m p h h' n n' f g = ap₂ (λ (x y : Bool). first_row (row m 6 ∷ row p 7 ∷ row x 8 ∷ row y 9 ∷ [])) (f refl) g

module _ (st : State) (table : List Record) where
  -- the table is of K records, where its length is not wrong
  module _ (work image : List ℕ) where
    abbrev all_wrong : Bool
    all_wrong = image_wrong st image || table_wrong st (length table) || work_wrong st work

    long : all_wrong ≡ false → length table ≡ st.records
    long e =
        table_length st (length table)
        (or_false_right (image_wrong st image) _ (or_false_left (image_wrong st image || table_wrong st (length table)) (work_wrong st work) e))

    pub step_table : (i k : ℕ) → step_number st table work image i k ≡ first_row (lent_rows st all_wrong (sound st table) ++ step_rows st (get_or table i free) i k)
    unfolding step_refusal lent_rows
    step_table i k =
        ap (λ (n : ℕ). first_row (row (beyond_state st) 1 ∷ row (image_wrong st image || table_wrong st n || work_wrong st work) 2
        ∷ row (not (sound_with st (survey_but st table i) (get_or table i free))) 3 ∷ row (is_lost st) 4 ∷ step_rows st (get_or table i free) i k)) (rest_len st table i)
        ∙ same_rows (beyond_state st) all_wrong _ _ (is_lost st) _ _ (λ b w. with_seen st table b (long w) i) (λ b w f. refl)

    pub admit_table : (write : Bool) (s mask : ℕ) (payload : List ℕ) → admit_number st table work image write s mask payload
        ≡ first_row
        (lent_rows st all_wrong (sound st table)
        ++ (row (leb st.stripes s) 5
        ∷ row (not (legal_mask (units_of st) mask)) 6
        ∷ row (payload_wrong st write mask payload) 7
        ∷ row (held table s) 8
        ∷ row (eqb (lowest_free table) (length table)) 9
        ∷ []))
    unfolding admit_refusal lent_rows admit_rows
    admit_table write s mask payload =
        ap (λ (n : ℕ). first_row (row (beyond_state st) 1 ∷ row (image_wrong st image || table_wrong st n || work_wrong st work) 2
        ∷ row (not (survey_of st table).sound) 3 ∷ row (is_lost st) 4 ∷ row (leb st.stripes s) 5 ∷ row (not (legal_mask (units_of st) mask)) 6
        ∷ row (payload_wrong st write mask payload) 7 ∷ row (held_in (survey_of st table) s) 8 ∷ row (leb st.records (survey_of st table).free) 9 ∷ [])) (survey_len st table)
        ∙ same_rows (beyond_state st) all_wrong _ _ (is_lost st) _ _ (λ b w. sound_seen st table b (long w))
        (λ b w f. admit_own (leb st.stripes s) _ _ _ _ _ _ (λ e. held_seen st table b (long w) s (leb-false st.stripes s e)) (full b (long w)))
      where
        most : lowest_free table ≤ length table
        most = unfold lowest_free in lowest_le (length table) (λ i. is_free (get_or table i free))

        full : beyond_state st ≡ false → length table ≡ st.records → leb st.records (survey_of st table).free ≡ eqb (lowest_free table) (length table)
        full b l =
            rw (free_seen st table b l, ← l)
            (both_ways (leb (length table) (lowest_free table)) (eqb (lowest_free table) (length table))
            (λ e. eq-eqb (lowest_free table) (length table) (let h = leb-true (length table) (lowest_free table) e in omega (arith, most)))
            (λ e. le-leb (length table) (lowest_free table) (let h = eqb-true (lowest_free table) (length table) e in omega arith)))

  -- collect isn't lent the image, and scan and rebuild not the work store
  module _ (work : List ℕ) where
    pub collect_table : (i : ℕ) (result : List ℕ) → collect_number st table work i result
        ≡ first_row (lent_rows st (table_wrong st (length table) || work_wrong st work) (sound st table) ++ collect_rows st (get_or table i free) i result)
    unfolding collect_refusal lent_rows
    collect_table i result =
        ap (λ (n : ℕ). first_row (row (beyond_state st) 1 ∷ row (table_wrong st n || work_wrong st work) 2
        ∷ row (not (sound_with st (survey_but st table i) (get_or table i free))) 3 ∷ row (is_lost st) 4 ∷ collect_rows st (get_or table i free) i result)) (rest_len st table i)
        ∙ same_rows (beyond_state st) (table_wrong st (length table) || work_wrong st work) _ _ (is_lost st) _ _
        (λ b w. with_seen st table b (table_length st (length table) (or_false_left (table_wrong st (length table)) (work_wrong st work) w)) i)
        (λ b w f. refl)

  module _ (image : List ℕ) where
    abbrev seen_wrong : Bool
    seen_wrong = image_wrong st image || table_wrong st (length table)

    fits : seen_wrong ≡ false → length table ≡ st.records
    fits w = table_length st (length table) (or_false_right (image_wrong st image) (table_wrong st (length table)) w)

    pub scan_table : scan_number st table image
        ≡ first_row
        (lent_rows st seen_wrong (sound st table)
        ++ (row (not (eqb st.out none)) 12 ∷ row (not (right_parity st.cards st.stripes st.block image (held table))) 13 ∷ []))
    unfolding scan_refusal lent_rows scan_rows
    scan_table =
        ap (λ (n : ℕ). first_row (row (beyond_state st) 1 ∷ row (image_wrong st image || table_wrong st n) 2
        ∷ row (not (survey_of st table).sound) 3 ∷ row (is_lost st) 4 ∷ row (not (eqb st.out none)) 12
        ∷ row (not (right_parity st.cards st.stripes st.block image (held_in (survey_of st table)))) 13 ∷ [])) (survey_len st table)
        ∙ same_rows (beyond_state st) seen_wrong _ _ (is_lost st) _ _ (λ b w. sound_seen st table b (fits w))
        (λ b w f.
        ap (λ (t : Bool). first_row (row (not (eqb st.out none)) 12 ∷ row (not t) 13 ∷ []))
        (right_parity_cong st.cards st.stripes st.block image (held_in (survey_of st table)) (held table) (λ s h. held_seen st table b (fits w) s h)))

    pub rebuild_table : rebuild_number st table image
        ≡ first_row (lent_rows st seen_wrong (sound st table) ++ (row (held table st.fill) 8 ∷ row (not (under_way st)) 14 ∷ []))
    unfolding rebuild_refusal lent_rows rebuild_rows
    rebuild_table =
        ap (λ (n : ℕ). first_row (row (beyond_state st) 1 ∷ row (image_wrong st image || table_wrong st n) 2
        ∷ row (not (survey_of st table).sound) 3 ∷ row (is_lost st) 4 ∷ row (held_in (survey_of st table) st.fill) 8 ∷ row (not (under_way st)) 14 ∷ [])) (survey_len st table)
        ∙ same_rows (beyond_state st) seen_wrong _ _ (is_lost st) _ _ (λ b w. sound_seen st table b (fits w))
        (λ b w f.
        ap (λ (t : Bool). first_row (row t 8 ∷ row (not (under_way st)) 14 ∷ []))
        (⊎_elim (λ e. let high : no_stripe < st.fill = omega arith in none_seen st table b (fits w) f st.fill high ∙ sym (none_held st table b f st.fill high))
        (λ h. held_seen st table b (fits w) st.fill h.0) (state_fill st b)))
