-- What is lent is right: as a record of facts, from the tests that every call on the table begins with, and back. A survey of such a table says what
-- stands in it.
-- Assumes nothing.
use Prim.Native.Nat.{ℕ, ◌<◌}
use mathlib.Core.Bool.{Bool, true, false, not, ◌||◌}
use mathlib.Core.List.{List, ◌++◌}
use mathlib.Core.Logic.{◌⊎◌, inl, inr, ⊎_elim}
use mathlib.Core.Path.{◌≡◌, sym, ap, ◌∙◌}
use native.Mathlib.Omega.{arith}
use borrow.Author.Tests.{eqb-true, eq-eqb, ltb-true, not-false}
use lib.Dec.{ltb}
use lib.ListN.{length, get_or, set, length-set}
use Rattle.terms.specs.Reply.{Row, first_row}
use Rattle.terms.proofs.Refusals.{Failed, giving, given, first_row_behind}
use Rattle.terms.proofs.Rows.{or_false_left, or_false_right}
use Rattle.geometry.proofs.Lengths.{image_length, work_length}
use Rattle.geometry.proofs.States.{state_bounds}
use Rattle.geometry.specs.Limits.{beyond_state}
use Rattle.geometry.specs.Report.{state_rows}
use Rattle.geometry.specs.Store.{image_wrong, work_wrong, image_size, work_size}
use Rattle.geometry.specs.declared.State.{State}
use Rattle.record.proofs.Rest.{sound_rest}
use Rattle.record.proofs.Surveyed.{looks_within}
use Rattle.record.proofs.SurveyTells.{survey_len, survey_sound, survey_free, survey_held}
use Rattle.record.specs.Life.{free}
use Rattle.record.specs.Sound.{sound, held, lowest_free}
use Rattle.record.specs.Survey.{looks_at, survey_of, survey_but, held_in, sound_with}
use Rattle.record.specs.declared.Record.{Record}
use Rattle.array.specs.Lent.{table_wrong, lent_rows}

-- what goes from call to call is right: the limits hold, each lent thing has its length, the table is sound, the array is not lost
pub record Right (st : State) (table : List Record) (work image : List ℕ) : Type 0 where
  pub limits : beyond_state st ≡ false
  pub image_right : length image ≡ image_size st.cards st.stripes st.block
  pub table_right : length table ≡ st.records
  pub work_right : length work ≡ work_size st.cards st.block st.records
  pub is_sound : sound st table ≡ true
  pub whole : st.lost ≡ 0

module _ (st : State) where
  pub table_length : (len : ℕ) → table_wrong st len ≡ false → len ≡ st.records
  unfolding table_wrong
  table_length len e = eqb-true len st.records (not-false _ e)

-- a table of K records, where the limits hold: its survey is of what stands in it
module _ (st : State) (table : List Record) (limits : beyond_state st ≡ false) (long : length table ≡ st.records) where
  looks : looks_at st table ≡ true
  looks = looks_within st table limits long

  pub sound_seen : (survey_of st table).sound ≡ sound st table
  sound_seen = survey_sound st table looks

  pub free_seen : (survey_of st table).free ≡ lowest_free table
  free_seen = survey_free st table looks

  pub held_seen : (s : ℕ) → s < st.stripes → held_in (survey_of st table) s ≡ held table s
  held_seen s h = survey_held st table looks s (omega (arith, state_bounds st limits))

  -- and so is a survey of the rest, with the record that was left out
  pub with_seen : (i : ℕ) → sound_with st (survey_but st table i) (get_or table i free) ≡ sound st table
  with_seen i = sound_rest st table i looks (omega (arith, state_bounds st limits))

-- the rest of a table is as long
pub rest_len : (st : State) (table : List Record) (i : ℕ) → (survey_but st table i).len ≡ length table
rest_len st table i = survey_len st (set table i free) ∙ length-set table i free

-- every test of refusals 1 to 4 failed
pub record Passed (st : State) (wrong fine : Bool) : Type 0 where
  pub limits : beyond_state st ≡ false
  pub lengths : wrong ≡ false
  pub is_fine : fine ≡ true
  pub whole : st.lost ≡ 0

module _ (st : State) (wrong fine : Bool) where
  pub passed_rows : Failed (lent_rows st wrong fine) → Passed st wrong fine
  unfolding Failed lent_rows
  passed_rows f =
      record {
        limits = f.0;
        lengths = f.1.0;
        is_fine = not-false fine f.1.1.0;
        whole = eqb-true st.lost 0 (not-false _ f.1.1.1.0);
      }

  pub rows_passed : Passed st wrong fine → Failed (lent_rows st wrong fine)
  unfolding Failed lent_rows
  rows_passed p = (p.limits, (p.lengths, (ap not p.is_fine, (ap not (eq-eqb st.lost 0 p.whole), tt))))

-- nothing is refused, or by a number above 4
abbrev pub Lently : ℕ → Type 0
Lently number = (number ≡ 0) ⊎ (4 < number)

-- behind the rows 1 to 4, where every test failed, come a call's own, whose numbers are above 4
pub own_rows : (xs ys : List Row) → Failed xs → giving (λ k. ltb 4 k) ys ≡ true → Lently (first_row (xs ++ ys))
own_rows xs ys f g =
    rw (first_row_behind xs ys f) (⊎_elim (λ e. inl e) (λ e. inr (ltb-true 4 (first_row ys) e)) (given (λ k. ltb 4 k) ys g))

-- a legal state that is not lost passes the rows of a call that is lent the state alone
pub state_fine : (st : State) → beyond_state st ≡ false → st.lost ≡ 0 → Failed (state_rows st)
unfolding Failed state_rows
state_fine st limits whole = (limits, (ap not (eq-eqb st.lost 0 whole), tt))

-- what is lent right passes them, whichever things are lent, and so does a record of the table
module _ (st : State) (table : List Record) (work image : List ℕ) (right : Right st table work image) where
  image_not_wrong : image_wrong st image ≡ false
  unfolding image_wrong
  image_not_wrong = ap not (eq-eqb (length image) (image_size st.cards st.stripes st.block) right.image_right)

  table_not_wrong : table_wrong st (survey_of st table).len ≡ false
  unfolding table_wrong
  table_not_wrong = ap not (eq-eqb (survey_of st table).len st.records (survey_len st table ∙ right.table_right))

  work_not_wrong : work_wrong st work ≡ false
  unfolding work_wrong
  work_not_wrong = ap not (eq-eqb (length work) (work_size st.cards st.block st.records) right.work_right)

  seen_sound : (survey_of st table).sound ≡ true
  seen_sound = sound_seen st table right.limits right.table_right ∙ right.is_sound

  pub all_fine : Passed st (image_wrong st image || table_wrong st (survey_of st table).len || work_wrong st work) (survey_of st table).sound
  all_fine =
      record {
        limits = right.limits;
        lengths = rw (image_not_wrong, table_not_wrong, work_not_wrong);
        is_fine = seen_sound;
        whole = right.whole;
      }

  pub scan_fine : Passed st (image_wrong st image || table_wrong st (survey_of st table).len) (survey_of st table).sound
  scan_fine =
      record {
        limits = right.limits;
        lengths = rw (image_not_wrong, table_not_wrong);
        is_fine = seen_sound;
        whole = right.whole;
      }

  module _ (i : ℕ) where
    rest_not_wrong : table_wrong st (survey_but st table i).len ≡ false
    unfolding table_wrong
    rest_not_wrong = ap not (eq-eqb (survey_but st table i).len st.records (rest_len st table i ∙ right.table_right))

    with_sound : sound_with st (survey_but st table i) (get_or table i free) ≡ true
    with_sound = with_seen st table right.limits right.table_right i ∙ right.is_sound

    pub step_fine : Passed st (image_wrong st image || table_wrong st (survey_but st table i).len || work_wrong st work)
        (sound_with st (survey_but st table i) (get_or table i free))
    step_fine =
        record {
          limits = right.limits;
          lengths = rw (image_not_wrong, rest_not_wrong, work_not_wrong);
          is_fine = with_sound;
          whole = right.whole;
        }

    pub collect_fine : Passed st (table_wrong st (survey_but st table i).len || work_wrong st work)
        (sound_with st (survey_but st table i) (get_or table i free))
    collect_fine =
        record { limits = right.limits; lengths = rw (rest_not_wrong, work_not_wrong); is_fine = with_sound; whole = right.whole }

-- and the other way: a call that is lent all three, and passes these tests by a survey of as many records, is lent what is right
pub lent_right : (st : State) (table : List Record) (work image : List ℕ) (len : ℕ) (fine : Bool) → len ≡ length table
    → (beyond_state st ≡ false → length table ≡ st.records → fine ≡ sound st table)
    → Passed st (image_wrong st image || table_wrong st len || work_wrong st work) fine → Right st table work image
lent_right st table work image len fine same seen p =
    let both : Bool = image_wrong st image || table_wrong st len in
    let front = or_false_left both (work_wrong st work) p.lengths in
    let long = sym same ∙ table_length st len (or_false_right (image_wrong st image) (table_wrong st len) front) in
    record {
      limits = p.limits;
      image_right = image_length st image (or_false_left (image_wrong st image) (table_wrong st len) front);
      table_right = long;
      work_right = work_length st work (or_false_right both (work_wrong st work) p.lengths);
      is_sound = sym (seen p.limits long) ∙ p.is_fine;
      whole = p.whole;
    }
