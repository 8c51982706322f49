-- Laws of a step over a table: its number, what an accepted one has passed and leaves, when one is accepted, and that a refused one changes nothing.
-- Assumes nothing.
use Prim.Native.Nat.{ℕ, ◌<◌}
use mathlib.Core.Bool.{Bool, true, false, cond, not, ◌||◌}
use mathlib.Core.List.{List, ◌++◌}
use mathlib.Core.Path.{◌≡◌, refl, sym, ap, ◌∙◌}
use borrow.Author.Tests.{eqb-true, eq-eqb, ne_eqb, leb-false, lt-leb, not-false}
use lib.Dec.{eqb}
use lib.ListN.{get_or, set}
use Rattle.terms.specs.Lists.{every}
use Rattle.terms.specs.Reply.{refused}
use Rattle.terms.proofs.Lists.{set_end}
use Rattle.terms.proofs.Refusals.{Failed, giving, zero_failed, failed_zero, failed_both, failed_first, failed_second}
use Rattle.geometry.specs.Store.{image_wrong, work_wrong}
use Rattle.geometry.specs.declared.State.{State}
use Rattle.graph.specs.Steps.{step_of}
use Rattle.record.specs.Life.{free, is_open, missing_in, units_of}
use Rattle.record.specs.Survey.{survey_but, sound_with}
use Rattle.record.specs.declared.Record.{Record}
use Rattle.array.specs.Lent.{table_wrong, lent_rows}
use Rattle.array.specs.Refusals.{step_rows, step_refusal, step_ready}
use Rattle.array.specs.Stepping.{SteppingBy, meets_out, accepting, stepping_by, stepping}
use Rattle.array.proofs.Lent.{Right, Lently, rest_len, with_seen, lent_right, passed_rows, rows_passed, own_rows, step_fine}

-- an accepted step answers 0, done or chosen afresh, and changes the record's own place
module _ (st : State) (work image : List ℕ) (i : ℕ) (r : Record) (k : ℕ) where
  abbrev meets : Bool
  meets = meets_out (missing_in st r.stripe) (step_of (units_of st) k)

  pub accepting_number : (accepting st work image i r k).reply.number ≡ 0
  unfolding accepting
  accepting_number = go meets _ _ refl refl
    where
      go : (m : Bool) (a b : SteppingBy) → a.reply.number ≡ 0 → b.reply.number ≡ 0 → (cond m a b).reply.number ≡ 0
      go true a b p q = p
      go false a b p q = q

  pub accepting_place : (accepting st work image i r k).place ≡ i
  unfolding accepting
  accepting_place = go meets _ _ refl refl
    where
      go : (m : Bool) (a b : SteppingBy) → a.place ≡ i → b.place ≡ i → (cond m a b).place ≡ i
      go true a b p q = p
      go false a b p q = q

module _ (st : State) (table : List Record) (work image : List ℕ) (i k : ℕ) where
  abbrev the_record : Record
  the_record = get_or table i free

  -- the number by which it is refused, 0 where it is accepted
  abbrev pub step_number : ℕ
  step_number = step_refusal st (survey_but st table i) the_record work image i k

  pub step_number_law : (stepping st table work image i k).reply.number ≡ step_number
  unfolding stepping stepping_by
  step_number_law = go (eqb step_number 0) refl
    where
      go : (t : Bool) → eqb step_number 0 ≡ t
          → (cond t (accepting st work image i the_record k)
          (record { reply = refused step_number; place = (survey_but st table i).len; stands = free; work = work; image = image })).reply.number ≡ step_number
      go true e = accepting_number st work image i the_record k ∙ sym (eqb-true step_number 0 e)
      go false e = refl

  -- each test failed, as a fact
  pub record Ready : Type 0 where
    pub right : Right st table work image
    pub record_below : i < st.records
    pub record_open : is_open the_record ≡ true
    pub is_ready : step_ready st the_record k ≡ true

  abbrev wrong : Bool
  wrong = image_wrong st image || table_wrong st (survey_but st table i).len || work_wrong st work

  abbrev fine : Bool
  fine = sound_with st (survey_but st table i) the_record

  module _ (ok : step_number ≡ 0) where
    failed : Failed (lent_rows st wrong fine ++ step_rows st the_record i k)
    unfolding step_refusal giving every lent_rows step_rows
    failed = zero_failed _ refl ok

    own : Failed (step_rows st the_record i k)
    own = failed_second (lent_rows st wrong fine) _ failed

    pub step_passed : Ready
    unfolding Failed step_rows
    step_passed =
        record {
          right =
              lent_right st table work image _ fine (rest_len st table i) (λ b l. with_seen st table b l i)
              (passed_rows st wrong fine (failed_first (lent_rows st wrong fine) _ failed));
          record_below = leb-false st.records i own.0;
          record_open = not-false _ own.1.0;
          is_ready = not-false _ own.1.1.0;
        }

    pub step_accepted : stepping st table work image i k
        ≡ (let a = accepting st work image i the_record k in
        record { reply = a.reply; table = set table i a.stands; work = a.work; image = a.image })
    unfolding stepping stepping_by
    step_accepted = rw (eq-eqb step_number 0 ok, accepting_place st work image i the_record k)

  pub step_refused : ¬ (step_number ≡ 0)
      → stepping st table work image i k ≡ record { reply = refused step_number; table = table; work = work; image = image }
  unfolding stepping stepping_by
  step_refused d = rw (ne_eqb step_number 0 d, rest_len st table i, set_end table)

  -- what is lent right is not refused for it
  pub step_lently : Right st table work image → Lently step_number
  unfolding step_refusal giving every step_rows
  step_lently r = own_rows _ _ (rows_passed st _ _ (step_fine st table work image r i)) refl

  -- a ready step of an open record is accepted
  pub step_granted : Ready → step_number ≡ 0
  unfolding step_refusal Failed step_rows
  step_granted a =
      let own : Failed (step_rows st the_record i k) = (lt-leb st.records i a.record_below, (ap not a.record_open, (ap not a.is_ready, tt))) in
      failed_zero _ (failed_both (lent_rows st wrong fine) (step_rows st the_record i k) (rows_passed st wrong fine (step_fine st table work image a.right i)) own)
