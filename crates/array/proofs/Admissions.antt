-- Laws of admission over a table: its number, what an accepted one has passed and leaves, and that a refused one changes nothing.
-- Assumes nothing.
use Prim.Native.Nat.{ℕ, ◌<◌}
use mathlib.Core.Bool.{Bool, true, false, cond, ◌||◌}
use mathlib.Core.List.{List, ◌++◌}
use mathlib.Core.Path.{◌≡◌, refl, sym, ◌∙◌}
use native.Mathlib.Omega.{arith}
use borrow.Author.Tests.{eqb-true, eq-eqb, ne_eqb, leb-false, not-false}
use lib.ListN.{length, set}
use Rattle.terms.specs.Lists.{every}
use Rattle.terms.specs.Reply.{accepted, refused}
use Rattle.terms.proofs.Lists.{set_end}
use Rattle.terms.proofs.Refusals.{Failed, giving, zero_failed, failed_first, failed_second}
use Rattle.geometry.specs.Store.{image_wrong, work_wrong}
use Rattle.geometry.specs.declared.State.{State}
use Rattle.record.proofs.SurveyTells.{survey_len}
use Rattle.record.specs.Life.{units_of, admitted}
use Rattle.record.specs.Sound.{held, legal_mask, lowest_free}
use Rattle.record.specs.Survey.{survey_of}
use Rattle.record.specs.declared.Record.{Record}
use Rattle.array.specs.Admission.{keep_units, admission_by, admission}
use Rattle.array.specs.Lent.{table_wrong, lent_rows, unit_bytes}
use Rattle.array.specs.Refusals.{admit_rows, admit_refusal, payload_wrong}
use Rattle.array.proofs.Lent.{Right, Lently, sound_seen, lent_right, passed_rows, rows_passed, own_rows, all_fine, free_seen, held_seen}
use Rattle.array.proofs.Replies.{number_is}

module _ (st : State) (table : List Record) (work image : List ℕ) (write : Bool) (s mask : ℕ) (payload : List ℕ) where
  -- the number by which it is refused, 0 where it is accepted
  abbrev pub admit_number : ℕ
  admit_number = admit_refusal st (survey_of st table) work image write s mask payload

  pub admit_number_law : (admission st table work image write s mask payload).reply.number ≡ admit_number
  unfolding admission admission_by
  admit_number_law = number_is admit_number (accepted (survey_of st table).free 0) refl

  -- each test failed, as a fact
  pub record Admitting : Type 0 where
    pub right : Right st table work image
    pub stripe_below : s < st.stripes
    pub mask_legal : legal_mask (units_of st) mask ≡ true
    pub payload_right : length payload ≡ cond write (unit_bytes st mask) 0
    pub not_held : held table s ≡ false
    pub some_free : lowest_free table < length table

  abbrev wrong : Bool
  wrong = image_wrong st image || table_wrong st (survey_of st table).len || work_wrong st work

  module _ (ok : admit_number ≡ 0) where
    failed : Failed (lent_rows st wrong (survey_of st table).sound ++ admit_rows st (survey_of st table) write s mask payload)
    unfolding admit_refusal giving every lent_rows admit_rows
    failed = zero_failed _ refl ok

    right : Right st table work image
    right = lent_right st table work image _ _ (survey_len st table) (sound_seen st table) (passed_rows st wrong _ (failed_first (lent_rows st wrong (survey_of st table).sound) _ failed))

    own : Failed (admit_rows st (survey_of st table) write s mask payload)
    own = failed_second (lent_rows st wrong (survey_of st table).sound) _ failed

    pub admit_passed : Admitting
    unfolding Failed admit_rows payload_wrong
    admit_passed =
        let below = leb-false st.stripes s own.0 in
        record {
          right = right;
          stripe_below = below;
          mask_legal = not-false _ own.1.0;
          payload_right = eqb-true (length payload) (cond write (unit_bytes st mask) 0) (not-false _ own.1.1.0);
          not_held = sym (held_seen st table right.limits right.table_right s below) ∙ own.1.1.1.0;
          some_free =
              omega (arith, leb-false st.records (survey_of st table).free own.1.1.1.1.0, free_seen st table right.limits right.table_right, right.table_right);
        }

    pub admit_accepted : admission st table work image write s mask payload
        ≡ record {
          reply = accepted (lowest_free table) 0;
          table = set table (lowest_free table) (admitted st write s mask);
          work = cond write (keep_units st (lowest_free table) mask payload work) work;
        }
    unfolding admission admission_by
    admit_accepted = rw (eq-eqb admit_number 0 ok, free_seen st table right.limits right.table_right)

  pub admit_refused : ¬ (admit_number ≡ 0)
      → admission st table work image write s mask payload ≡ record { reply = refused admit_number; table = table; work = work }
  unfolding admission admission_by
  admit_refused d = rw (ne_eqb admit_number 0 d, survey_len st table, set_end table)

  -- what is lent right is not refused for it
  pub admit_lently : Right st table work image → Lently admit_number
  unfolding admit_refusal giving every admit_rows
  admit_lently r = own_rows _ _ (rows_passed st _ _ (all_fine st table work image r)) refl
