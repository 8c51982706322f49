-- Laws of collection over a table: its number, what an accepted one has passed and leaves, when one is accepted, and that a refused one changes nothing.
-- Assumes nothing.
use Prim.Native.Nat.{ℕ, ◌<◌}
use mathlib.Core.Bool.{Bool, true, false, cond, not, ◌||◌}
use mathlib.Core.List.{List, ◌++◌}
use mathlib.Core.Path.{◌≡◌, refl, ap}
use borrow.Author.Tests.{eq-eqb, ne_eqb, leb-false, lt-leb, not-false}
use lib.ListN.{get_or, set}
use Rattle.terms.specs.Lists.{every}
use Rattle.terms.specs.Reply.{accepted, refused}
use Rattle.terms.proofs.Lists.{set_end}
use Rattle.terms.proofs.Refusals.{Failed, giving, zero_failed, failed_zero, failed_both, failed_second}
use Rattle.geometry.specs.Store.{work_wrong}
use Rattle.geometry.specs.declared.State.{State}
use Rattle.record.specs.Life.{free, is_finished, is_write}
use Rattle.record.specs.Survey.{survey_but, sound_with}
use Rattle.record.specs.declared.Record.{Record}
use Rattle.array.specs.Collection.{hand_over, collection_by, collection}
use Rattle.array.specs.Lent.{table_wrong, lent_rows}
use Rattle.array.specs.Refusals.{collect_rows, collect_refusal, result_short}
use Rattle.array.proofs.Lent.{Right, Lently, rest_len, rows_passed, own_rows, collect_fine}
use Rattle.array.proofs.Replies.{number_is}

module _ (st : State) (table : List Record) (work : List ℕ) (i : ℕ) (result : List ℕ) where
  abbrev the_record : Record
  the_record = get_or table i free

  -- the number by which it is refused, 0 where it is accepted
  abbrev pub collect_number : ℕ
  collect_number = collect_refusal st (survey_but st table i) the_record work i result

  pub collect_number_law : (collection st table work i result).reply.number ≡ collect_number
  unfolding collection collection_by
  collect_number_law = number_is collect_number (accepted the_record.count 0) refl

  -- each test of its own failed, as a fact
  pub record Collecting : Type 0 where
    pub record_below : i < st.records
    pub is_finished_law : is_finished the_record ≡ true
    pub room : result_short st the_record result ≡ false

  abbrev wrong : Bool
  wrong = table_wrong st (survey_but st table i).len || work_wrong st work

  abbrev fine : Bool
  fine = sound_with st (survey_but st table i) the_record

  module _ (ok : collect_number ≡ 0) where
    failed : Failed (lent_rows st wrong fine ++ collect_rows st the_record i result)
    unfolding collect_refusal giving every lent_rows collect_rows
    failed = zero_failed _ refl ok

    own : Failed (collect_rows st the_record i result)
    own = failed_second (lent_rows st wrong fine) _ failed

    pub collect_passed : Collecting
    unfolding Failed collect_rows
    collect_passed =
        record { record_below = leb-false st.records i own.0; is_finished_law = not-false _ own.1.0; room = own.1.1.0 }

    pub collect_accepted : collection st table work i result
        ≡ record {
          reply = accepted the_record.count 0;
          table = set table i free;
          result = cond (is_write the_record) result (hand_over st i the_record.mask work result);
        }
    unfolding collection collection_by
    collect_accepted = rw (eq-eqb collect_number 0 ok)

  pub collect_refused : ¬ (collect_number ≡ 0)
      → collection st table work i result ≡ record { reply = refused collect_number; table = table; result = result }
  unfolding collection collection_by
  collect_refused d = rw (ne_eqb collect_number 0 d, rest_len st table i, set_end table)

  module _ (image : List ℕ) (right : Right st table work image) where
    -- what is lent right is not refused for it
    pub collect_lently : Lently collect_number
    unfolding collect_refusal giving every collect_rows
    collect_lently = own_rows _ _ (rows_passed st _ _ (collect_fine st table work image right i)) refl

    -- a finished record is collected into a buffer that has room
    pub collect_granted : Collecting → collect_number ≡ 0
    unfolding collect_refusal Failed collect_rows
    collect_granted a =
        let own : Failed (collect_rows st the_record i result) = (lt-leb st.records i a.record_below, (ap not a.is_finished_law, (a.room, tt))) in
        failed_zero _ (failed_both (lent_rows st wrong fine) (collect_rows st the_record i result) (rows_passed st wrong fine (collect_fine st table work image right i)) own)
