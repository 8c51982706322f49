-- Laws of the scan over a table: its number, when it finds parity right, and that what is lent right is not refused for it.
-- Assumes nothing.
use Prim.Native.Nat.{ℕ}
use mathlib.Core.Bool.{Bool, true, not, ◌||◌}
use mathlib.Core.List.{List}
use mathlib.Core.Path.{◌≡◌, refl, ap, ◌∙◌}
use borrow.Author.Tests.{eq-eqb}
use Rattle.terms.specs.Lists.{every}
use Rattle.terms.specs.Reply.{accepted}
use Rattle.terms.proofs.Refusals.{Failed, giving, failed_zero, failed_both}
use Rattle.geometry.specs.Limits.{none}
use Rattle.geometry.specs.Store.{image_wrong}
use Rattle.geometry.specs.declared.State.{State}
use Rattle.parity.proofs.Passing.{right_parity_cong}
use Rattle.parity.specs.Parity.{right_parity, disagreement}
use Rattle.record.specs.Sound.{held}
use Rattle.record.specs.Survey.{survey_of, held_in}
use Rattle.record.specs.declared.Record.{Record}
use Rattle.array.specs.Lent.{table_wrong, lent_rows}
use Rattle.array.specs.Refusals.{scan_rows, scan_refusal}
use Rattle.array.specs.Scan.{scan_reply_by, scan_reply}
use Rattle.array.proofs.Lent.{Right, Lently, rows_passed, own_rows, scan_fine, held_seen}
use Rattle.array.proofs.Replies.{number_is_13}

module _ (st : State) (table : List Record) (image : List ℕ) where
  -- the number by which it is refused, 0 where parity is right
  abbrev pub scan_number : ℕ
  scan_number = scan_refusal st (survey_of st table) image

  pub scan_number_law : (scan_reply st table image).number ≡ scan_number
  unfolding scan_reply scan_reply_by disagreement
  scan_number_law =
      number_is_13 scan_number (accepted 0 0) (disagreement st.cards st.stripes st.block image (held_in (survey_of st table))) refl refl

  abbrev wrong : Bool
  wrong = image_wrong st image || table_wrong st (survey_of st table).len

  module _ (work : List ℕ) (right : Right st table work image) where
    -- the stripes that the survey says are held are those that the table holds
    pub parity_seen : right_parity st.cards st.stripes st.block image (held_in (survey_of st table))
        ≡ right_parity st.cards st.stripes st.block image (held table)
    parity_seen = right_parity_cong st.cards st.stripes st.block image _ _ (λ s h. held_seen st table right.limits right.table_right s h)

    -- what is lent right is not refused for it
    pub scan_lently : Lently scan_number
    unfolding scan_refusal giving every scan_rows
    scan_lently = own_rows _ _ (rows_passed st _ _ (scan_fine st table work image right)) refl

    -- a scan with none out and right parity where nothing is held is accepted
    pub scan_granted : st.out ≡ none → right_parity st.cards st.stripes st.block image (held table) ≡ true
        → scan_reply st table image ≡ accepted 0 0
    unfolding scan_reply scan_reply_by scan_refusal Failed scan_rows
    scan_granted e right_there =
        let own : Failed (scan_rows st (survey_of st table) image) = (ap not (eq-eqb st.out none e), (ap not (parity_seen ∙ right_there), tt)) in
        rw (failed_zero _ (failed_both (lent_rows st wrong (survey_of st table).sound) (scan_rows st (survey_of st table) image)
        (rows_passed st wrong (survey_of st table).sound (scan_fine st table work image right)) own))
