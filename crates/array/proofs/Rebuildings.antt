-- Laws of a rebuild step over a table: its number, what an accepted one has passed and leaves, when one is accepted, and that a refused one changes
-- nothing.
-- Assumes nothing.
use Prim.Native.Nat.{ℕ}
use mathlib.Core.Bool.{Bool, true, false, not, ◌||◌}
use mathlib.Core.List.{List, ◌++◌}
use mathlib.Core.Logic.{⊎_elim}
use mathlib.Core.Path.{◌≡◌, refl, sym, ap, ◌∙◌}
use borrow.Author.Tests.{eq-eqb, ne_eqb, not-false}
use Rattle.terms.specs.Lists.{every}
use Rattle.terms.specs.Reply.{first_row, accepted, refused}
use Rattle.terms.proofs.Refusals.{Failed, giving, zero_failed, failed_zero, failed_both, failed_first, failed_second, first_row_behind}
use Rattle.terms.proofs.Rows.{or_false_left}
use Rattle.geometry.proofs.Asked.{is_in_image}
use Rattle.geometry.proofs.States.{state_bounds, state_out, state_filling}
use Rattle.geometry.specs.Fill.{moved_on}
use Rattle.geometry.specs.Limits.{under_way}
use Rattle.geometry.specs.Store.{image_wrong}
use Rattle.geometry.specs.declared.State.{State}
use Rattle.parity.specs.Rest.{restored, restored_in}
use Rattle.parity.proofs.Restored.{restored_here}
use Rattle.record.specs.Sound.{held}
use Rattle.record.specs.Survey.{survey_of, held_in}
use Rattle.record.specs.declared.Record.{Record}
use Rattle.record.specs.declared.Survey.{Survey}
use Rattle.array.specs.Lent.{table_wrong, lent_rows}
use Rattle.array.specs.Rebuilding.{rebuilding_by, rebuilding}
use Rattle.array.specs.Refusals.{rebuild_rows, rebuild_refusal}
use Rattle.array.proofs.Lent.{Right, Lently, Passed, passed_rows, rows_passed, own_rows, scan_fine, held_seen}
use Rattle.array.proofs.Replies.{number_is}

module _ (st : State) (v : Survey) (image : List ℕ) where
  abbrev wrong_by : Bool
  wrong_by = image_wrong st image || table_wrong st v.len

  -- each test of its own failed, as a fact: by the survey no open request holds the stripe, and a fill is under way
  pub record FillsBy : Type 0 where
    pub lent : Passed st wrong_by v.sound
    pub seen_idle : held_in v st.fill ≡ false
    pub way : under_way st ≡ true

  pub rebuild_passed_by : rebuild_refusal st v image ≡ 0 → FillsBy
  unfolding rebuild_refusal Failed giving every rebuild_rows lent_rows
  rebuild_passed_by ok =
      let first = lent_rows st wrong_by v.sound in
      let own = rebuild_rows st v in
      let all : Failed (first ++ own) = zero_failed _ refl ok in
      let f = failed_first first own all in
      let g = failed_second first own all in
      record { lent = passed_rows st wrong_by _ f; seen_idle = g.0; way = not-false (under_way st) g.1.0 }

  -- the block to be filled is in the image, so that whoever tests that restores it
  pub filled_restored : FillsBy → restored_in st image st.out st.fill ≡ restored st image st.out st.fill
  filled_restored f =
      let limits = f.lent.limits in
      let place = state_filling st limits f.way in
      sym (restored_here st image st.out st.fill
      (is_in_image st st.out st.fill
      (record { bounds = state_bounds st limits; first = ⊎_elim (λ h. h) (λ e. absurd (place.1 e)) (state_out st limits); second = place.0 }))
      (or_false_left (image_wrong st image) (table_wrong st v.len) f.lent.lengths))

module _ (st : State) (table : List Record) (image : List ℕ) where
  -- the number by which it is refused, 0 where it is accepted
  abbrev pub rebuild_number : ℕ
  rebuild_number = rebuild_refusal st (survey_of st table) image

  pub rebuild_number_law : (rebuilding st table image).reply.number ≡ rebuild_number
  unfolding rebuilding rebuilding_by
  rebuild_number_law = number_is rebuild_number (accepted st.fill 0) refl

  abbrev wrong : Bool
  wrong = wrong_by st (survey_of st table) image

  abbrev pub Fills : Type 0
  Fills = FillsBy st (survey_of st table) image

  pub rebuild_passed : rebuild_number ≡ 0 → Fills
  rebuild_passed = rebuild_passed_by st (survey_of st table) image

  pub rebuild_accepted : rebuild_number ≡ 0
      → rebuilding st table image ≡ record { reply = accepted st.fill 0; state = moved_on st; image = restored st image st.out st.fill }
  unfolding rebuilding rebuilding_by
  rebuild_accepted ok = rw (eq-eqb rebuild_number 0 ok)

  pub rebuild_refused : ¬ (rebuild_number ≡ 0) → rebuilding st table image ≡ record { reply = refused rebuild_number; state = st; image = image }
  unfolding rebuilding rebuilding_by
  rebuild_refused d = rw (ne_eqb rebuild_number 0 d)

  module _ (work : List ℕ) (right : Right st table work image) where
    -- what is lent right is not refused for it
    pub rebuild_lently : Lently rebuild_number
    unfolding rebuild_refusal giving every rebuild_rows
    rebuild_lently = own_rows _ _ (rows_passed st _ _ (scan_fine st table work image right)) refl

    -- the stripe that the survey says is held is one that the table holds
    pub idle_seen : under_way st ≡ true → held_in (survey_of st table) st.fill ≡ held table st.fill
    idle_seen way = held_seen st table right.limits right.table_right st.fill (state_filling st right.limits way).0

    -- a fill under way whose stripe no open request holds: accepted
    pub rebuild_granted : under_way st ≡ true → held table st.fill ≡ false → rebuild_number ≡ 0
    unfolding rebuild_refusal Failed rebuild_rows
    rebuild_granted way idle =
        let own : Failed (rebuild_rows st (survey_of st table)) = (idle_seen way ∙ idle, (ap not way, tt)) in
        failed_zero _ (failed_both (lent_rows st wrong (survey_of st table).sound) (rebuild_rows st (survey_of st table))
        (rows_passed st wrong (survey_of st table).sound (scan_fine st table work image right)) own)

    -- and one whose stripe is held: refused by 8
    pub rebuild_held : under_way st ≡ true → held table st.fill ≡ true → rebuild_number ≡ 8
    unfolding rebuild_refusal rebuild_rows first_row
    rebuild_held way busy =
        first_row_behind (lent_rows st wrong (survey_of st table).sound) (rebuild_rows st (survey_of st table))
        (rows_passed st wrong (survey_of st table).sound (scan_fine st table work image right))
        ∙ rw (idle_seen way ∙ busy)
