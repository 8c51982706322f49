-- Document 02, Q-1, the rebuild step: what it answers and leaves.
-- Assumes nothing.
use Rattle.std.specs.Prelude.{ℕ, List}
use Rattle.terms.specs.Reply.{Reply, accepted, refused, on_accept}
use Rattle.geometry.specs.Fill.{moved_on}
use Rattle.geometry.specs.declared.State.{State}
use Rattle.parity.specs.Rest.{restored}
use Rattle.record.specs.Survey.{survey_of}
use Rattle.record.specs.declared.Record.{Record}
use Rattle.record.specs.declared.Survey.{Survey}
use Rattle.array.specs.Refusals.{rebuild_refusal}

-- what a rebuild step answers, the stripe that it filled; the state and the image. The table stays
pub record Rebuilding : Type 0 where
  pub reply : Reply
  pub state : State
  pub image : List ℕ

-- by a survey of the table: the block of the card that is out is inferred in the stripe at the fill place and written, and the fill moves on
unfoldable pub rebuilding_by : State → Survey → List ℕ → Rebuilding
rebuilding_by st v image =
    let number = rebuild_refusal st v image in
    record {
      reply = on_accept number (accepted st.fill 0) (refused number);
      state = on_accept number (moved_on st) st;
      image = on_accept number (restored st image st.out st.fill) image;
    }

unfoldable pub rebuilding : State → List Record → List ℕ → Rebuilding
rebuilding st table image = rebuilding_by st (survey_of st table) image
