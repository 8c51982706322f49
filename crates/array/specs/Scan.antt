-- Document 01, "What the calls do", scan: what it answers. It leaves all that it is lent.
-- Assumes nothing.
use Rattle.std.specs.Prelude.{ℕ, List}
use Rattle.terms.specs.Reply.{Reply, accepted, on_accept, refused_or13}
use Rattle.geometry.specs.declared.State.{State}
use Rattle.parity.specs.Parity.{disagreement}
use Rattle.record.specs.Survey.{survey_of, held_in}
use Rattle.record.specs.declared.Record.{Record}
use Rattle.record.specs.declared.Survey.{Survey}
use Rattle.array.specs.Refusals.{scan_refusal}

-- scan by a survey of the table looks at stripes that no open request holds, and answers that parity is right or gives refusal 13
unfoldable pub scan_reply_by : State → Survey → List ℕ → Reply
scan_reply_by st v image =
    let number = scan_refusal st v image in
    on_accept number (accepted 0 0) (refused_or13 number (disagreement st.cards st.stripes st.block image (held_in v)))

unfoldable pub scan_reply : State → List Record → List ℕ → Reply
scan_reply st table image = scan_reply_by st (survey_of st table) image
