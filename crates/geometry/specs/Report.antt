-- Document 01, "What the calls do", report: what it answers and the state that it leaves.
-- Assumes nothing.
use Rattle.std.specs.Prelude.{ℕ, cond, not, ◌&&◌, List, [], ◌∷◌, ◌++◌, ◌≡◌, leb, eqb, Result, ⊤}
use Rattle.std.specs.Result.{result_unwrap_or}
use Rattle.terms.specs.Reply.{Reply, accepted, refused, Row, row, first_row, on_accept, reply_of, done_reply}
use Rattle.terms.specs.declared.refusal.Refusal.{Refusal}
use Rattle.geometry.specs.Limits.{none, no_fill, under_way, beyond_state, is_lost, geometry_of, state_of}
use Rattle.geometry.specs.declared.State.{State}

-- what every call that is lent the state alone begins with, refusals 1 and 4
unfoldable pub state_rows : State → List Row
state_rows st = row (beyond_state st) 1 ∷ row (is_lost st) 4 ∷ []

-- report: 1, 4, 5, 12. The card that is out already gives 12 where no fill is under way
unfoldable pub report_rows : State → ℕ → List Row
report_rows st c = row (leb st.cards c) 5 ∷ row (eqb c st.out && not (under_way st)) 12 ∷ []

unfoldable pub report_refusal : State → ℕ → ℕ
report_refusal st c = first_row (state_rows st ++ report_rows st c)

-- the state with card c out, or none
abbrev pub with_out : State → ℕ → State
with_out st c = state_of (geometry_of st) c st.lost st.fill

-- the state with the mark of a lost array; the first card stays the card out
abbrev pub with_lost : State → State
with_lost st = state_of (geometry_of st) st.out 1 st.fill

-- the state with another fill place
abbrev pub with_fill : State → ℕ → State
with_fill st s = state_of (geometry_of st) st.out st.lost s

-- the first card that is reported is out; a fresh card that is reported ends its fill, and is out in all stripes; a second, different one loses the
-- array
unfoldable pub marked : State → ℕ → State
marked st c = cond (eqb st.out none) (with_out st c) (cond (eqb c st.out) (with_fill st no_fill) (with_lost st))

-- what report answers, and the state that it leaves
pub record Reporting : Type 0 where
  pub reply : Reply
  pub state : State

unfoldable pub reporting : State → ℕ → Reporting
reporting st c =
    let number = report_refusal st c in
    record { reply = on_accept number (accepted 0 0) (refused number); state = on_accept number (marked st c) st }

-- what report answers of a state that it is lent, and the state that it leaves, are what the paper says
pub record ReportingIs (d : Reporting) (answer : Result ⊤ Refusal) (state : State) : Type 0 where
  pub reply : done_reply answer ≡ d.reply
  pub state_left : state ≡ d.state

-- the reply of an answer that hands back the state
abbrev pub state_reply : Result State Refusal → Reply
state_reply = reply_of (λ state. accepted 0 0)

-- what report answers of a state by value is what the paper says, and so is the state that its caller has then: the one that it hands back, or the
-- old one where it is refused
pub record ReportedIs (d : Reporting) (old : State) (answer : Result State Refusal) : Type 0 where
  pub reply : state_reply answer ≡ d.reply
  pub state_left : result_unwrap_or answer old ≡ d.state
