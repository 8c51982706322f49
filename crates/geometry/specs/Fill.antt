-- Document 02, Q-1: the start of a fill, and how the fill place moves on. A fresh card is in the sleeve of the one that is out.
-- Assumes nothing.
use Rattle.std.specs.Prelude.{ℕ, ◌+◌, cond, List, [], ◌∷◌, ◌++◌, ◌≡◌, ltb, eqb, Result, ⊤}
use Rattle.std.specs.Result.{result_unwrap_or}
use Rattle.terms.specs.Reply.{Reply, accepted, refused, Row, row, first_row, on_accept, done_reply}
use Rattle.terms.specs.declared.refusal.Refusal.{Refusal}
use Rattle.geometry.specs.Limits.{none, no_fill, under_way}
use Rattle.geometry.specs.Report.{state_rows, with_out, with_fill, state_reply}
use Rattle.geometry.specs.declared.State.{State}

-- start: 1, 4, 14 where no card is out, 15 where a fill is under way; it is lent the state alone
unfoldable pub start_rows : State → List Row
start_rows st = row (eqb st.out none) 14 ∷ row (under_way st) 15 ∷ []

unfoldable pub start_refusal : State → ℕ
start_refusal st = first_row (state_rows st ++ start_rows st)

-- what start answers, and the state that it leaves: stripe 0 is to be filled first
pub record Starting : Type 0 where
  pub reply : Reply
  pub state : State

unfoldable pub starting : State → Starting
starting st =
    let number = start_refusal st in
    record { reply = on_accept number (accepted 0 0) (refused number); state = on_accept number (with_fill st 0) st }

-- the state after the stripe at the fill place is filled: the next one is to be filled, and after the last no fill is under way and no card is out
unfoldable pub moved_on : State → State
moved_on st = cond (ltb (st.fill + 1) st.stripes) (with_fill st (st.fill + 1)) (with_out (with_fill st no_fill) none)

-- what start answers of a state that it is lent, and the state that it leaves, are what the paper says
pub record StartingIs (d : Starting) (answer : Result ⊤ Refusal) (state : State) : Type 0 where
  pub reply : done_reply answer ≡ d.reply
  pub state_left : state ≡ d.state

-- what start answers of a state by value is what the paper says, and so is the state that its caller has then: the one that it hands back, or the old
-- one where it is refused
pub record StartedIs (d : Starting) (old : State) (answer : Result State Refusal) : Type 0 where
  pub reply : state_reply answer ≡ d.reply
  pub state_left : result_unwrap_or answer old ≡ d.state
