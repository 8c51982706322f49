-- What the calls that are lent the table hand back, and what they leave in all that they are lent, held to what document 01 says. (What a
-- report and a start leave is in geometry's specs.)
-- Assumes nothing.
use Rattle.std.specs.Prelude.{ℕ, List, ◌≡◌, Result, IfOk}
use Rattle.terms.specs.Reply.{value_reply}
use Rattle.terms.specs.declared.refusal.Refusal.{Refusal}
use Rattle.geometry.specs.Report.{state_reply}
use Rattle.geometry.specs.declared.State.{State}
use Rattle.record.specs.declared.Record.{Record}
use Rattle.array.specs.Admission.{Admission}
use Rattle.array.specs.Answers.{stepped_of, stepped_reply}
use Rattle.array.specs.Collection.{Collection}
use Rattle.array.specs.Opening.{Opening}
use Rattle.array.specs.Outcomes.{opened_state}
use Rattle.array.specs.Rebuilding.{Rebuilding}
use Rattle.array.specs.Stepping.{Stepping}
use Rattle.array.specs.declared.answers.Stepped.{Stepped}

-- open: its answer, the new state, all zero if refused, and the table
pub record OpeningLent (d : Opening) (answer : Result State Refusal) (table : List Record) : Type 0 where
  pub reply : state_reply answer ≡ d.reply
  pub new_state : opened_state answer ≡ d.state
  pub table_left : table ≡ d.table

-- admit: its answer, the table and the work store
pub record AdmissionLent (d : Admission) (answer : Result ℕ Refusal) (table : List Record) (work : List ℕ) : Type 0 where
  pub reply : value_reply answer ≡ d.reply
  pub table_left : table ≡ d.table
  pub work_left : work ≡ d.work

-- step: its answer, chosen afresh only where it names a graph; the table, the work store and the image
pub record SteppingLent (d : Stepping) (answer : Result Stepped Refusal) (table : List Record) (work image : List ℕ) : Type 0 where
  pub reply : stepped_reply answer ≡ d.reply
  pub answered : IfOk answer (λ a. a ≡ stepped_of d.reply.first)
  pub table_left : table ≡ d.table
  pub work_left : work ≡ d.work
  pub image_left : image ≡ d.image

-- collect: its answer, the table and the result buffer
pub record CollectionLent (d : Collection) (answer : Result ℕ Refusal) (table : List Record) (result : List ℕ) : Type 0 where
  pub reply : value_reply answer ≡ d.reply
  pub table_left : table ≡ d.table
  pub result_left : result ≡ d.result

-- rebuild: its answer, the state and the image
pub record RebuildingLent (d : Rebuilding) (answer : Result ℕ Refusal) (state : State) (image : List ℕ) : Type 0 where
  pub reply : value_reply answer ≡ d.reply
  pub state_left : state ≡ d.state
  pub image_left : image ≡ d.image
