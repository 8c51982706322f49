-- What the engine's C functions answer, packed, and what they leave in all that they are lent.
-- Assumes nothing.
use Rattle.std.specs.Prelude.{ℕ, List, ◌≡◌}
use Rattle.terms.specs.Reply.{on_accept}
use Rattle.geometry.specs.Fill.{Starting}
use Rattle.geometry.specs.Report.{Reporting}
use Rattle.geometry.specs.declared.State.{State}
use Rattle.record.specs.declared.Record.{Record}
use Rattle.array.specs.Admission.{Admission}
use Rattle.array.specs.Collection.{Collection}
use Rattle.array.specs.Opening.{Opening}
use Rattle.array.specs.Rebuilding.{Rebuilding}
use Rattle.array.specs.Stepping.{Stepping}
use Rattle.recorder.specs.Packing.{packed}

-- open: the new state goes where the caller's old one stood, which a refusal leaves
pub record OpeningPacked (d : Opening) (old : State) (answer : ℕ) (state : State) (table : List Record) : Type 0 where
  pub answered : answer ≡ packed d.reply
  pub state_left : state ≡ on_accept d.reply.number d.state old
  pub table_left : table ≡ d.table

pub record AdmissionPacked (d : Admission) (answer : ℕ) (table : List Record) (work : List ℕ) : Type 0 where
  pub answered : answer ≡ packed d.reply
  pub table_left : table ≡ d.table
  pub work_left : work ≡ d.work

pub record SteppingPacked (d : Stepping) (answer : ℕ) (table : List Record) (work image : List ℕ) : Type 0 where
  pub answered : answer ≡ packed d.reply
  pub table_left : table ≡ d.table
  pub work_left : work ≡ d.work
  pub image_left : image ≡ d.image

pub record ReportingPacked (d : Reporting) (answer : ℕ) (state : State) : Type 0 where
  pub answered : answer ≡ packed d.reply
  pub state_left : state ≡ d.state

pub record StartingPacked (d : Starting) (answer : ℕ) (state : State) : Type 0 where
  pub answered : answer ≡ packed d.reply
  pub state_left : state ≡ d.state

pub record CollectionPacked (d : Collection) (answer : ℕ) (table : List Record) (result : List ℕ) : Type 0 where
  pub answered : answer ≡ packed d.reply
  pub table_left : table ≡ d.table
  pub result_left : result ≡ d.result

pub record RebuildingPacked (d : Rebuilding) (answer : ℕ) (state : State) (image : List ℕ) : Type 0 where
  pub answered : answer ≡ packed d.reply
  pub state_left : state ≡ d.state
  pub image_left : image ≡ d.image
