-- The outcomes that the contracts of the lent calls allow. Each premise is the `ensures` of crates/calls/src/lib.rt, in the same words; that
-- it is what the call's contract says is shown in proofs/Cited.antt.
-- Assumes nothing.
use Rattle.std.specs.Prelude.{ℕ, Bool, List, [], ◌≡◌, Result, ⊤}
use Rattle.terms.specs.Reply.{Reply, done_reply, value_reply}
use Rattle.terms.specs.declared.refusal.Refusal.{Refusal}
use Rattle.geometry.specs.Fill.{StartingIs, starting}
use Rattle.geometry.specs.Report.{ReportingIs, reporting, state_reply}
use Rattle.geometry.specs.declared.Geometry.{Geometry}
use Rattle.geometry.specs.declared.State.{State}
use Rattle.record.specs.declared.Record.{Record}
use Rattle.array.specs.Admission.{admission}
use Rattle.array.specs.Answers.{stepped_reply}
use Rattle.array.specs.Collection.{collection}
use Rattle.array.specs.Opening.{Opening, opening}
use Rattle.array.specs.Outcomes.{opened_state}
use Rattle.array.specs.Rebuilding.{rebuilding}
use Rattle.array.specs.Scan.{scan_reply}
use Rattle.array.specs.Stepping.{stepping}
use Rattle.array.specs.declared.answers.Stepped.{Stepped}
use Rattle.calls.specs.Lent.{OpeningLent, AdmissionLent, SteppingLent, CollectionLent, RebuildingLent}
use Rattle.history.specs.World.{World, Event, admit, step, report, collect, scan, start, rebuild, Outcome}

-- an outcome: the reply, what is left in the state, the table, the work store and the image, and in the result buffer where one is lent
abbrev pub left : Reply → State → List Record → List ℕ → List ℕ → List ℕ → Outcome
left r state table work image result =
    record { reply = r; world = record { state = state; table = table; work = work; image = image }; result = result }

-- an opening's outcome that the contract of `open` allows
pub data OpenedByCall (g : Geometry) (out : ℕ) (table : List Record) (work image : List ℕ) : Opening → Type 0 where
  opens : (answer : Result State Refusal) (table' : List Record) → OpeningLent (opening g out table work image) answer table'
      → OpenedByCall g out table work image (record { reply = state_reply answer; state = opened_state answer; table = table' })

-- an event's outcome that the contract of its call allows: any answer, and anything left in what is lent, that meets it. What is not lent to
-- be altered stays
pub data ByCalls (w : World) : Event → Outcome → Type 0 where
  admits : (write : Bool) (s mask : ℕ) (payload : List ℕ) (answer : Result ℕ Refusal) (table : List Record) (work : List ℕ)
      → AdmissionLent (admission w.state w.table w.work w.image write s mask payload) answer table work
      → ByCalls w (admit write s mask payload) (left (value_reply answer) w.state table work w.image [])
  steps : (i k : ℕ) (answer : Result Stepped Refusal) (table : List Record) (work image : List ℕ)
      → SteppingLent (stepping w.state w.table w.work w.image i k) answer table work image
      → ByCalls w (step i k) (left (stepped_reply answer) w.state table work image [])
  reports : (c : ℕ) (answer : Result ⊤ Refusal) (state : State) → ReportingIs (reporting w.state c) answer state
      → ByCalls w (report c) (left (done_reply answer) state w.table w.work w.image [])
  collects : (i : ℕ) (result : List ℕ) (answer : Result ℕ Refusal) (table : List Record) (result' : List ℕ)
      → CollectionLent (collection w.state w.table w.work i result) answer table result'
      → ByCalls w (collect i result) (left (value_reply answer) w.state table w.work w.image result')
  scans : (answer : Result ⊤ Refusal) → done_reply answer ≡ scan_reply w.state w.table w.image
      → ByCalls w scan (left (done_reply answer) w.state w.table w.work w.image [])
  starts : (answer : Result ⊤ Refusal) (state : State) → StartingIs (starting w.state) answer state
      → ByCalls w start (left (done_reply answer) state w.table w.work w.image [])
  rebuilds : (answer : Result ℕ Refusal) (state : State) (image : List ℕ) → RebuildingLent (rebuilding w.state w.table w.image) answer state image
      → ByCalls w rebuild (left (value_reply answer) state w.table w.work image [])
