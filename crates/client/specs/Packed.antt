-- The outcomes that the contracts of the C functions allow, with each answer read as docs/C-INTERFACE.md says. Each premise is the `ensures`
-- of crates/recorder/src/engine.rt, in the same words; that it is what the function's contract says is shown in proofs/Cited.antt.
-- Assumes nothing.
use Rattle.std.specs.Prelude.{ℕ, ◌/◌, ◌%◌, ◌^◌, not, List, [], ◌≡◌, eqb}
use Rattle.terms.specs.Reply.{Reply}
use Rattle.geometry.specs.Fill.{starting}
use Rattle.geometry.specs.Report.{reporting}
use Rattle.geometry.specs.declared.Geometry.{Geometry}
use Rattle.geometry.specs.declared.State.{State}
use Rattle.record.specs.declared.Record.{Record}
use Rattle.array.specs.Admission.{admission}
use Rattle.array.specs.Collection.{collection}
use Rattle.array.specs.Opening.{Opening, opening}
use Rattle.array.specs.Rebuilding.{rebuilding}
use Rattle.array.specs.Scan.{scan_reply}
use Rattle.array.specs.Stepping.{stepping}
use Rattle.recorder.specs.Engine.{OpeningPacked, AdmissionPacked, SteppingPacked, ReportingPacked, StartingPacked, CollectionPacked, RebuildingPacked}
use Rattle.recorder.specs.Packing.{packed}
use Rattle.history.specs.World.{World, Event, admit, step, report, collect, scan, start, rebuild, Outcome}
use Rattle.client.specs.Lent.{left}

-- a packed answer as it is read: the number in the low 16 bits, the first value in the next 16, the second in the rest
unfoldable pub unpacked : ℕ → Reply
unpacked p = record { number = p % 2 ^ 16; first = p / 2 ^ 16 % 2 ^ 16; second = p / 2 ^ 32 }

-- an opening's outcome that the contract of coppicetune_open allows, whatever old state stands where the new one goes
pub data OpenedByFunction (g : Geometry) (out : ℕ) (table : List Record) (work image : List ℕ) : Opening → Type 0 where
  opens : (old : State) (answer : ℕ) (state : State) (table' : List Record) → OpeningPacked (opening g out table work image) old answer state table'
      → OpenedByFunction g out table work image (record { reply = unpacked answer; state = state; table = table' })

-- an event's outcome that the contract of its function allows. A write is asked for by any number but 0
pub data ByFunctions (w : World) : Event → Outcome → Type 0 where
  admits : (write s mask : ℕ) (payload : List ℕ) (answer : ℕ) (table : List Record) (work : List ℕ)
      → AdmissionPacked (admission w.state w.table w.work w.image (not (eqb write 0)) s mask payload) answer table work
      → ByFunctions w (admit (not (eqb write 0)) s mask payload) (left (unpacked answer) w.state table work w.image [])
  steps : (i k answer : ℕ) (table : List Record) (work image : List ℕ)
      → SteppingPacked (stepping w.state w.table w.work w.image i k) answer table work image
      → ByFunctions w (step i k) (left (unpacked answer) w.state table work image [])
  reports : (c answer : ℕ) (state : State) → ReportingPacked (reporting w.state c) answer state
      → ByFunctions w (report c) (left (unpacked answer) state w.table w.work w.image [])
  collects : (i : ℕ) (result : List ℕ) (answer : ℕ) (table : List Record) (result' : List ℕ)
      → CollectionPacked (collection w.state w.table w.work i result) answer table result'
      → ByFunctions w (collect i result) (left (unpacked answer) w.state table w.work w.image result')
  checks : (answer : ℕ) → answer ≡ packed (scan_reply w.state w.table w.image)
      → ByFunctions w scan (left (unpacked answer) w.state w.table w.work w.image [])
  starts : (answer : ℕ) (state : State) → StartingPacked (starting w.state) answer state
      → ByFunctions w start (left (unpacked answer) state w.table w.work w.image [])
  rebuilds : (answer : ℕ) (state : State) (image : List ℕ) → RebuildingPacked (rebuilding w.state w.table w.image) answer state image
      → ByFunctions w rebuild (left (unpacked answer) state w.table w.work image [])
