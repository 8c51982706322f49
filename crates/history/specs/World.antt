-- What goes from call to call, the calls on it, and what comes of each: by the same definitions that the calls' contracts cite.
-- Assumes nothing.
use Rattle.std.specs.Prelude.{ℕ, Bool, List, [], get_or}
use Rattle.terms.specs.Reply.{Reply}
use Rattle.geometry.specs.declared.State.{State}
use Rattle.record.specs.Life.{free}
use Rattle.record.specs.declared.Record.{Record}
use Rattle.array.specs.Admission.{admission}
use Rattle.array.specs.Collection.{collection}
use Rattle.geometry.specs.Fill.{starting}
use Rattle.geometry.specs.Report.{reporting}
use Rattle.array.specs.Rebuilding.{rebuilding}
use Rattle.array.specs.Scan.{scan_reply}
use Rattle.array.specs.Stepping.{stepping}

-- the state, the table, the work store and the image
pub record World : Type 0 where
  pub state : State
  pub table : List Record
  pub work : List ℕ
  pub image : List ℕ

-- record i of the table
abbrev pub record_at : World → ℕ → Record
record_at w i = get_or w.table i free

-- the same world with another image
abbrev pub with_image : World → List ℕ → World
with_image w image = record { state = w.state; table = w.table; work = w.work; image = image }

-- a call with its arguments
pub data Event : Type 0 where
  -- write or not, the stripe, the unit mask, the payload
  admit : Bool → ℕ → ℕ → List ℕ → Event
  -- the record, the step number
  step : ℕ → ℕ → Event
  -- the card
  report : ℕ → Event
  -- the record, the result buffer as it is lent
  collect : ℕ → List ℕ → Event
  scan : Event
  -- the start of a fill, and a rebuild step
  start : Event
  rebuild : Event

-- what is answered, and the world and the result buffer that are left; no buffer is lent but to collect
pub record Outcome : Type 0 where
  pub reply : Reply
  pub world : World
  pub result : List ℕ

-- an engine: what it makes of each call in each world
abbrev pub Engine : Type 0
Engine = World → Event → Outcome

-- ours: what comes of a call
unfoldable pub play : Engine
play w (admit write s mask payload) =
    let a = admission w.state w.table w.work w.image write s mask payload in
    record {
      reply = a.reply;
      world = record { state = w.state; table = a.table; work = a.work; image = w.image };
      result = [];
    }
play w (step i k) =
    let a = stepping w.state w.table w.work w.image i k in
    record {
      reply = a.reply;
      world = record { state = w.state; table = a.table; work = a.work; image = a.image };
      result = [];
    }
play w (report c) =
    let a = reporting w.state c in
    record {
      reply = a.reply;
      world = record { state = a.state; table = w.table; work = w.work; image = w.image };
      result = [];
    }
play w (collect i result) =
    let a = collection w.state w.table w.work i result in
    record {
      reply = a.reply;
      world = record { state = w.state; table = a.table; work = w.work; image = w.image };
      result = a.result;
    }
play w scan = record { reply = scan_reply w.state w.table w.image; world = w; result = [] }
play w start =
    let a = starting w.state in
    record {
      reply = a.reply;
      world = record { state = a.state; table = w.table; work = w.work; image = w.image };
      result = [];
    }
play w rebuild =
    let a = rebuilding w.state w.table w.image in
    record {
      reply = a.reply;
      world = record { state = a.state; table = w.table; work = w.work; image = a.image };
      result = [];
    }
