-- The contracts allow something: whatever the world and the event, `play`'s outcome is one that the C functions' contracts allow. So the theorems
-- about all outcomes that they allow are about some, and by Plays about this one.
-- Assumes nothing.
use Prim.Native.Nat.{ℕ}
use mathlib.Core.Bool.{true, false, not}
use mathlib.Core.List.{List, []}
use mathlib.Core.Path.{refl, subst}
use lib.Dec.{eqb}
use Rattle.terms.specs.Reply.{Reply}
use Rattle.geometry.specs.Fill.{starting}
use Rattle.geometry.specs.Report.{reporting}
use Rattle.array.specs.Admission.{admission}
use Rattle.array.specs.Collection.{collection}
use Rattle.array.specs.Rebuilding.{rebuilding}
use Rattle.array.specs.Scan.{scan_reply}
use Rattle.array.specs.Stepping.{stepping}
use Rattle.recorder.proofs.Room.{admit_room, step_room, report_room, start_room, collect_room, scan_room, rebuild_room}
use Rattle.recorder.specs.Packing.{packed, Roomy}
use Rattle.history.specs.World.{World, Event, admit, step, report, collect, scan, start, rebuild, Outcome, play}
use Rattle.client.specs.Lent.{left}
use Rattle.client.specs.Packed.{unpacked, ByFunctions}
use Rattle.client.specs.Packed as function
use Rattle.client.specs.Run.{functions, Meets}
use Rattle.client.proofs.Plays.{read_back}

-- the packed reply is read as the reply
module _ {w : World} {e : Event} (made : Reply → Outcome) (r : Reply) (room : Roomy r) where
  read : ByFunctions w e (made (unpacked (packed r))) → ByFunctions w e (made r)
  read h = subst (λ (x : Reply). ByFunctions w e (made x)) (read_back r room) h

module _ (w : World) where
  -- a write is asked for by 1, a read by 0
  admits : (number s mask : ℕ) (payload : List ℕ) → ByFunctions w (admit (not (eqb number 0)) s mask payload) (play w (admit (not (eqb number 0)) s mask payload))
  unfolding play
  admits number s mask payload =
      let d = admission w.state w.table w.work w.image (not (eqb number 0)) s mask payload in
      read (λ r. left r w.state d.table d.work w.image []) d.reply (admit_room _ _ _ _ _ _ _ _)
      (function.admits number s mask payload _ _ _ (record { answered = refl; table_left = refl; work_left = refl }))

  meets : (e : Event) → ByFunctions w e (play w e)
  unfolding play
  meets (admit true s mask payload) = admits 1 s mask payload
  meets (admit false s mask payload) = admits 0 s mask payload
  meets (step i k) =
      let d = stepping w.state w.table w.work w.image i k in
      read (λ r. left r w.state d.table d.work d.image []) d.reply (step_room _ _ _ _ _ _)
      (function.steps i k _ _ _ _ (record { answered = refl; table_left = refl; work_left = refl; image_left = refl }))
  meets (report c) =
      let d = reporting w.state c in
      read (λ r. left r d.state w.table w.work w.image []) d.reply (report_room _ _)
      (function.reports c _ _ (record { answered = refl; state_left = refl }))
  meets (collect i result) =
      let d = collection w.state w.table w.work i result in
      read (λ r. left r w.state d.table w.work w.image d.result) d.reply (collect_room _ _ _ _ _)
      (function.collects i result _ _ _ (record { answered = refl; table_left = refl; result_left = refl }))
  meets scan =
      read (λ r. left r w.state w.table w.work w.image []) (scan_reply w.state w.table w.image) (scan_room _ _ _)
      (function.checks _ refl)
  meets start =
      let d = starting w.state in
      read (λ r. left r d.state w.table w.work w.image []) d.reply (start_room _)
      (function.starts _ _ (record { answered = refl; state_left = refl }))
  meets rebuild =
      let d = rebuilding w.state w.table w.image in
      read (λ r. left r d.state w.table w.work d.image []) d.reply (rebuild_room _ _ _)
      (function.rebuilds _ _ _ (record { answered = refl; state_left = refl; image_left = refl }))

pub functions_answer : Meets functions play
unfolding Meets
functions_answer = meets
