-- An outcome that a contract allows is the one that `play` gives: of the lent calls, and of the C functions once the answer is read.
-- Assumes nothing.
use Prim.Native.Nat.{ℕ}
use mathlib.Core.List.{List}
use mathlib.Core.Path.{◌≡◌, refl, sym, ap, ◌∙◌}
use Rattle.terms.specs.Reply.{Reply}
use Rattle.geometry.specs.declared.Geometry.{Geometry}
use Rattle.geometry.specs.declared.State.{State}
use Rattle.record.specs.declared.Record.{Record}
use Rattle.array.specs.Opening.{Opening, opening}
use Rattle.recorder.proofs.Room.{open_room, admit_room, step_room, report_room, start_room, collect_room, scan_room, rebuild_room}
use Rattle.recorder.proofs.Unpacking.{unpacked as unpacks}
use Rattle.recorder.specs.Packing.{packed, Roomy}
use Rattle.history.specs.World.{World, Event, Outcome, play}
use Rattle.client.specs.Lent.{left, OpenedByCall, ByCalls}
use Rattle.client.specs.Lent as call
use Rattle.client.specs.Packed.{unpacked, OpenedByFunction, ByFunctions}
use Rattle.client.specs.Packed as function

-- an answer that has room is read as it was packed
pub read_back : (r : Reply) → Roomy r → unpacked (packed r) ≡ r
unfolding unpacked
read_back r room =
    let u = unpacks r room.number room.first in
    let made : ℕ → ℕ → ℕ → Reply = λ n f s. record { number = n; first = f; second = s } in
    three made u.number u.first u.second
  where
    three : (made : ℕ → ℕ → ℕ → Reply) {n n' f f' s s' : ℕ} → n ≡ n' → f ≡ f' → s ≡ s' → made n f s ≡ made n' f' s'
    three made p q t = cc

-- outcomes are equal by their parts
module _ {r r' : Reply} {s s' : State} {t t' : List Record} {v v' m m' b b' : List ℕ} (made : Reply → State → List Record → List ℕ → List ℕ → List ℕ → Outcome) where
  parts : r ≡ r' → s ≡ s' → t ≡ t' → v ≡ v' → m ≡ m' → b ≡ b' → made r s t v m b ≡ made r' s' t' v' m' b'
  parts e f g h k l = cc

pub call_plays : {w : World} {e : Event} {o : Outcome} → ByCalls w e o → o ≡ play w e
unfolding play
call_plays (call.admits write s mask payload answer table work h) = parts left h.reply refl h.table_left h.work_left refl refl
call_plays (call.steps i k answer table work image h) = parts left h.reply refl h.table_left h.work_left h.image_left refl
call_plays (call.reports c answer state h) = parts left h.reply h.state_left refl refl refl refl
call_plays (call.collects i result answer table result' h) = parts left h.reply refl h.table_left refl refl h.result_left
call_plays (call.scans answer h) = parts left h refl refl refl refl refl
call_plays (call.starts answer state h) = parts left h.reply h.state_left refl refl refl refl
call_plays (call.rebuilds answer state image h) = parts left h.reply h.state_left refl refl h.image_left refl

-- an answer that is packed is read as the reply
module _ {r : Reply} {answer : ℕ} (room : Roomy r) where
  read : answer ≡ packed r → unpacked answer ≡ r
  read e = ap unpacked e ∙ read_back r room

pub function_plays : {w : World} {e : Event} {o : Outcome} → ByFunctions w e o → o ≡ play w e
unfolding play
function_plays (function.admits write s mask payload answer table work h) =
    parts left (read (admit_room _ _ _ _ _ _ _ _) h.answered) refl h.table_left h.work_left refl refl
function_plays (function.steps i k answer table work image h) =
    parts left (read (step_room _ _ _ _ _ _) h.answered) refl h.table_left h.work_left h.image_left refl
function_plays (function.reports c answer state h) = parts left (read (report_room _ _) h.answered) h.state_left refl refl refl refl
function_plays (function.collects i result answer table result' h) =
    parts left (read (collect_room _ _ _ _ _) h.answered) refl h.table_left refl refl h.result_left
function_plays (function.checks answer h) = parts left (read (scan_room _ _ _) h) refl refl refl refl refl
function_plays (function.starts answer state h) = parts left (read (start_room _) h.answered) h.state_left refl refl refl refl
function_plays (function.rebuilds answer state image h) =
    parts left (read (rebuild_room _ _ _) h.answered) h.state_left refl refl h.image_left refl

-- ---- the opening

module _ {r r' : Reply} {s s' : State} {t t' : List Record} (made : Reply → State → List Record → Opening) where
  opening_parts : r ≡ r' → s ≡ s' → t ≡ t' → made r s t ≡ made r' s' t'
  opening_parts e f g = cc

module _ {g : Geometry} {out : ℕ} {table : List Record} {work image : List ℕ} where
  pub call_opens : {o : Opening} → OpenedByCall g out table work image o → o.reply.number ≡ 0 → o ≡ opening g out table work image
  call_opens (call.opens answer table' h) ok =
      opening_parts (λ r s t. record { reply = r; state = s; table = t }) h.reply h.new_state h.table_left

  pub function_opens : {o : Opening} → OpenedByFunction g out table work image o → o.reply.number ≡ 0 → o ≡ opening g out table work image
  function_opens (function.opens old answer state table' h) ok =
      let same : unpacked answer ≡ (opening g out table work image).reply = read (open_room _ _ _ _ _) h.answered in
      let number : (opening g out table work image).reply.number ≡ 0 = ap (λ (r : Reply). r.number) (sym same) ∙ ok in
      opening_parts (λ r s t. record { reply = r; state = s; table = t }) same (h.state_left ∙ rw number) h.table_left
