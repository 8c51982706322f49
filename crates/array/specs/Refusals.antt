-- Document 01, "Refusal numbers": for each call, in the paper's order, the test and the number. 0: the call is accepted. A call on the table is
-- asked of a survey of it or, where it is about one record, of that record and a survey of the rest.
-- Assumes nothing.
use Rattle.std.specs.Prelude.{ℕ, Bool, cond, not, ◌&&◌, ◌||◌, List, [], ◌∷◌, ◌++◌, ltb, leb, eqb, length}
use Rattle.terms.specs.Reply.{Row, row, first_row}
use Rattle.geometry.specs.Limits.{none, no_fill, under_way, beyond, state_of}
use Rattle.geometry.specs.Store.{image_wrong, work_wrong}
use Rattle.geometry.specs.declared.Geometry.{Geometry}
use Rattle.geometry.specs.declared.State.{State}
use Rattle.graph.specs.Order.{ready}
use Rattle.parity.specs.Parity.{right_parity}
use Rattle.parity.specs.Scan.{nothing_held}
use Rattle.record.specs.Life.{is_open, is_finished, is_write, units_of, chosen_at}
use Rattle.record.specs.Sound.{legal_mask}
use Rattle.record.specs.Survey.{held_in, sound_with}
use Rattle.record.specs.declared.Record.{Record}
use Rattle.record.specs.declared.Survey.{Survey}
use Rattle.array.specs.Lent.{table_wrong, lent_rows, unit_bytes}

-- the state that an accepted opening makes of a geometry; no fill is under way
unfoldable pub opened : Geometry → ℕ → State
opened g out = state_of g out 0 no_fill

-- open, over a table of so many records: 1, 2 and 13
unfoldable pub open_refusal : Geometry → ℕ → ℕ → List ℕ → List ℕ → ℕ
open_refusal g out len work image =
    first_row
    (row (beyond g out) 1
    ∷ row (image_wrong (opened g out) image || table_wrong (opened g out) len || work_wrong (opened g out) work) 2
    ∷ row (eqb out none && not (right_parity g.cards g.stripes g.block image nothing_held)) 13
    ∷ [])

-- admit's payload is not m·B bytes for a write, 0 for a read
unfoldable pub payload_wrong : State → Bool → ℕ → List ℕ → Bool
payload_wrong st write mask payload = not (eqb (length payload) (cond write (unit_bytes st mask) 0))

-- admit: 1 to 9. No record is free where the lowest free one is none of the K
unfoldable pub admit_rows : State → Survey → Bool → ℕ → ℕ → List ℕ → List Row
admit_rows st v write s mask payload =
    row (leb st.stripes s) 5
    ∷ row (not (legal_mask (units_of st) mask)) 6
    ∷ row (payload_wrong st write mask payload) 7
    ∷ row (held_in v s) 8
    ∷ row (leb st.records v.free) 9
    ∷ []

unfoldable pub admit_refusal : State → Survey → List ℕ → List ℕ → Bool → ℕ → ℕ → List ℕ → ℕ
admit_refusal st v work image write s mask payload =
    first_row
    (lent_rows st (image_wrong st image || table_wrong st v.len || work_wrong st work) v.sound
    ++ admit_rows st v write s mask payload)

-- step k of record r is ready
unfoldable pub step_ready : State → Record → ℕ → Bool
step_ready st r k = ready (units_of st) r.graph r.mask (chosen_at st r) r.done k

-- step k of record i, which is r, by a survey of the rest of the table: 1 to 5, 10, 11
unfoldable pub step_rows : State → Record → ℕ → ℕ → List Row
step_rows st r i k = row (leb st.records i) 5 ∷ row (not (is_open r)) 10 ∷ row (not (step_ready st r k)) 11 ∷ []

unfoldable pub step_refusal : State → Survey → Record → List ℕ → List ℕ → ℕ → ℕ → ℕ
step_refusal st v r work image i k =
    first_row
    (lent_rows st (image_wrong st image || table_wrong st v.len || work_wrong st work) (sound_with st v r)
    ++ step_rows st r i k)

-- collect's result buffer is below m·B for a read
unfoldable pub result_short : State → Record → List ℕ → Bool
result_short st r result = not (is_write r) && ltb (length result) (unit_bytes st r.mask)

-- collect of record i, which is r, by a survey of the rest of the table: 1 to 5, 10, 7; it isn't lent the image
unfoldable pub collect_rows : State → Record → ℕ → List ℕ → List Row
collect_rows st r i result = row (leb st.records i) 5 ∷ row (not (is_finished r)) 10 ∷ row (result_short st r result) 7 ∷ []

unfoldable pub collect_refusal : State → Survey → Record → List ℕ → ℕ → List ℕ → ℕ
collect_refusal st v r work i result =
    first_row (lent_rows st (table_wrong st v.len || work_wrong st work) (sound_with st v r) ++ collect_rows st r i result)

-- scan: 1 to 4, 12, 13; it isn't lent the work store, and passes over the stripes that an open request holds
unfoldable pub scan_rows : State → Survey → List ℕ → List Row
scan_rows st v image =
    row (not (eqb st.out none)) 12
    ∷ row (not (right_parity st.cards st.stripes st.block image (held_in v))) 13
    ∷ []

unfoldable pub scan_refusal : State → Survey → List ℕ → ℕ
scan_refusal st v image = first_row (lent_rows st (image_wrong st image || table_wrong st v.len) v.sound ++ scan_rows st v image)

-- rebuild: 1 to 4, 8 where an open request holds the stripe at the fill place, 14 where no fill was begun; it isn't lent the work store
unfoldable pub rebuild_rows : State → Survey → List Row
rebuild_rows st v = row (held_in v st.fill) 8 ∷ row (not (under_way st)) 14 ∷ []

unfoldable pub rebuild_refusal : State → Survey → List ℕ → ℕ
rebuild_refusal st v image = first_row (lent_rows st (image_wrong st image || table_wrong st v.len) v.sound ++ rebuild_rows st v)
