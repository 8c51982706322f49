-- Every answer of the functions has room in one packed number: a card and a record are below 8, a graph at most 6, a count at most 2n+3 and so 17, a
-- stripe at most 1,024, the one that a rebuild step filled below, a byte at most 512, and a block's number is below 7,168.
-- Assumes nothing.
use Prim.Native.Nat.{ℕ, ◌+◌, ◌-◌, ◌*◌, ◌≤◌}
use mathlib.Core.Bool.{Bool, true, false, cond, ◌&&◌, ◌||◌}
use mathlib.Core.List.{List}
use mathlib.Core.Path.{◌≡◌, refl}
use native.Mathlib.Omega.{arith}
use lib.Dec.{eqb, leb}
use lib.ListN.{get_or}
use borrow.Author.Tests.{eqb-true, ne_eqb, leb-true, not-false}
use Rattle.terms.specs.Lists.{every}
use Rattle.terms.specs.Reply.{Reply, accepted, refused, on_accept}
use Rattle.terms.proofs.Refusals.{Failed, giving, zero_failed, failed_first, failed_second}
use Rattle.terms.proofs.Rows.{and_right}
use Rattle.geometry.specs.Answers.{place_refusal, place_reply, block_at_refusal, block_at_reply}
use Rattle.geometry.specs.Limits.{beyond_state}
use Rattle.geometry.specs.Fill.{starting, start_rows, start_refusal}
use Rattle.geometry.specs.Placement.{stripe_of, card_of, block_of, position_of}
use Rattle.geometry.specs.Report.{reporting, state_rows, report_rows, report_refusal}
use Rattle.geometry.specs.Store.{work_wrong}
use Rattle.geometry.specs.declared.Geometry.{Geometry}
use Rattle.geometry.specs.declared.State.{State}
use Rattle.geometry.proofs.Bounds.{within_limits}
use Rattle.geometry.proofs.Inverse.{placed_small, held_small}
use Rattle.geometry.proofs.States.{state_bounds, state_filling}
use Rattle.graph.specs.Choice.{choose, choose_read, choose_write}
use Rattle.graph.specs.Steps.{step_of}
use Rattle.parity.specs.Scan.{idle_scan_reply, nothing_held}
use Rattle.parity.proofs.Small.{Small, first_row_le, disagreement_small, scan_small, idle_small}
use Rattle.record.specs.Life.{free, is_finished, is_write, units_of, missing_in, afresh}
use Rattle.record.specs.Sound.{sound_record, legal_record, legal_chosen, right_graph, right_steps, right_count, lacks_none}
use Rattle.record.specs.Survey.{survey_of, survey_but, held_in, sound_with}
use Rattle.record.specs.declared.Record.{Record}
use Rattle.record.specs.declared.Survey.{Survey}
use Rattle.array.specs.Admission.{admission_by, admission}
use Rattle.array.specs.Collection.{collection_by, collection}
use Rattle.array.specs.Lent.{table_wrong, lent_rows}
use Rattle.array.specs.Opening.{opening_by, opening}
use Rattle.array.specs.Rebuilding.{rebuilding_by, rebuilding}
use Rattle.array.proofs.Accepted.{own_sound}
use Rattle.array.specs.Refusals.{open_refusal, admit_rows, admit_refusal, step_rows, step_refusal, collect_rows, collect_refusal, scan_rows, scan_refusal, rebuild_rows, rebuild_refusal}
use Rattle.array.specs.Scan.{scan_reply_by, scan_reply}
use Rattle.array.specs.Stepping.{SteppingBy, stepping_by, stepping, accepting, meets_out}
use Rattle.array.proofs.Admissions.{admit_number, admit_passed}
use Rattle.array.proofs.Lent.{free_seen, passed_rows}
use Rattle.array.proofs.Rebuildings.{rebuild_number, rebuild_passed}
use Rattle.recorder.specs.Packing.{Roomy}

-- small values have room
roomy : (r : Reply) → Small r → Roomy r
roomy r s = record { number = omega (arith, s.number); first = omega (arith, s.first); second = omega (arith, s.second) }

-- a reply with a number, and a first value where it is accepted
module _ (n v : ℕ) (number : n ≤ 15) (value : n ≡ 0 → v ≤ 1024) where
  one_room : Roomy (on_accept n (accepted v 0) (refused n))
  one_room = go (eqb n 0) refl
    where
      go : (b : Bool) → eqb n 0 ≡ b → Roomy (cond b (accepted v 0) (refused n))
      go true e = record { number = omega arith; first = omega (arith, value (eqb-true n 0 e)); second = omega arith }
      go false e = record { number = omega (arith, number); first = omega arith; second = omega arith }

-- a card is below 8, a stripe below 1,024
pub place_room : (N S layout L : ℕ) → Roomy (place_reply N S layout L)
unfolding place_reply place_refusal every
place_room N S layout L = go (eqb (place_refusal N S layout L) 0) refl
  where
    go : (b : Bool) → eqb (place_refusal N S layout L) 0 ≡ b → Roomy (cond b (accepted (card_of N layout L) (stripe_of N L)) (refused (place_refusal N S layout L)))
    go true e =
        let small = placed_small N S layout L (card_of N layout L) (stripe_of N L) (rw e) in
        record { number = omega arith; first = omega (arith, small); second = omega (arith, small) }
    go false e =
        let number : place_refusal N S layout L ≤ 15 = first_row_le 15 _ refl in
        record { number = omega (arith, number); first = omega arith; second = omega arith }

-- and a block number below 7,168
pub block_at_room : (N S layout c s : ℕ) → Roomy (block_at_reply N S layout c s)
unfolding block_at_reply block_at_refusal every
block_at_room N S layout c s = go (eqb (block_at_refusal N S layout c s) 0) refl (eqb (position_of N layout s c) (N - 1)) refl
  where
    go : (b : Bool) → eqb (block_at_refusal N S layout c s) 0 ≡ b → (p : Bool) → eqb (position_of N layout s c) (N - 1) ≡ p
        → Roomy (cond b (cond p (accepted 1 0) (accepted 0 (block_of N s (position_of N layout s c)))) (refused (block_at_refusal N S layout c s)))
    go true e true f = record { number = omega arith; first = omega arith; second = omega arith }
    go true e false f =
        let small = held_small N S layout c s (block_of N s (position_of N layout s c)) (rw (e, f)) in
        record { number = omega arith; first = omega arith; second = omega (arith, small) }
    go false e p f =
        let number : block_at_refusal N S layout c s ≤ 15 = first_row_le 15 _ refl in
        record { number = omega (arith, number); first = omega arith; second = omega arith }

-- the table chooses a graph from 1 to 6
choose_le : (n : ℕ) (write : Bool) (mask x : ℕ) → choose n write mask x ≤ 6
unfolding choose choose_write choose_read every
choose_le n true mask x = first_row_le 6 _ refl
choose_le n false mask x = first_row_le 6 _ refl

-- a sound record that is finished counts at most 2n+3
finished_count : (st : State) (r : Record) → sound_record st r ≡ true → is_finished r ≡ true → r.count ≤ 2 * units_of st + 3
unfolding sound_record right_count
finished_count st r e f =
    let phase : r.phase ≡ 2 = eqb-true r.phase 2 f in
    let s : (legal_record st r && legal_chosen st r && right_graph st r && right_steps st r && right_count st r) ≡ true =
    rw (ne_eqb r.phase 0 (λ z. omega arith)) at e in
    let counted = and_right (legal_record st r && legal_chosen st r && right_graph st r && right_steps st r) (right_count st r) s in
    let most : (lacks_none st r && leb r.count (2 * units_of st + 3)) ≡ true = rw (ne_eqb r.phase 1 (λ z. omega arith), f) at counted in
    leb-true r.count (2 * units_of st + 3) (and_right (lacks_none st r) (leb r.count (2 * units_of st + 3)) most)

pub idle_room : (st : State) (image : List ℕ) → Roomy (idle_scan_reply st image)
idle_room st image = roomy _ (idle_small st image)

pub scan_room : (st : State) (table : List Record) (image : List ℕ) → Roomy (scan_reply st table image)
unfolding scan_reply scan_reply_by scan_refusal lent_rows scan_rows every
scan_room st table image =
    roomy _
    (scan_small (beyond_state st) _ _ refl
    (λ e.
    let limits = state_bounds st e in
    disagreement_small st.cards st.stripes st.block image (held_in (survey_of st table)) limits.stripes_high limits.block_high))

pub open_room : (g : Geometry) (out : ℕ) (table : List Record) (work image : List ℕ) → Roomy (opening g out table work image).reply
unfolding opening opening_by open_refusal every
open_room g out table work image =
    roomy _
    (scan_small _ _ _ refl
    (λ e.
    let limits = within_limits g out e in
    disagreement_small g.cards g.stripes g.block image nothing_held limits.stripes_high limits.block_high))

pub report_room : (st : State) (c : ℕ) → Roomy (reporting st c).reply
unfolding reporting report_refusal state_rows report_rows every
report_room st c = one_room (report_refusal st c) 0 (first_row_le 15 _ refl) (λ _. omega arith)

pub start_room : (st : State) → Roomy (starting st).reply
unfolding starting start_refusal state_rows start_rows every
start_room st = one_room (start_refusal st) 0 (first_row_le 15 _ refl) (λ _. omega arith)

pub admit_room : (st : State) (table : List Record) (work image : List ℕ) (write : Bool) (s mask : ℕ) (payload : List ℕ) → Roomy (admission st table work image write s mask payload).reply
unfolding admission admission_by admit_refusal lent_rows admit_rows every
admit_room st table work image write s mask payload =
    one_room (admit_number st table work image write s mask payload) _ (first_row_le 15 _ refl)
    (λ z.
    let a = admit_passed st table work image write s mask payload z in
    omega (arith, a.some_free, a.right.table_right, free_seen st table a.right.limits a.right.table_right, state_bounds st a.right.limits))

-- a done step answers 0, one that meets the card that is out the new graph
step_cases : (a b : Bool) (x y z : SteppingBy) → Small x.reply → Small y.reply → Small z.reply → Small (cond {A = SteppingBy} a (cond b x y) z).reply
step_cases true true x y z p q r = p
step_cases true false x y z p q r = q
step_cases false b x y z p q r = r

step_number_law : (st : State) (v : Survey) (r : Record) (work image : List ℕ) (i k : ℕ) → step_refusal st v r work image i k ≤ 13
unfolding step_refusal lent_rows step_rows every
step_number_law st v r work image i k = first_row_le 13 _ refl

pub step_room : (st : State) (table : List Record) (work image : List ℕ) (i k : ℕ) → Roomy (stepping st table work image i k).reply
unfolding stepping stepping_by accepting afresh
step_room st table work image i k =
    let r = get_or table i free in
    roomy _
    (step_cases (eqb (step_refusal st (survey_but st table i) r work image i k) 0) (meets_out (missing_in st r.stripe) (step_of (units_of st) k)) _ _ _
    (record { number = omega arith; first = omega (arith, choose_le (units_of st) (is_write r) r.mask (missing_in st r.stripe)); second = omega arith })
    (record { number = omega arith; first = omega arith; second = omega arith })
    (record { number = step_number_law st (survey_but st table i) r work image i k; first = omega arith; second = omega arith }))

-- the record that an accepted collect takes is sound, and counts at most 2n+3
module _ (st : State) (v : Survey) (r : Record) (work : List ℕ) (i : ℕ) (result : List ℕ) where
  collect_number_law : collect_refusal st v r work i result ≤ 15
  unfolding collect_refusal lent_rows collect_rows every
  collect_number_law = first_row_le 15 _ refl

  collected_count : collect_refusal st v r work i result ≡ 0 → r.count ≤ 17
  unfolding collect_refusal giving every lent_rows collect_rows Failed
  collected_count z =
      let failed = zero_failed _ refl z in
      let a = passed_rows st _ _ (failed_first (lent_rows st (table_wrong st v.len || work_wrong st work) (sound_with st v r)) (collect_rows st r i result) failed) in
      let own = failed_second (lent_rows st (table_wrong st v.len || work_wrong st work) (sound_with st v r)) (collect_rows st r i result) failed in
      let count = finished_count st r (own_sound st v r a.is_fine) (not-false _ own.1.0) in
      omega (arith, count, state_bounds st a.limits)

pub collect_room : (st : State) (table : List Record) (work : List ℕ) (i : ℕ) (result : List ℕ) → Roomy (collection st table work i result).reply
unfolding collection collection_by
collect_room st table work i result =
    let r = get_or table i free in
    one_room (collect_refusal st (survey_but st table i) r work i result) _ (collect_number_law st (survey_but st table i) r work i result)
    (λ z. omega (arith, collected_count st (survey_but st table i) r work i result z))

-- the stripe that an accepted rebuild step filled is one of the array's
pub rebuild_room : (st : State) (table : List Record) (image : List ℕ) → Roomy (rebuilding st table image).reply
unfolding rebuilding rebuilding_by rebuild_refusal lent_rows rebuild_rows every
rebuild_room st table image =
    one_room (rebuild_number st table image) st.fill (first_row_le 15 _ refl)
    (λ z.
    let a = rebuild_passed st table image z in
    omega (arith, state_filling st a.lent.limits a.way, state_bounds st a.lent.limits))
