-- What an accepted call by a survey rests on: the premises of what it then does.
-- Assumes nothing.
use Prim.Native.Nat.{ℕ, ◌^◌, ◌<◌}
use mathlib.Core.Bool.{Bool, true, false, not, ◌&&◌, ◌||◌}
use mathlib.Core.List.{List, [], ◌++◌}
use mathlib.Core.Path.{◌≡◌, refl, sym, ap, ◌∙◌}
use native.Mathlib.Omega.{arith}
use borrow.Author.Tests.{le-leb, leb-false, eqb-true, ltb-true, ltb-false, not-false}
use lib.Dec.{ltb, eqb}
use lib.ListN.{length}
use Rattle.terms.specs.Lists.{every}
use Rattle.terms.specs.Reply.{Reply, accepted, refused, first_row}
use Rattle.terms.proofs.Refusals.{Failed, giving, zero_failed, failed_first, failed_second}
use Rattle.terms.proofs.Rows.{and_left, and_right, or_false_left, or_false_right}
use Rattle.geometry.specs.Limits.{beyond_state}
use Rattle.geometry.specs.Store.{legal_state, image_wrong, work_wrong}
use Rattle.geometry.specs.declared.State.{State}
use Rattle.geometry.proofs.Bounds.{legal_bounds, bounds_legal}
use Rattle.geometry.proofs.Lengths.{image_length, work_length}
use Rattle.geometry.proofs.States.{state_bounds}
use Rattle.graph.specs.Asked.{few_units, step_set, ready_by}
use Rattle.graph.specs.Steps.{Step, step_of}
use Rattle.graph.proofs.Forerunners.{ready_of}
use Rattle.graph.specs.Sums.{sums_to_read}
use Rattle.record.specs.Asked.{few_in, sound_record_in}
use Rattle.record.specs.Life.{is_open, is_finished, is_write, units_of, chosen_at, missing_in, stepped, afresh}
use Rattle.record.specs.Look.{look_of, found, after_step, after_choice}
use Rattle.record.specs.declared.Look.{Look}
use Rattle.record.specs.Sound.{sound_record, legal_mask, right_graph}
use Rattle.record.specs.Survey.{sound_with}
use Rattle.record.specs.declared.Record.{Record}
use Rattle.record.specs.declared.Survey.{Survey}
use Rattle.record.proofs.Looks.{look_sound, look_found, after_step_is, after_choice_is}
use Rattle.record.proofs.Clauses.{fit, open_not_free, finished_not_free}
use Rattle.array.specs.Lent.{table_wrong, lent_rows, unit_bytes}
use Rattle.array.specs.Premises.{Keeping, Lengths, Standing, read_by}
use Rattle.array.specs.Refusals.{admit_refusal, admit_rows, step_refusal, step_rows, collect_refusal, collect_rows, payload_wrong, result_short, step_ready}
use Rattle.array.proofs.Choices.{choose_two, choose_some}
use Rattle.array.proofs.Lent.{passed_rows}
use Rattle.array.proofs.LentRows.{lent_sound}

-- an accepted answer's number
pub number_0 : (n : ℕ) → accepted 0 0 ≡ refused n → n ≡ 0
number_0 n e = sym (ap (λ (p : Reply). p.number) e)

pub few_legal : (st : State) → legal_state st ≡ true → few_in st ≡ true
unfolding few_units
few_legal st l = le-leb (units_of st) 7 (omega (arith, legal_bounds _ _ _ _ l))

module _ (st : State) (b : beyond_state st ≡ false) where
  pub legal_state_law : legal_state st ≡ true
  legal_state_law = bounds_legal _ _ _ _ (state_bounds st b)

  pub few_units_law : few_in st ≡ true
  few_units_law = few_legal st legal_state_law

-- whether a record is sound, as the code asks
pub sound_within : (st : State) (r : Record) → beyond_state st ≡ false → sound_record_in st r ≡ sound_record st r
unfolding sound_record_in
sound_within st r b = rw (few_units_law st b)

-- a mask that is legal has units only
pub mask_below : (n mask : ℕ) → legal_mask n mask ≡ true → mask < 2 ^ n
unfolding legal_mask
mask_below n mask e = ltb-true mask (2 ^ n) (and_right (not (eqb mask 0)) (ltb mask (2 ^ n)) e)

-- X of a sound record whose exclusive or is of X is one of the stripe's positions
chosen_below : (st : State) (r : Record) → legal_state st ≡ true → sound_record st r ≡ true → is_open r ≡ true → sums_to_read r.graph ≡ true
    → chosen_at st r < st.cards
unfolding sums_to_read right_graph
chosen_below st r l s o g =
    let a = eqb-true r.graph _ (fit st r s (open_not_free r o)).right_graph_law in
    let x = choose_two (units_of st) (is_write r) r.mask (chosen_at st r) (sym a ∙ eqb-true r.graph 2 g) in
    omega arith

-- what a look at a sound record that is open finds
module _ (st : State) (r : Record) (look : Look) (is : look ≡ look_of st r) (b : beyond_state st ≡ false) (s : sound_record st r ≡ true) (o : is_open r ≡ true) where
  is_found : look ≡ found st r (missing_in st r.stripe)
  is_found = is ∙ look_found st r (sound_within st r b ∙ s) (open_not_free r o)

  x_found : look.x ≡ chosen_at st r
  unfolding found
  x_found = ap (λ (l : Look). l.x) is_found

  out_found : look.out ≡ missing_in st r.stripe
  unfolding found
  out_found = ap (λ (l : Look). l.out) is_found

  steps_found : look.steps ≡ step_set (units_of st) r.graph r.mask (chosen_at st r)
  unfolding found
  steps_found = ap (λ (l : Look). l.steps) is_found

  reads_found : look.reads ≡ read_by st r
  unfolding found
  reads_found = ap (λ (l : Look). l.reads) is_found

  pub look_ready : (k : ℕ) (t : Step) → t ≡ step_of (units_of st) k
      → (few_in st && ready_by (units_of st) r.graph look.steps look.reads r.done k t) ≡ step_ready st r k
  unfolding step_ready
  look_ready k t e =
      rw (few_units_law st b) (ready_of (units_of st) r.graph r.mask (chosen_at st r) r.done k look.steps look.reads t steps_found reads_found e)

-- a table that is sound by a survey of the rest and a record has a sound record
pub own_sound : (st : State) (v : Survey) (r : Record) → sound_with st v r ≡ true → sound_record st r ≡ true
unfolding sound_with
own_sound st v r e = and_right v.sound (sound_record st r) (and_left (v.sound && sound_record st r) _ e)

-- a look tells whether its record is sound, and where rows 1 to 4 let a call pass it is
pub looked_sound : (st : State) (r : Record) (look : Look) → look ≡ look_of st r → look.sound ≡ sound_record_in st r
looked_sound st r look is = ap (λ (l : Look). l.sound) is ∙ look_sound st r

pub passed_sound : (st : State) (wrong : Bool) (v : Survey) (r : Record) → accepted 0 0 ≡ refused (first_row (lent_rows st wrong (sound_with st v r)))
    → sound_record st r ≡ true
passed_sound st wrong v r e = own_sound st v r (lent_sound st wrong (sound_with st v r) [] e)

pub ruleset looked = (looked_sound, passed_sound, look_ready)

module _ (st : State) (v : Survey) (r : Record) (work image : List ℕ) (i k : ℕ) where
  -- an accepted step, by what a look at the record finds: it can be done, and the record after it is the paper's
  pub record Stepped (look : Look) : Type 0 where
    pub standing : Standing st work image i r
    pub x_is : look.x ≡ chosen_at st r
    pub out_is : look.out ≡ missing_in st r.stripe
    pub reads_are : look.reads ≡ read_by st r
    pub done : after_step r k look.steps ≡ stepped st r k
    pub afresh : after_choice st r look.out ≡ afresh st r

  pub step_accepted : (look : Look) → look ≡ look_of st r → step_refusal st v r work image i k ≡ 0 → Stepped look
  unfolding step_refusal step_ready step_rows lent_rows giving every Failed
  step_accepted look is e =
      let iw = image_wrong st image in
      let tw = table_wrong st v.len in
      let ww = work_wrong st work in
      let f : Failed (lent_rows st (iw || tw || ww) (sound_with st v r) ++ step_rows st r i k) =
      zero_failed (lent_rows st (iw || tw || ww) (sound_with st v r) ++ step_rows st r i k) refl e in
      let p = passed_rows st (iw || tw || ww) (sound_with st v r) (failed_first (lent_rows st (iw || tw || ww) (sound_with st v r)) (step_rows st r i k) f) in
      let own = failed_second (lent_rows st (iw || tw || ww) (sound_with st v r)) (step_rows st r i k) f in
      let o = not-false (is_open r) own.1.0 in
      let sound = own_sound st v r p.is_fine in
      let few = few_units_law st p.limits in
      record {
        standing =
            record {
              limits = legal_state_law st p.limits;
              record_below = leb-false st.records i own.0;
              stripe_below = (fit st r sound (open_not_free r o)).stripe_below;
              work_right = work_length st work (or_false_right (iw || tw) ww p.lengths);
              image_right = image_length st image (or_false_left iw tw (or_false_left (iw || tw) ww p.lengths));
              x_below = chosen_below st r (legal_state_law st p.limits) sound o;
            };
        x_is = x_found st r look is p.limits sound o;
        out_is = out_found st r look is p.limits sound o;
        reads_are = reads_found st r look is p.limits sound o;
        done = after_step_is st r sound o few k look.steps (steps_found st r look is p.limits sound o) (not-false _ own.1.1.0);
        afresh = after_choice_is st r sound o few look.out (out_found st r look is p.limits sound o);
      }

-- a fresh choice names a graph
pub afresh_some : (st : State) (r : Record) → ¬ ((afresh st r).graph ≡ 0)
unfolding afresh
afresh_some st r = choose_some _ _ _ _

-- the units of a mask can be moved, of record i
pub record Movable (st : State) (i mask : ℕ) (units work : List ℕ) : Type 0 where
  pub below : i < st.records
  pub keeping : Keeping st mask units work

-- an accepted collect of a read: its units can be handed over
pub collect_accepted : (st : State) (v : Survey) (r : Record) (work : List ℕ) (i : ℕ) (result : List ℕ) → collect_refusal st v r work i result ≡ 0
    → is_write r ≡ false → Movable st i r.mask result work
unfolding collect_refusal result_short collect_rows lent_rows giving every Failed
collect_accepted st v r work i result e reads =
    let tw = table_wrong st v.len in
    let ww = work_wrong st work in
    let f : Failed (lent_rows st (tw || ww) (sound_with st v r) ++ collect_rows st r i result) =
    zero_failed (lent_rows st (tw || ww) (sound_with st v r) ++ collect_rows st r i result) refl e in
    let p = passed_rows st (tw || ww) (sound_with st v r) (failed_first (lent_rows st (tw || ww) (sound_with st v r)) (collect_rows st r i result) f) in
    let own = failed_second (lent_rows st (tw || ww) (sound_with st v r)) (collect_rows st r i result) f in
    let sound = own_sound st v r p.is_fine in
    record {
      below = leb-false st.records i own.0;
      keeping =
          record {
            units_only = mask_below (units_of st) r.mask (fit st r sound (finished_not_free r (not-false (is_finished r) own.1.0))).mask_legal;
            work_right = work_length st work (or_false_right tw ww p.lengths);
            room = ltb-false (length result) (unit_bytes st r.mask) (rw reads at own.1.1.0);
          };
    }

-- an accepted admission of a write: its units can be kept
pub admit_accepted : (st : State) (v : Survey) (work image : List ℕ) (write : Bool) (s mask : ℕ) (payload : List ℕ)
    → admit_refusal st v work image write s mask payload ≡ 0 → write ≡ true → Movable st v.free mask payload work
unfolding admit_refusal payload_wrong admit_rows lent_rows giving every Failed
admit_accepted st v work image write s mask payload e w =
    let iw = image_wrong st image in
    let tw = table_wrong st v.len in
    let ww = work_wrong st work in
    let f : Failed (lent_rows st (iw || tw || ww) v.sound ++ admit_rows st v write s mask payload) =
    zero_failed (lent_rows st (iw || tw || ww) v.sound ++ admit_rows st v write s mask payload) refl e in
    let p = passed_rows st (iw || tw || ww) v.sound (failed_first (lent_rows st (iw || tw || ww) v.sound) (admit_rows st v write s mask payload) f) in
    let own = failed_second (lent_rows st (iw || tw || ww) v.sound) (admit_rows st v write s mask payload) f in
    let long : not (eqb (length payload) (unit_bytes st mask)) ≡ false = rw w at own.1.1.0 in
    record {
      below = leb-false st.records v.free own.1.1.1.1.0;
      keeping =
          record {
            units_only = mask_below (units_of st) mask (not-false _ own.1.0);
            work_right = work_length st work (or_false_right (iw || tw) ww p.lengths);
            room = omega (arith, eqb-true (length payload) (unit_bytes st mask) (not-false _ long));
          };
    }

-- what the code's own values rest on there
module _ (st : State) (v : Survey) (r : Record) (work : List ℕ) (i : ℕ) (result : List ℕ) (z : accepted 0 0 ≡ refused (collect_refusal st v r work i result)) (reads : is_write r ≡ false) where
  pub collect_below : i < st.records
  collect_below = (collect_accepted st v r work i result (number_0 _ z) reads).below

  pub collect_keeping : Keeping st r.mask result work
  collect_keeping = (collect_accepted st v r work i result (number_0 _ z) reads).keeping

pub ruleset collect_rests = (collect_below, collect_keeping)

module _ (st : State) (v : Survey) (work image : List ℕ) (write : Bool) (s mask : ℕ) (payload : List ℕ) (z : accepted 0 0 ≡ refused (admit_refusal st v work image write s mask payload)) (writes : write ≡ true) where
  pub admit_below : v.free < st.records
  admit_below = (admit_accepted st v work image write s mask payload (number_0 _ z) writes).below

  pub admit_keeping : Keeping st mask payload work
  admit_keeping = (admit_accepted st v work image write s mask payload (number_0 _ z) writes).keeping

pub ruleset admit_rests = (admit_below, admit_keeping)

module _ (st : State) (v : Survey) (r : Record) (work image : List ℕ) (i k : ℕ) (look : Look) (is : look ≡ look_of st r) (z : accepted 0 0 ≡ refused (step_refusal st v r work image i k)) where
  stepping : Stepped st v r work image i k look
  stepping = step_accepted st v r work image i k look is (number_0 _ z)

  pub step_below : i < st.records
  step_below = stepping.standing.record_below

  pub step_stripe : r.stripe < st.stripes
  step_stripe = stepping.standing.stripe_below

  pub step_x : look.x ≡ chosen_at st r
  step_x = stepping.x_is

  pub step_reads : look.reads ≡ read_by st r
  step_reads = stepping.reads_are

  pub step_x_below : sums_to_read r.graph ≡ true → look.x < st.cards
  step_x_below e = rw stepping.x_is (stepping.standing.x_below e)

  pub step_lengths : Lengths st work image
  step_lengths = record { work_right = stepping.standing.work_right; image_right = stepping.standing.image_right }

  pub step_out : look.out ≡ missing_in st r.stripe
  step_out = stepping.out_is

  pub step_done : after_step r k look.steps ≡ stepped st r k
  step_done = stepping.done

  pub step_afresh : after_choice st r look.out ≡ afresh st r
  step_afresh = stepping.afresh

pub ruleset step_rests = (step_below, step_stripe, step_x, step_reads, step_x_below, step_out, step_done, step_afresh)
