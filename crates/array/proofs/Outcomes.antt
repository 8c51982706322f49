-- What the calls hand back: refused, with nothing changed, and accepted.
-- Assumes nothing.
use Prim.Native.Nat.{ℕ}
use mathlib.Core.Bool.{Bool, true, false}
use mathlib.Core.List.{List}
use mathlib.Core.Path.{◌≡◌, refl, sym, ap, ◌∙◌}
use lib.Dec.{eqb}
use borrow.Author.Tests.{eq-eqb, ne_eqb}
use Rattle.std.specs.Prelude.{Ok, Err}
use Rattle.terms.specs.Reply.{Reply, accepted, refused, refusal_reply}
use Rattle.terms.specs.declared.refusal.Refusal.{Refusal}
use Rattle.terms.proofs.Answers.{number_not_0}
use Rattle.geometry.specs.declared.Geometry.{Geometry}
use Rattle.geometry.specs.declared.State.{State}
use Rattle.graph.specs.Steps.{Step, step_of}
use Rattle.parity.specs.Rest.{restored, restored_in}
use Rattle.record.specs.Life.{free, units_of, missing_in, stepped, afresh}
use Rattle.record.specs.declared.Record.{Record}
use Rattle.record.specs.declared.Survey.{Survey}
use Rattle.array.specs.Admission.{admission_by}
use Rattle.array.specs.Answers.{stepped_of}
use Rattle.array.specs.Collection.{collection_by}
use Rattle.array.specs.Opening.{opening_by}
use Rattle.array.specs.Outcomes.{OpeningIs, AdmissionIs, SteppingIs, CollectionIs, RebuildingSaid, opened_state}
use Rattle.array.specs.Rebuilding.{rebuilding_by}
use Rattle.array.specs.Refusals.{open_refusal, admit_refusal, step_refusal, collect_refusal, rebuild_refusal}
use Rattle.array.specs.Stepping.{stepping_by, accepting, meets_out, work_after, image_after}
use Rattle.array.specs.declared.answers.Stepped.{Stepped}
use Rattle.array.proofs.Accepted.{number_0, afresh_some}
use Rattle.array.proofs.Rebuildings.{rebuild_passed_by, filled_restored}

-- the number that a refusal gives is not 0
refused_number : (number : ℕ) (e : Refusal) → refusal_reply e ≡ refused number → eqb number 0 ≡ false
refused_number number e h = ap (λ (p : Reply). eqb p.number 0) (sym h) ∙ number_not_0 e

module _ (g : Geometry) (out len : ℕ) (work image : List ℕ) where
  -- refused by a number that has no values
  pub opening_refused : (e : Refusal) → refusal_reply e ≡ refused (open_refusal g out len work image) → ¬ (open_refusal g out len work image ≡ 13)
      → OpeningIs (opening_by g out len work image) (Err e)
  unfolding opening_by opened_state
  opening_refused e h n =
      let no : eqb (open_refusal g out len work image) 0 ≡ false = refused_number _ e h in
      let no_values : eqb (open_refusal g out len work image) 13 ≡ false = ne_eqb _ 13 n in
      record { reply = h ∙ sym (simp (no, no_values)); state = sym (rw no) }

module _ (st : State) (v : Survey) (work image : List ℕ) (write : Bool) (s mask : ℕ) (payload : List ℕ) where
  pub admission_refused : (e : Refusal) → refusal_reply e ≡ refused (admit_refusal st v work image write s mask payload)
      → AdmissionIs (admission_by st v work image write s mask payload) (Err e) work
  unfolding admission_by
  admission_refused e h =
      let no : eqb (admit_refusal st v work image write s mask payload) 0 ≡ false = refused_number _ e h in
      record { reply = h ∙ sym (rw no); changed = tt; work_left = sym (rw no) }

  -- and puts nothing into the table: its place is the table's length, where nothing stands
  pub admission_nowhere : (e : Refusal) → refusal_reply e ≡ refused (admit_refusal st v work image write s mask payload)
      → ((admission_by st v work image write s mask payload).place ≡ v.len) × ((admission_by st v work image write s mask payload).stands ≡ free)
  unfolding admission_by
  admission_nowhere e h =
      let no : eqb (admit_refusal st v work image write s mask payload) 0 ≡ false = refused_number _ e h in
      (rw no, rw no)

module _ (st : State) (v : Survey) (r : Record) (work : List ℕ) (i : ℕ) (result : List ℕ) where
  pub collection_refused : (e : Refusal) → refusal_reply e ≡ refused (collect_refusal st v r work i result)
      → CollectionIs (collection_by st v r work i result) (Err e) result
  unfolding collection_by
  collection_refused e h =
      let no : eqb (collect_refusal st v r work i result) 0 ≡ false = refused_number _ e h in
      record { reply = h ∙ sym (rw no); changed = tt; result_left = sym (rw no) }

  pub collection_nowhere : (e : Refusal) → refusal_reply e ≡ refused (collect_refusal st v r work i result)
      → ((collection_by st v r work i result).place ≡ v.len) × ((collection_by st v r work i result).stands ≡ free)
  unfolding collection_by
  collection_nowhere e h =
      let no : eqb (collect_refusal st v r work i result) 0 ≡ false = refused_number _ e h in
      (rw no, refl)

module _ (st : State) (v : Survey) (image : List ℕ) where
  pub rebuilding_refused : (e : Refusal) → refusal_reply e ≡ refused (rebuild_refusal st v image)
      → RebuildingSaid (rebuilding_by st v image) st image (Err e)
  unfolding rebuilding_by
  rebuilding_refused e h =
      let no : eqb (rebuild_refusal st v image) 0 ≡ false = refused_number _ e h in
      record { reply = h ∙ sym (rw no); state_left = sym (rw no); image_left = sym (rw no) }

module _ (st : State) (v : Survey) (r : Record) (work image : List ℕ) (i k : ℕ) where
  abbrev number : ℕ
  number = step_refusal st v r work image i k

  pub stepping_refused : (e : Refusal) → refusal_reply e ≡ refused number → SteppingIs (stepping_by st v r work image i k) (Err e) work image
  unfolding stepping_by
  stepping_refused e h =
      let no : eqb number 0 ≡ false = refused_number number e h in
      record {
        reply = h ∙ sym (rw no);
        answered = tt;
        changed = tt;
        work_left = sym (rw no);
        image_left = sym (rw no);
      }

  pub stepping_nowhere : (e : Refusal) → refusal_reply e ≡ refused number
      → ((stepping_by st v r work image i k).place ≡ v.len) × ((stepping_by st v r work image i k).stands ≡ free)
  unfolding stepping_by
  stepping_nowhere e h =
      let no : eqb number 0 ≡ false = refused_number number e h in
      (rw no, rw no)

  -- an accepted step, s
  module _ (z : accepted 0 0 ≡ refused number) (s : Step) (t : s ≡ step_of (units_of st) k) where
    accept : eqb number 0 ≡ true
    accept = eq-eqb number 0 (number_0 number z)

    meets : (b : Bool) → meets_out (missing_in st r.stripe) s ≡ b → meets_out (missing_in st r.stripe) (step_of (units_of st) k) ≡ b
    meets b h = ap (meets_out (missing_in st r.stripe)) (sym t) ∙ h

    -- its card is out
    pub stepping_afresh : (new : Record) → meets_out (missing_in st r.stripe) s ≡ true → new ≡ afresh st r
        → SteppingIs (stepping_by st v r work image i k)
        (Ok (record { answer = Stepped.Chosen new.graph; place = i; «record» = new })) work image
    unfolding stepping_by accepting stepped_of
    stepping_afresh new h q =
        let out = meets true h in
        let none_named : eqb (afresh st r).graph 0 ≡ false = ne_eqb _ 0 (afresh_some st r) in
        record {
          reply = simp (accept, out) (ap (λ (a : Record). accepted a.graph 0) q);
          answered = simp (accept, out, none_named) (ap (λ (a : Record). Stepped.Chosen a.graph) q);
          changed = simp (accept, out) (refl, q);
          work_left = simp (accept, out);
          image_left = simp (accept, out);
        }

    -- its card works
    pub stepping_done : (new : Record) (w m : List ℕ) → meets_out (missing_in st r.stripe) s ≡ false → new ≡ stepped st r k
        → w ≡ work_after st i r s work image → m ≡ image_after st i r s work image
        → SteppingIs (stepping_by st v r work image i k) (Ok (record { answer = Stepped.Done; place = i; «record» = new })) w m
    unfolding stepping_by accepting stepped_of
    stepping_done new w m h q hw hm =
        let works = meets false h in
        record {
          reply = simp (accept, works);
          answered = simp (accept, works);
          changed = simp (accept, works) (refl, q);
          work_left = simp (accept, works) (hw ∙ ap (λ (u : Step). work_after st i r u work image) t);
          image_left = simp (accept, works) (hm ∙ ap (λ (u : Step). image_after st i r u work image) t);
        }

pub ruleset step_outcomes = (stepping_refused, stepping_afresh, stepping_done)

-- an accepted rebuild step's block is in the image, so that whoever tests that restores it
pub rebuilding_filled : (st : State) (v : Survey) (image : List ℕ) → accepted 0 0 ≡ refused (rebuild_refusal st v image)
    → restored_in st image st.out st.fill ≡ restored st image st.out st.fill
rebuilding_filled st v image z = filled_restored st v image (rebuild_passed_by st v image (number_0 _ z))
