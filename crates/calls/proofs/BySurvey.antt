-- A call that is given a survey of a lent table, or of the rest of it and the record at i, or its length, does what the lent call does of that
-- table: an accepted one puts the changed record in its place, and a refused one leaves the table.
-- Assumes nothing.
use Prim.Native.Nat.{ℕ}
use mathlib.Core.Bool.{Bool, cond}
use mathlib.Core.List.{List}
use mathlib.Core.Path.{◌≡◌, sym, ap, ap₂, ◌∙◌}
use borrow.Author.Tests.{eqb-false}
use lib.ListN.{length, get_or, set, replicate}
use Rattle.std.specs.Prelude.{Result, Ok, Err, ⊤, eqb}
use Rattle.terms.specs.Reply.{Reply, refusal_reply, number_of, done_reply}
use Rattle.terms.specs.declared.refusal.Refusal.{Refusal}
use Rattle.terms.proofs.Answers.{number_not_0}
use Rattle.geometry.specs.declared.Geometry.{Geometry}
use Rattle.geometry.specs.Report.{state_reply}
use Rattle.geometry.specs.declared.State.{State}
use Rattle.parity.specs.Rest.{restored_in}
use Rattle.record.proofs.Rest.{survey_whole}
use Rattle.record.specs.Life.{free}
use Rattle.record.specs.Survey.{survey_of, survey_but}
use Rattle.record.specs.declared.Record.{Record}
use Rattle.array.proofs.Admissions.{admit_number_law, admit_refused}
use Rattle.array.proofs.Collections.{collect_number_law, collect_refused}
use Rattle.array.proofs.Steppings.{step_number_law, step_refused}
use Rattle.array.specs.Admission.{Admission, admission_by, admission}
use Rattle.array.specs.Collection.{Collection, collection_by, collection}
use Rattle.array.specs.Opening.{opening_by, opening}
use Rattle.array.specs.Rebuilding.{rebuilding_by, rebuilding}
use Rattle.array.specs.Scan.{scan_reply_by, scan_reply}
use Rattle.array.specs.Stepping.{Stepping, stepping_by, stepping}
use Rattle.array.specs.Outcomes.{OpeningIs, AdmissionIs, SteppingIs, CollectionIs, RebuildingSaid}
use Rattle.array.specs.declared.answers.Changed.{Changed}
use Rattle.array.specs.declared.answers.Filled.{Filled}
use Rattle.array.specs.declared.answers.Stepped.{Stepped}
use Rattle.calls.specs.Lent.{OpeningLent, AdmissionLent, SteppingLent, CollectionLent, RebuildingLent}

-- what is refused has another number than 0
refuses : (e : Refusal) {r : Reply} {n : ℕ} → refusal_reply e ≡ r → r.number ≡ n → ¬ (n ≡ 0)
refuses e same number z = eqb-false (number_of e) 0 (number_not_0 e) (ap (λ (r : Reply). r.number) same ∙ number ∙ z)

-- what a call that hands back a changed record answers, and the table that it leaves
module _ {A : Type 0} where
  abbrev answer_of : Result (Changed A) Refusal → Result A Refusal
  answer_of (Ok c) = Ok c.answer
  answer_of (Err e) = Err e

  abbrev table_after : List Record → Result (Changed A) Refusal → List Record
  table_after l (Ok c) = set l c.place c.«record»
  table_after l (Err e) = l

module _ (l : List Record) where
  -- the records are freed where the opening is accepted
  pub open_lent : (g : Geometry) (out : ℕ) (work image : List ℕ) (o : Result State Refusal) (accepts : Bool) (t : List Record)
      → OpeningIs (opening_by g out (length l) work image) o → accepts ≡ eqb (state_reply o).number 0 → t ≡ cond accepts (replicate (length l) free) l
      → OpeningLent (opening g out l work image) o t
  unfolding opening
  open_lent g out work image o accepts t is e frees =
      let same : accepts ≡ eqb (opening_by g out (length l) work image).reply.number 0 = e ∙ ap (λ (r : Reply). eqb r.number 0) is.reply in
      record { reply = is.reply; new_state = is.state; table_left = frees ∙ ap (λ (b : Bool). cond b (replicate (length l) free) l) same }

  module _ (st : State) where
    pub admit_lent : (work image : List ℕ) (write : Bool) (s mask : ℕ) (payload : List ℕ) (o : Result (Changed ℕ) Refusal) (w : List ℕ)
        → AdmissionIs (admission_by st (survey_but st l 8) work image write s mask payload) o w
        → AdmissionLent (admission st l work image write s mask payload) (answer_of o) (table_after l o) w
    unfolding admission
    admit_lent work image write s mask payload o w before =
        go o (rw (survey_whole st l) at before)
      where
        go : (o : Result (Changed ℕ) Refusal) → AdmissionIs (admission_by st (survey_of st l) work image write s mask payload) o w
            → AdmissionLent (admission st l work image write s mask payload) (answer_of o) (table_after l o) w
        go (Ok c) is = record { reply = is.reply; table_left = ap₂ (set l) is.changed.0 is.changed.1; work_left = is.work_left }
        go (Err e) is =
            let left = admit_refused st l work image write s mask payload (refuses e is.reply (admit_number_law st l work image write s mask payload)) in
            record { reply = is.reply; table_left = sym (ap (λ (d : Admission). d.table) left); work_left = is.work_left }

    pub step_lent : (work image : List ℕ) (i k : ℕ) (o : Result (Changed Stepped) Refusal) (w m : List ℕ)
        → SteppingIs (stepping_by st (survey_but st l i) (get_or l i free) work image i k) o w m
        → SteppingLent (stepping st l work image i k) (answer_of o) (table_after l o) w m
    unfolding stepping
    step_lent work image i k (Ok c) w m is =
        record { reply = is.reply; answered = is.answered; table_left = ap₂ (set l) is.changed.0 is.changed.1; work_left = is.work_left; image_left = is.image_left }
    step_lent work image i k (Err e) w m is =
        let left = step_refused st l work image i k (refuses e is.reply (step_number_law st l work image i k)) in
        record { reply = is.reply; answered = tt; table_left = sym (ap (λ (d : Stepping). d.table) left); work_left = is.work_left; image_left = is.image_left }

    pub collect_lent : (work : List ℕ) (i : ℕ) (result : List ℕ) (o : Result (Changed ℕ) Refusal) (m : List ℕ)
        → CollectionIs (collection_by st (survey_but st l i) (get_or l i free) work i result) o m
        → CollectionLent (collection st l work i result) (answer_of o) (table_after l o) m
    unfolding collection
    collect_lent work i result (Ok c) m is = record { reply = is.reply; table_left = ap₂ (set l) is.changed.0 is.changed.1; result_left = is.result_left }
    collect_lent work i result (Err e) m is =
        let left = collect_refused st l work i result (refuses e is.reply (collect_number_law st l work i result)) in
        record { reply = is.reply; table_left = sym (ap (λ (d : Collection). d.table) left); result_left = is.result_left }

    pub scan_lent : (image : List ℕ) (r : Result ⊤ Refusal) → done_reply r ≡ scan_reply_by st (survey_but st l 8) image → done_reply r ≡ scan_reply st l image
    unfolding scan_reply
    scan_lent image r is = rw (survey_whole st l) at is

    -- a rebuild step that says this, and then writes its block
    pub rebuild_lent : (image : List ℕ) (f : Filled) (m : List ℕ) → RebuildingSaid (rebuilding_by st (survey_but st l 8) image) st image (Ok f)
        → m ≡ restored_in st image st.out f.stripe → RebuildingLent (rebuilding st l image) (Ok f.stripe) f.state m
    unfolding rebuilding
    rebuild_lent image f m before written =
        let is : RebuildingSaid (rebuilding_by st (survey_of st l) image) st image (Ok f) = rw (survey_whole st l) at before in
        record { reply = is.reply; state_left = is.state_left; image_left = written ∙ is.image_left }

    -- one that is refused
    pub rebuild_kept : (image : List ℕ) (e : Refusal) → RebuildingSaid (rebuilding_by st (survey_but st l 8) image) st image (Err e)
        → RebuildingLent (rebuilding st l image) (Err e) st image
    unfolding rebuilding
    rebuild_kept image e before =
        let is : RebuildingSaid (rebuilding_by st (survey_of st l) image) st image (Err e) = rw (survey_whole st l) at before in
        record { reply = is.reply; state_left = is.state_left; image_left = is.image_left }
