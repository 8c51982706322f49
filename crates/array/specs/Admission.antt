-- Document 01, "What the calls do", admit: what it answers and leaves.
-- Assumes nothing.
use Rattle.std.specs.Prelude.{ℕ, ◌*◌, Bool, cond, List, set}
use Rattle.terms.specs.Lists.{part, put, changes}
use Rattle.terms.specs.Reply.{Reply, accepted, refused, on_accept}
use Rattle.terms.specs.Sets.{bit}
use Rattle.geometry.specs.Store.{write_at}
use Rattle.geometry.specs.declared.State.{State}
use Rattle.record.specs.Life.{free, units_of, admitted}
use Rattle.record.specs.Survey.{survey_of}
use Rattle.record.specs.declared.Record.{Record}
use Rattle.record.specs.declared.Survey.{Survey}
use Rattle.array.specs.Lent.{rank}
use Rattle.array.specs.Refusals.{admit_refusal}

-- unit u of a write, where it is in the mask, copied to its block to write of record i
abbrev pub keep_unit : State → ℕ → ℕ → List ℕ → ℕ → List ℕ → List ℕ
keep_unit st i mask payload u work =
    cond (bit u mask)
    (put (write_at st.cards st.block i u) (part (rank mask u * st.block) st.block payload) work)
    work

-- a write's units, ascending
unfoldable pub keep_units : State → ℕ → ℕ → List ℕ → List ℕ → List ℕ
keep_units st i mask payload work = changes (units_of st) (keep_unit st i mask payload) work

-- what admit answers, the record's number; where the table changes, and the record that stands there after it (past the table's end nothing does);
-- and the work store. The state and the image stay
pub record AdmissionBy : Type 0 where
  pub reply : Reply
  pub place : ℕ
  pub stands : Record
  pub work : List ℕ

-- admit by a survey of the table takes the lowest free record; a read copies nothing
unfoldable pub admission_by : State → Survey → List ℕ → List ℕ → Bool → ℕ → ℕ → List ℕ → AdmissionBy
admission_by st v work image write s mask payload =
    let number = admit_refusal st v work image write s mask payload in
    record {
      reply = on_accept number (accepted v.free 0) (refused number);
      place = on_accept number v.free v.len;
      stands = on_accept number (admitted st write s mask) free;
      work = on_accept number (cond write (keep_units st v.free mask payload work) work) work;
    }

-- what admit answers, and the table and the work store that it leaves
pub record Admission : Type 0 where
  pub reply : Reply
  pub table : List Record
  pub work : List ℕ

unfoldable pub admission : State → List Record → List ℕ → List ℕ → Bool → ℕ → ℕ → List ℕ → Admission
admission st table work image write s mask payload =
    let a = admission_by st (survey_of st table) work image write s mask payload in
    record { reply = a.reply; table = set table a.place a.stands; work = a.work }
