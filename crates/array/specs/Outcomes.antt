-- What the calls by a survey hand back, held to what document 01 says they answer and leave. An accepted call hands back the place where the table
-- changes and the record that stands there after it; a refused one changes nothing.
-- Assumes nothing.
use Rattle.std.specs.Prelude.{ℕ, List, ◌≡◌, Result, Ok, Err, IfOk}
use Rattle.terms.specs.Reply.{accepted, reply_of}
use Rattle.terms.specs.declared.refusal.Refusal.{Refusal}
use Rattle.geometry.specs.Report.{state_reply}
use Rattle.geometry.specs.declared.State.{State}
use Rattle.parity.specs.Rest.{restored_in}
use Rattle.array.specs.Admission.{AdmissionBy}
use Rattle.array.specs.Answers.{step_values, stepped_of}
use Rattle.array.specs.Collection.{CollectionBy}
use Rattle.array.specs.Opening.{OpeningBy, zero_state}
use Rattle.array.specs.Rebuilding.{Rebuilding}
use Rattle.array.specs.Stepping.{SteppingBy}
use Rattle.array.specs.declared.answers.Changed.{Changed}
use Rattle.array.specs.declared.answers.Filled.{Filled}
use Rattle.array.specs.declared.answers.Stepped.{Stepped}

-- the new state that an answer of open hands back, all zero if refused
unfoldable pub opened_state : Result State Refusal → State
opened_state (Ok st) = st
opened_state (Err r) = zero_state

-- open: its answer, and the new state
pub record OpeningIs (d : OpeningBy) (answer : Result State Refusal) : Type 0 where
  pub reply : state_reply answer ≡ d.reply
  pub state : opened_state answer ≡ d.state

-- admit: its answer, the record that is taken and its place, and the work store
pub record AdmissionIs (d : AdmissionBy) (answer : Result (Changed ℕ) Refusal) (work : List ℕ) : Type 0 where
  pub reply : reply_of (λ c. accepted c.answer 0) answer ≡ d.reply
  pub changed : IfOk answer (λ c. (c.place ≡ d.place) × (c.«record» ≡ d.stands))
  pub work_left : work ≡ d.work

-- step: its answer, the record and its place, the work store and the image
pub record SteppingIs (d : SteppingBy) (answer : Result (Changed Stepped) Refusal) (work image : List ℕ) : Type 0 where
  pub reply : reply_of (λ c. step_values c.answer) answer ≡ d.reply
  pub answered : IfOk answer (λ c. c.answer ≡ stepped_of d.reply.first)
  pub changed : IfOk answer (λ c. (c.place ≡ d.place) × (c.«record» ≡ d.stands))
  pub work_left : work ≡ d.work
  pub image_left : image ≡ d.image

-- collect: its answer, the record and its place, and the result buffer
pub record CollectionIs (d : CollectionBy) (answer : Result (Changed ℕ) Refusal) (result : List ℕ) : Type 0 where
  pub reply : reply_of (λ c. accepted c.answer 0) answer ≡ d.reply
  pub changed : IfOk answer (λ c. (c.place ≡ d.place) × (c.«record» ≡ d.stands))
  pub result_left : result ≡ d.result

-- the state that an answer of rebuild hands back, the old one if refused
abbrev pub state_after : State → Result Filled Refusal → State
state_after st (Ok f) = f.state
state_after st (Err r) = st

-- the image after a rebuild step of this answer: the stripe's block is restored in it; if refused, none is
abbrev pub written_by : State → Result ℕ Refusal → List ℕ → List ℕ
written_by st (Ok s) image = restored_in st image st.out s
written_by st (Err r) image = image

-- the same of what rebuild hands back
abbrev pub restored_by : State → List ℕ → Result Filled Refusal → List ℕ
restored_by st image (Ok f) = written_by st (Ok f.stripe) image
restored_by st image (Err r) = written_by st (Err r) image

-- rebuild, before the block is written: its answer, the state, and the image that there is once the block is restored in it
pub record RebuildingSaid (d : Rebuilding) (st : State) (image : List ℕ) (answer : Result Filled Refusal) : Type 0 where
  pub reply : reply_of (λ f. accepted f.stripe 0) answer ≡ d.reply
  pub state_left : state_after st answer ≡ d.state
  pub image_left : restored_by st image answer ≡ d.image

-- rebuild: its answer, the state, the old one if refused, and the image
pub record RebuildingIs (d : Rebuilding) (st : State) (answer : Result Filled Refusal) (image : List ℕ) : Type 0 where
  pub reply : reply_of (λ f. accepted f.stripe 0) answer ≡ d.reply
  pub state_left : state_after st answer ≡ d.state
  pub image_left : image ≡ d.image
