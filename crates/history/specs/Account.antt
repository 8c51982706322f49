-- The account that a client could keep on paper beside the array. It rests on what the client handed over, on the answers, and, after an accepted
-- step, on one look at the lent table: is this record finished now? Nothing of it is read from the engine's own numbers later on.
-- Assumes nothing.
use Rattle.std.specs.Prelude.{ℕ, ◌+◌, Bool, false, cond, not, ◌&&◌, List, [], ltb, eqb}
use Rattle.terms.specs.Reply.{on_accept}
use Rattle.geometry.specs.Limits.{none, no_fill}
use Rattle.geometry.specs.Report.{with_out, with_lost, with_fill}
use Rattle.geometry.specs.declared.State.{State}
use Rattle.record.specs.Life.{is_finished}
use Rattle.stripe.specs.Blocks.{changed}
use Rattle.history.specs.Row.{written_row, units_of_row}
use Rattle.history.specs.World.{World, Event, admit, step, report, collect, scan, start, rebuild, Outcome, Engine, record_at}

-- what is noted at a record number: 0, no request (none yet, or it was collected), 1, one that is open, or 2, one that is finished; the
-- request; the accepted steps since its admission; the bytes that it should give, none before it is finished and none for a write
pub record Entry : Type 0 where
  pub phase : ℕ
  pub write : Bool
  pub stripe : ℕ
  pub mask : ℕ
  pub payload : List ℕ
  pub steps : ℕ
  pub due : List ℕ

-- the geometry as opened, the card out as opened, reported or filled, whether a second one was reported, and the stripe to be filled next; the row
-- by block number; the entries by record number
pub record Account : Type 0 where
  pub state : State
  pub row : ℕ → List ℕ
  pub entry : ℕ → Entry

-- no request
unfoldable pub vacant : Entry
vacant = record { phase = 0; write = false; stripe = 0; mask = 0; payload = []; steps = 0; due = [] }

-- a request as it is written down
unfoldable pub requested : Bool → ℕ → ℕ → List ℕ → Entry
requested write s mask payload =
    record { phase = 1; write = write; stripe = s; mask = mask; payload = payload; steps = 0; due = [] }

-- an accepted step counts one; after the last one the request is finished, and a read's units of the row are due
unfoldable pub counted : State → (ℕ → List ℕ) → Entry → Bool → Entry
counted st row e last =
    record {
      phase = cond last 2 e.phase;
      write = e.write;
      stripe = e.stripe;
      mask = e.mask;
      payload = e.payload;
      steps = e.steps + 1;
      due = cond (last && not e.write) (units_of_row st row e.stripe e.mask) e.due;
    }

-- the account with another entry at record number i
unfoldable pub with_entry : Account → ℕ → Entry → Account
with_entry a i e = record { state = a.state; row = a.row; entry = changed a.entry i e }

-- after an accepted step of record i, its last or not: the last one of a write alters the row
unfoldable pub step_noted : Account → ℕ → Bool → Account
step_noted a i last =
    let e = a.entry i in
    record {
      state = a.state;
      row = cond (last && e.write) (written_row a.state a.row e.stripe e.mask e.payload) a.row;
      entry = changed a.entry i (counted a.state a.row e last);
    }

-- after an accepted report: the first card is out; the same card once more is the fresh one, whose fill is over; and a second, different one loses the
-- array
unfoldable pub reported : State → ℕ → State
reported st c = cond (eqb st.out none) (with_out st c) (cond (eqb c st.out) (with_fill st no_fill) (with_lost st))

-- after an accepted rebuild step that answers stripe s: the next one is to be filled, and after the last no card is out
unfoldable pub filled_at : State → ℕ → State
filled_at st s = cond (ltb (s + 1) st.stripes) (with_fill st (s + 1)) (with_out (with_fill st no_fill) none)

-- what an accepted call enters, by what it answered and left. A scan enters nothing
unfoldable pub entered : Account → Event → Outcome → Account
entered a (admit write s mask payload) o = with_entry a o.reply.first (requested write s mask payload)
entered a (step i k) o = step_noted a i (is_finished (record_at o.world i))
entered a (report c) o = record { state = reported a.state c; row = a.row; entry = a.entry }
entered a (collect i result) o = with_entry a i vacant
entered a scan o = a
entered a start o = record { state = with_fill a.state 0; row = a.row; entry = a.entry }
entered a rebuild o = record { state = filled_at a.state o.reply.first; row = a.row; entry = a.entry }

-- the account after a call; a refused one leaves it
unfoldable pub noted : Engine → World → Account → Event → Account
noted engine w a e = let o = engine w e in on_accept o.reply.number (entered a e o) a
