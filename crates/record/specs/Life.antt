-- Document 01, "The array" and "What the calls do": a request record, at admission, after a step and after a fresh choice.
-- Assumes nothing.
use Rattle.std.specs.Prelude.{ℕ, ◌+◌, ◌-◌, Bool, cond, eqb}
use Rattle.geometry.specs.Placement.{out_in, missing_at}
use Rattle.geometry.specs.declared.State.{State}
use Rattle.graph.specs.Choice.{choose}
use Rattle.graph.specs.Order.{complete, after}
use Rattle.record.specs.declared.Record.{Record}

-- a record is free, open or finished
abbrev pub is_free : Record → Bool
is_free r = eqb r.phase 0

abbrev pub is_open : Record → Bool
is_open r = eqb r.phase 1

abbrev pub is_finished : Record → Bool
is_finished r = eqb r.phase 2

-- its request is a write
abbrev pub is_write : Record → Bool
is_write r = eqb r.write 1

-- a free record is all zero
abbrev pub free : Record
free = record { phase = 0; write = 0; stripe = 0; mask = 0; graph = 0; chosen = 0; done = 0; count = 0 }

-- the data units of a stripe, n = N-1
abbrev pub units_of : State → ℕ
units_of st = st.cards - 1

-- the position that was missing when the record's graph was chosen; N where none was
abbrev pub chosen_at : State → Record → ℕ
chosen_at st r = missing_at st.cards st.layout r.stripe r.chosen

-- the position that is missing in a stripe now; N where none is
abbrev pub missing_in : State → ℕ → ℕ
missing_in st s = missing_at st.cards st.layout s (out_in st s)

-- a request of a stripe and a mask at admission: open, its graph chosen, no step done and a count of 0
unfoldable pub admitted : State → Bool → ℕ → ℕ → Record
admitted st write s mask =
    record {
      phase = 1;
      write = cond write 1 0;
      stripe = s;
      mask = mask;
      graph = choose (units_of st) write mask (missing_in st s);
      chosen = out_in st s;
      done = 0;
      count = 0;
    }

-- the record after its step k is done: one more counted, and finished where no step of the graph is wanting
unfoldable pub stepped : State → Record → ℕ → Record
stepped st r k =
    record {
      phase = cond (complete (units_of st) r.graph r.mask (chosen_at st r) (after r.done k)) 2 1;
      write = r.write;
      stripe = r.stripe;
      mask = r.mask;
      graph = r.graph;
      chosen = r.chosen;
      done = after r.done k;
      count = r.count + 1;
    }

-- the record after its graph is chosen afresh: the done steps are forgotten, and one more counted
unfoldable pub afresh : State → Record → Record
afresh st r =
    record {
      phase = 1;
      write = r.write;
      stripe = r.stripe;
      mask = r.mask;
      graph = choose (units_of st) (is_write r) r.mask (missing_in st r.stripe);
      chosen = out_in st r.stripe;
      done = 0;
      count = r.count + 1;
    }
