-- What the calls' own helpers may take for granted once nothing is refused.
-- Assumes nothing.
use Rattle.std.specs.Prelude.{ℕ, ◌+◌, ◌<◌, ◌≤◌, ◌^◌, true, List, ◌≡◌, length}
use Rattle.terms.specs.Sets.{set_of}
use Rattle.geometry.specs.Store.{legal_state, work_size, image_size}
use Rattle.geometry.specs.declared.State.{State}
use Rattle.graph.specs.Steps.{Step, rd, xr, wr, nil, reads}
use Rattle.graph.specs.Sums.{sums_to_read}
use Rattle.record.specs.Life.{units_of, chosen_at}
use Rattle.record.specs.declared.Record.{Record}
use Rattle.array.specs.Lent.{unit_bytes}

-- a step's position is one of the stripe's
abbrev pub Within : ℕ → Step → Type 0
Within N (rd p) = p < N
Within N xr = Unit {0}
Within N (wr p) = p < N
Within N nil = Unit {0}

-- a legal mask, and the work store: the units of the mask have room in these bytes
pub record Keeping (st : State) (mask : ℕ) (units work : List ℕ) : Type 0 where
  pub units_only : mask < 2 ^ units_of st
  pub work_right : length work ≡ work_size st.cards st.block st.records
  pub room : unit_bytes st mask ≤ length units

-- the work store and the image have their lengths
pub record Lengths (st : State) (work image : List ℕ) : Type 0 where
  pub work_right : length work ≡ work_size st.cards st.block st.records
  pub image_right : length image ≡ image_size st.cards st.stripes st.block

-- the positions that the record's graph reads, as a set
abbrev pub read_by : State → Record → ℕ
read_by st r = set_of (units_of st + 1) (reads (units_of st) r.graph r.mask (chosen_at st r))

-- what a step stands on: the limits hold, the work store and the image have their lengths, record i, which is r, and its stripe are in range, and
-- X, where the exclusive or is of X, is one of the stripe's positions
pub record Standing (st : State) (work image : List ℕ) (i : ℕ) (r : Record) : Type 0 where
  pub limits : legal_state st ≡ true
  pub work_right : length work ≡ work_size st.cards st.block st.records
  pub image_right : length image ≡ image_size st.cards st.stripes st.block
  pub record_below : i < st.records
  pub stripe_below : r.stripe < st.stripes
  pub x_below : sums_to_read r.graph ≡ true → chosen_at st r < st.cards
