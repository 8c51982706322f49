-- What holds at every moment of a history in which the array is not lost: the invariant that carries the promise. Byte by byte, each stripe
-- without an open request rests on the account's row, and each with one works from that row towards the row that the request will leave.
-- Assumes nothing.
use Prim.Native.Nat.{ℕ, ◌*◌, ◌<◌}
use mathlib.Core.Bool.{Bool, true, false}
use mathlib.Core.List.{List, []}
use mathlib.Core.Path.{◌≡◌, refl, sym}
use lib.ListN.{length}
use Rattle.terms.proofs.Rows.{true≢false}
use Rattle.geometry.specs.Placement.{card_of_position}
use Rattle.geometry.specs.declared.State.{State}
use Rattle.parity.specs.Parity.{byte_at}
use Rattle.record.specs.Life.{free, is_open, is_finished, is_write, units_of, chosen_at, missing_in}
use Rattle.record.specs.Sound.{held}
use Rattle.record.specs.declared.Record.{Record}
use Rattle.array.specs.Lent.{unit_bytes}
use Rattle.array.proofs.Frames.{new_byte, got_byte}
use Rattle.array.proofs.Lent.{Right}
use Rattle.stripe.specs.Blocks.{Blocks}
use Rattle.stripe.specs.Invariant.{Proper, Idle, Faithful}
use Rattle.stripe.specs.Request.{Request}
use Rattle.history.specs.Account.{Account, Entry, vacant}
use Rattle.history.specs.Promise.{Agree, blocks_read}
use Rattle.history.specs.World.{World, record_at}
use Rattle.stripe.proofs.Bytes.{bytes}
use Rattle.history.proofs.Rows.{row_of, after_row}

-- a record's numbers as a stripe's theory sees them
abbrev pub request_of : State → Record → Request
request_of st r =
    record { write = is_write r; mask = r.mask; graph = r.graph; missed = chosen_at st r; done = r.done; count = r.count }

-- byte b of each position of stripe s
abbrev pub cells_of : State → List ℕ → ℕ → ℕ → ℕ → ℕ
cells_of st image s b p = byte_at st.stripes st.block image (card_of_position st s p) s b

-- byte b of stripe s and of record i's blocks, by position
abbrev pub view_of : State → List ℕ → List ℕ → ℕ → ℕ → ℕ → Blocks ℕ
view_of st work image i s b =
    record {
      cell = cells_of st image s b;
      got = λ p. got_byte st.cards st.block work i p b;
      new = λ p. new_byte st.cards st.block work i p b;
    }

-- the account's entry is of the record's request, a write with its payload and nothing due
pub record Matches (st : State) (r : Record) (e : Entry) : Type 0 where
  pub agree : Agree r e
  pub paid : e.write ≡ true → length e.payload ≡ unit_bytes st e.mask
  pub nothing_due : e.write ≡ true → e.due ≡ []

-- a free record and a vacant entry
pub matches_vacant : (st : State) → Matches st free vacant
unfolding vacant
matches_vacant st =
    record {
      agree = record { same_phase = refl; same_kind = refl; same_stripe = refl; same_mask = refl; same_count = refl };
      paid = λ e. true≢false (sym e);
      nothing_due = λ e. refl;
    }

-- record r, number i, is open: its numbers are proper, and its stripe is faithful to the account at every byte. The positions renewed since its
-- admission are the same at every byte, so a block is the old one or the new one as a whole
pub record Working (st : State) (work image : List ℕ) (row : ℕ → List ℕ) (e : Entry) (i : ℕ) (r : Record) : Type 0 where
  pub proper : Proper (units_of st) (missing_in st r.stripe) (request_of st r)
  pub renewed : ℕ → Bool
  pub faithful : (b : ℕ) → b < st.block
      → Faithful bytes (units_of st) (missing_in st r.stripe) (request_of st r) renewed (row_of st row r.stripe b)
      (row_of st (after_row st row e) r.stripe b) (view_of st work image i r.stripe b)

-- stripe s rests on the row at every byte
abbrev pub Resting : State → List ℕ → (ℕ → List ℕ) → ℕ → Type 0
Resting st image row s = (b : ℕ) → b < st.block → Idle bytes (units_of st) (missing_in st s) (row_of st row s b) (cells_of st image s b)

pub record Sure (w : World) (a : Account) : Type 0 where
  pub right : Right w.state w.table w.work w.image
  pub row_size : (L : ℕ) → L < units_of w.state * w.state.stripes → length (a.row L) ≡ w.state.block
  pub entries : (i : ℕ) → i < w.state.records → Matches w.state (record_at w i) (a.entry i)
  pub resting : (s : ℕ) → s < w.state.stripes → held w.table s ≡ false → Resting w.state w.image a.row s
  pub working : (i : ℕ) → i < w.state.records → is_open (record_at w i) ≡ true
      → Working w.state w.work w.image a.row (a.entry i) i (record_at w i)
  pub read : (i : ℕ) → i < w.state.records → is_finished (record_at w i) ≡ true → is_write (record_at w i) ≡ false
      → blocks_read w.state w.work i (record_at w i).mask ≡ (a.entry i).due
