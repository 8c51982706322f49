-- Demand 3: what is promised of a world w that an engine reached by a history in which the array was never lost, and of the account a that was
-- kept beside it. Which request is open or finished, which stripe is idle and which card is out, the account says.
-- Assumes nothing.
use Rattle.std.specs.Prelude.{ℕ, zero, suc, ◌+◌, ◌*◌, ◌≤◌, ◌<◌, Bool, true, false, List, ◌++◌, ◌⊎◌, ◌≡◌, length, drop}
use Rattle.terms.specs.Lists.{part}
use Rattle.terms.specs.Reply.{accepted}
use Rattle.geometry.specs.Limits.{none, under_way}
use Rattle.geometry.specs.Placement.{stripe_of, card_of_block, card_of_position, filled, Missing}
use Rattle.geometry.specs.Store.{read_at}
use Rattle.geometry.specs.declared.State.{State}
use Rattle.parity.specs.Rest.{rest_of}
use Rattle.record.specs.Life.{is_write, units_of}
use Rattle.record.specs.Sound.{sound}
use Rattle.record.specs.declared.Record.{Record}
use Rattle.history.specs.Account.{Account, Entry}
use Rattle.history.specs.History.{History, Whole}
use Rattle.history.specs.Row.{block_at, gathered, parity_of_row}
use Rattle.history.specs.World.{World, Event, admit, step, collect, scan, start, rebuild, Engine, record_at}

-- ---- what the account says

-- there is a record i
abbrev pub InTable : Account → ℕ → Type 0
InTable a i = i < a.state.records

-- it has no request, an open one, a finished one
abbrev pub Vacant : Account → ℕ → Type 0
Vacant a i = InTable a i × ((a.entry i).phase ≡ 0)

abbrev pub Open : Account → ℕ → Type 0
Open a i = InTable a i × ((a.entry i).phase ≡ 1)

abbrev pub Finished : Account → ℕ → Type 0
Finished a i = InTable a i × ((a.entry i).phase ≡ 2)

-- no open request holds stripe s
abbrev pub Idle : Account → ℕ → Type 0
Idle a s = (i : ℕ) → Open a i → ¬ ((a.entry i).stripe ≡ s)

-- card c works in stripe s, or its block there is missing
abbrev pub Works : Account → ℕ → ℕ → Type 0
Works a c s = ¬ Missing a.state c s

abbrev pub Out : Account → ℕ → ℕ → Type 0
Out a c s = Missing a.state c s

-- a fill is under way, and stripe s is filled
abbrev pub Filling : Account → Type 0
Filling a = under_way a.state ≡ true

abbrev pub Filled : Account → ℕ → Type 0
Filled a s = filled a.state s ≡ true

-- block L of the row, L from 0 to n·S-1: its stripe and its card
abbrev pub InRow : Account → ℕ → Type 0
InRow a L = L < units_of a.state * a.state.stripes

abbrev pub stripe_for : Account → ℕ → ℕ
stripe_for a L = stripe_of a.state.cards L

abbrev pub card_for : Account → ℕ → ℕ
card_for a L = card_of_block a.state L

-- the card of stripe s's parity
abbrev pub parity_for : Account → ℕ → ℕ
parity_for a s = card_of_position a.state s (units_of a.state)

-- ---- what is promised of the world

-- a record of the table and the account's entry are of one request: phase, kind, stripe, mask and count
pub record Agree (r : Record) (e : Entry) : Type 0 where
  pub same_phase : r.phase ≡ e.phase
  pub same_kind : is_write r ≡ e.write
  pub same_stripe : r.stripe ≡ e.stripe
  pub same_mask : r.mask ≡ e.mask
  pub same_count : r.count ≡ e.steps

-- the read blocks of record i at the units of a mask, ascending
unfoldable pub blocks_read : State → List ℕ → ℕ → ℕ → List ℕ
blocks_read st work i mask = gathered (units_of st) mask (λ u. part (read_at st.cards st.block i u) st.block work)

pub record Promise (engine : Engine) (w : World) (a : Account) : Type 0 where
  -- the state is the account's: the geometry, the card that is out, and that the array is not lost
  pub same_state : w.state ≡ a.state
  -- every record and its entry agree
  pub agrees : (i : ℕ) → InTable a i → Agree (record_at w i) (a.entry i)
  -- an accepted admission takes a record without a request, an accepted step is of an open one, an accepted collect of a finished one
  pub takes_vacant : (write : Bool) (s mask : ℕ) (payload : List ℕ) → (engine w (admit write s mask payload)).reply.number ≡ 0
      → Vacant a (engine w (admit write s mask payload)).reply.first
  pub steps_open : (i k : ℕ) → (engine w (step i k)).reply.number ≡ 0 → Open a i
  pub collects_finished : (i : ℕ) (result : List ℕ) → (engine w (collect i result)).reply.number ≡ 0 → Finished a i
  -- a finished read has what the account noted, collected or not
  pub reads : (i : ℕ) → Finished a i → (a.entry i).write ≡ false
      → blocks_read a.state w.work i (a.entry i).mask ≡ (a.entry i).due
  -- an accepted collect answers the account's count, and hands over what is due; the rest of the buffer stays
  pub counts : (i : ℕ) (result : List ℕ) → (engine w (collect i result)).reply.number ≡ 0
      → (engine w (collect i result)).reply ≡ accepted (a.entry i).steps 0
  pub collects : (i : ℕ) (result : List ℕ) → (engine w (collect i result)).reply.number ≡ 0
      → (engine w (collect i result)).result ≡ (a.entry i).due ++ drop (length (a.entry i).due) result
  -- a finished request can be collected into any buffer that has room for what is due
  pub collectable : (i : ℕ) (result : List ℕ) → Finished a i
      → length (a.entry i).due ≤ length result → (engine w (collect i result)).reply.number ≡ 0
  -- a stripe with no open request holds the row on working cards
  pub units : (L : ℕ) → InRow a L → Idle a (stripe_for a L) → Works a (card_for a L) (stripe_for a L)
      → block_at a.state w.image (card_for a L) (stripe_for a L) ≡ a.row L
  -- and its parity
  pub parity : (s : ℕ) → s < a.state.stripes → Idle a s → Works a (parity_for a s) s
      → block_at a.state w.image (parity_for a s) s ≡ parity_of_row a.state a.row s
  -- and a missing unit is the exclusive or of the rest
  pub inferred : (L : ℕ) → InRow a L → Idle a (stripe_for a L) → Out a (card_for a L) (stripe_for a L)
      → rest_of a.state w.image (card_for a L) (stripe_for a L) ≡ a.row L
  -- a filled stripe with no open request holds the row and its parity on every card, the fresh one among them
  pub filled_units : (L : ℕ) → InRow a L → Idle a (stripe_for a L) → Filled a (stripe_for a L)
      → block_at a.state w.image (card_for a L) (stripe_for a L) ≡ a.row L
  pub filled_parity : (s : ℕ) → s < a.state.stripes → Idle a s → Filled a s
      → block_at a.state w.image (parity_for a s) s ≡ parity_of_row a.state a.row s
  -- while a fill is under way a rebuild step fills the stripe at its place where no open request holds that, and is else refused by 8
  pub fills : Filling a → Idle a a.state.fill → (engine w rebuild).reply ≡ accepted a.state.fill 0
  pub waits : Filling a → ((engine w rebuild).reply.number ≡ 0) ⊎ ((engine w rebuild).reply.number ≡ 8)
  -- with no card out, a scan finds parity right
  pub scans : a.state.out ≡ none → (engine w scan).reply ≡ accepted 0 0
  -- no request takes more than 2n+3 accepted steps, and an open one has taken at most 2n+2
  pub most : (i : ℕ) → InTable a i → (a.entry i).steps ≤ 2 * units_of a.state + 3
  pub most_open : (i : ℕ) → Open a i → (a.entry i).steps ≤ 2 * units_of a.state + 2
  -- the table is sound, and no call is refused for what it is lent: by 1, 2, 3 or 4
  pub is_sound : sound a.state w.table ≡ true
  pub lent_right : (e : Event) → ((engine w e).reply.number ≡ 0) ⊎ (4 < (engine w e).reply.number)
  -- an open request has a step that will be accepted
  pub progress : (i : ℕ) → Open a i → (k : ℕ) × ((engine w (step i k)).reply.number ≡ 0)

-- an engine keeps the promise at the end of every history in which the array is never lost
unfoldable pub Keeps : Engine → Type 0
Keeps engine = (w : World) (a : Account) → History engine w a → Whole a → Promise engine w a

-- ---- a whole fill

-- the world after a start and so many rebuild steps, with nothing between them
unfoldable pub rebuilt : Engine → World → ℕ → World
rebuilt engine w zero = (engine w start).world
rebuilt engine w (suc k) = (engine (rebuilt engine w k) rebuild).world

-- the start is accepted; so is each of S rebuild steps, which answers its stripe; after them no card is out, and a scan finds parity right
pub record Refills (engine : Engine) (w : World) (a : Account) : Type 0 where
  pub starts : (engine w start).reply ≡ accepted 0 0
  pub steps : (s : ℕ) → s < a.state.stripes → (engine (rebuilt engine w s) rebuild).reply ≡ accepted s 0
  pub none_out : (rebuilt engine w a.state.stripes).state.out ≡ none
  pub scans : (engine (rebuilt engine w a.state.stripes) scan).reply ≡ accepted 0 0

-- where a card is out, no fill is under way and no request is open, an engine brings a fill to its end
unfoldable pub FillsUp : Engine → Type 0
FillsUp engine =
    (w : World) (a : Account) → History engine w a → Whole a
    → ¬ (a.state.out ≡ none) → under_way a.state ≡ false → ((i : ℕ) → ¬ Open a i) → Refills engine w a
