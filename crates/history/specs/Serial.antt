-- The serial theorem's words: the finished requests of a history, taken singly in the order of their last steps on a plain row, and what is
-- then said of the array. Nothing here knows of graphs, steps' order or parity.
-- Assumes nothing.
use Rattle.std.specs.Prelude.{ℕ, Bool, false, cond, List, [], ◌∷◌, ◌++◌, ◌≡◌, eqb, length, drop}
use Rattle.terms.specs.Reply.{on_accept}
use Rattle.geometry.specs.declared.State.{State}
use Rattle.parity.specs.Rest.{rest_of}
use Rattle.record.specs.Life.{is_finished}
use Rattle.history.specs.Account.{Account}
use Rattle.history.specs.History.{History, opened, next, decayed, opened_account}
use Rattle.history.specs.Promise.{Finished, InRow, Idle, Works, Out, stripe_for, card_for, blocks_read}
use Rattle.history.specs.Row.{block_at, units_of_row, written_row}
use Rattle.history.specs.World.{World, Event, admit, step, report, collect, scan, start, rebuild, Outcome, Engine, record_at}

-- a request as its client made it, and the number of its record
pub record Request : Type 0 where
  pub number : ℕ
  pub write : Bool
  pub stripe : ℕ
  pub mask : ℕ
  pub payload : List ℕ

-- ---- on a plain row

-- the row after a request, and the bytes that it gives: a write's units are put there, a read's are taken from it
unfoldable pub row_after : State → (ℕ → List ℕ) → Request → ℕ → List ℕ
row_after st row r = cond r.write (written_row st row r.stripe r.mask r.payload) row

unfoldable pub bytes_of : State → (ℕ → List ℕ) → Request → List ℕ
bytes_of st row r = cond r.write [] (units_of_row st row r.stripe r.mask)

-- a record number, and the bytes that its request gave
pub record Gave : Type 0 where
  pub number : ℕ
  pub bytes : List ℕ

-- what comes of requests one after the other: the row at the end, and what each gave, the latest first
pub record Replay : Type 0 where
  pub row : ℕ → List ℕ
  pub gave : List Gave

unfoldable pub replay : State → (ℕ → List ℕ) → List Request → Replay
replay st row [] = record { row = row; gave = [] }
replay st row (r ∷ before) =
    let p = replay st row before in
    record {
      row = row_after st p.row r;
      gave = record { number = r.number; bytes = bytes_of st p.row r } ∷ p.gave;
    }

-- what the latest request of record i gave
unfoldable pub latest : ℕ → List Gave → List ℕ
latest i [] = []
latest i (g ∷ before) = cond (eqb g.number i) g.bytes (latest i before)

-- ---- of what a client has seen

-- the request that is written down at record i
unfoldable pub request_at : Account → ℕ → Request
request_at a i =
    let e = a.entry i in record { number = i; write = e.write; stripe = e.stripe; mask = e.mask; payload = e.payload }

-- the request that a call finishes: that of an accepted step after which its record is finished
unfoldable pub finishes : Account → Event → Outcome → List Request
finishes a (admit write s mask payload) o = []
finishes a (step i k) o = on_accept o.reply.number (cond (is_finished (record_at o.world i)) (request_at a i ∷ []) []) []
finishes a (report c) o = []
finishes a (collect i result) o = []
finishes a scan o = []
finishes a start o = []
finishes a rebuild o = []

-- what a client has seen of a call: its account before it, the call, and the outcome
pub record Seen : Type 0 where
  pub account : Account
  pub event : Event
  pub outcome : Outcome

-- the finished requests in the order of their last steps, of calls and so of requests the latest first
unfoldable pub finished_of : List Seen → List Request
finished_of [] = []
finished_of (c ∷ before) = finishes c.account c.event c.outcome ++ finished_of before

-- taken singly, on the row of the account at the start
unfoldable pub replay_of : Account → List Seen → Replay
replay_of first seen = replay first.state first.row (finished_of seen)

-- if the call is an accepted collect, this was handed over: what the latest request of that record gave is at the front of the buffer, and the
-- rest of the buffer is as it was
unfoldable pub HandsOver : List Gave → Event → Outcome → Type 0
HandsOver gave (admit write s mask payload) o = Unit {0}
HandsOver gave (step i k) o = Unit {0}
HandsOver gave (report c) o = Unit {0}
HandsOver gave (collect i result) o = o.reply.number ≡ 0 → o.result ≡ latest i gave ++ drop (length (latest i gave)) result
HandsOver gave scan o = Unit {0}
HandsOver gave start o = Unit {0}
HandsOver gave rebuild o = Unit {0}

-- every accepted collect handed over what the requests that were finished before it give
unfoldable pub HandedOver : Account → List Seen → Type 0
HandedOver first [] = Unit {0}
HandedOver first (c ∷ before) = HandedOver first before × HandsOver (replay_of first before).gave c.event c.outcome

-- the finished requests, taken singly in the order of their last steps, give the same reads on the plain row: of the account at the start, what
-- was seen since, and the world and the account at the end
pub record Serial (first : Account) (seen : List Seen) (w : World) (a : Account) : Type 0 where
  -- every accepted collect handed over the replayed bytes
  pub collects : HandedOver first seen
  -- a finished read that nobody has collected has them
  pub reads : (i : ℕ) → Finished a i → (a.entry i).write ≡ false
      → blocks_read a.state w.work i (a.entry i).mask ≡ latest i (replay_of first seen).gave
  -- the row at the end is the replayed one
  pub row : (L : ℕ) → a.row L ≡ (replay_of first seen).row L
  -- and it is what a stripe with no open request holds: on working cards, and as the exclusive or of the rest where the card is out
  pub units : (L : ℕ) → InRow a L → Idle a (stripe_for a L) → Works a (card_for a L) (stripe_for a L)
      → block_at a.state w.image (card_for a L) (stripe_for a L) ≡ (replay_of first seen).row L
  pub inferred : (L : ℕ) → InRow a L → Idle a (stripe_for a L) → Out a (card_for a L) (stripe_for a L)
      → rest_of a.state w.image (card_for a L) (stripe_for a L) ≡ (replay_of first seen).row L

-- ---- of a history

-- the account at its start, with the row read off the image that was opened, and what was seen since
unfoldable pub first_of : {engine : Engine} {w : World} {a : Account} → History engine w a → Account
first_of (opened g out table work image ok) = opened_account g out image
first_of (next h e) = first_of h
first_of (decayed h image d) = first_of h

unfoldable pub seen_of : {engine : Engine} {w : World} {a : Account} → History engine w a → List Seen
seen_of (opened g out table work image ok) = []
seen_of {engine} (next {w} {a} h e) = record { account = a; event = e; outcome = engine w e } ∷ seen_of h
seen_of (decayed h image d) = seen_of h
