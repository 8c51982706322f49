-- Runs: what a client sees who opens an array and makes calls, where all that is known of them is what their contracts say.
-- Assumes nothing.
use Rattle.std.specs.Prelude.{ℕ, List, [], ◌∷◌, ◌≡◌}
use Rattle.terms.specs.Reply.{on_accept}
use Rattle.geometry.specs.declared.Geometry.{Geometry}
use Rattle.record.specs.declared.Record.{Record}
use Rattle.array.specs.Opening.{Opening}
use Rattle.history.specs.Account.{Account, entered}
use Rattle.history.specs.History.{Decayed, History, opened_account}
use Rattle.history.specs.Serial.{Seen, first_of as first_of_history, seen_of as seen_of_history}
use Rattle.history.specs.World.{World, Event, Outcome, Engine, play, with_image}
use Rattle.client.specs.Lent.{OpenedByCall, ByCalls}
use Rattle.client.specs.Packed.{OpenedByFunction, ByFunctions}

-- what a set of functions may do: how an opening may come out, and how an event may come out in a world
pub record Contracts : Type 1 where
  pub opens : Geometry → ℕ → List Record → List ℕ → List ℕ → Opening → Type 0
  pub allows : World → Event → Outcome → Type 0

-- the calls that are lent the table (crates/calls), and the C functions (crates/recorder)
abbrev pub calls : Contracts
calls = record { opens = OpenedByCall; allows = ByCalls }

abbrev pub functions : Contracts
functions = record { opens = OpenedByFunction; allows = ByFunctions }

-- an accepted opening, then calls, each with any outcome that is allowed, and decay of missing blocks at any moment. The world that is left
-- goes on to the next call, and the account is kept by what was answered and left
pub data Run (by : Contracts) : World → Account → Type 0 where
  opened : (g : Geometry) (out : ℕ) (table : List Record) (work image : List ℕ) (o : Opening)
      → by.opens g out table work image o → o.reply.number ≡ 0
      → Run by (record { state = o.state; table = o.table; work = work; image = image }) (opened_account g out image)
  next : {w : World} {a : Account} → Run by w a → (e : Event) (o : Outcome) → by.allows w e o
      → Run by o.world (on_accept o.reply.number (entered a e o) a)
  decayed : {w : World} {a : Account} → Run by w a → (image : List ℕ) → Decayed a.state w.image image
      → Run by (with_image w image) a

-- the account at a run's start, and what its client has seen since, the latest first
unfoldable pub first_of : {by : Contracts} {w : World} {a : Account} → Run by w a → Account
first_of (opened g out table work image o h ok) = opened_account g out image
first_of (next r e o h) = first_of r
first_of (decayed r image d) = first_of r

unfoldable pub seen_of : {by : Contracts} {w : World} {a : Account} → Run by w a → List Seen
seen_of (opened g out table work image o h ok) = []
seen_of (next {w} {a} r e o h) = record { account = a; event = e; outcome = o } ∷ seen_of r
seen_of (decayed r image d) = seen_of r

-- a run is a history of `play`: with the same worlds and account, the same account at the start, and the same calls with the same outcomes
pub record IsHistory {by : Contracts} {w : World} {a : Account} (r : Run by w a) : Type 0 where
  pub history : History play w a
  pub same_first : first_of_history history ≡ first_of r
  pub same_seen : seen_of_history history ≡ seen_of r

-- an engine that meets the contracts: each of its outcomes is one that they allow
unfoldable pub Meets : Contracts → Engine → Type 0
Meets by engine = (w : World) (e : Event) → by.allows w e (engine w e)
