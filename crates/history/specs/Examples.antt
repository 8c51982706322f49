-- Small arrays to show things on: blocks filled with one byte, and calls one after the other.
-- Assumes nothing.
use Rattle.std.specs.Prelude.{ℕ, ◌*◌, List, [], ◌∷◌, replicate}
use Rattle.geometry.specs.declared.Geometry.{Geometry}
use Rattle.geometry.specs.declared.State.{State}
use Rattle.record.specs.Life.{free}
use Rattle.record.specs.declared.Record.{Record}
use Rattle.history.specs.Account.{Account, noted}
use Rattle.history.specs.History.{opened_world, opened_account}
use Rattle.history.specs.World.{World, Event, Engine}

-- a block of 16 bytes filled with a byte
abbrev pub fill : ℕ → List ℕ
fill v = replicate 16 v

-- an array of N cards in layout 5, one stripe, blocks of 16 bytes and K records
abbrev pub small : ℕ → ℕ → Geometry
small N K = record { cards = N; stripes = 1; block = 16; records = K; layout = 5 }

-- such an array just opened, with a card out or 255, and its account
unfoldable pub opened : ℕ → ℕ → ℕ → List ℕ → World
opened N K out image = opened_world (small N K) out (replicate K free) (replicate (2 * N * 16 * K) 0) image

unfoldable pub opened_book : ℕ → ℕ → ℕ → List ℕ → Account
opened_book N K out image = opened_account (small N K) out image

-- the world after these calls, the first one first, and the account kept beside it
unfoldable pub after : Engine → World → List Event → World
after engine w [] = w
after engine w (e ∷ es) = after engine (engine w e).world es

unfoldable pub kept : Engine → World → Account → List Event → Account
kept engine w a [] = a
kept engine w a (e ∷ es) = kept engine (engine w e).world (noted engine w a e) es

-- a world with another state, table or work store in the place of its own
abbrev pub with_state : World → State → World
with_state w st = record { state = st; table = w.table; work = w.work; image = w.image }

abbrev pub with_table : World → List Record → World
with_table w table = record { state = w.state; table = table; work = w.work; image = w.image }

abbrev pub with_work : World → List ℕ → World
with_work w work = record { state = w.state; table = w.table; work = work; image = w.image }
