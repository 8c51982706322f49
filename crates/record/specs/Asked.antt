-- What the functions on a record and a survey answer, on all numbers: beyond the array's limits nothing is ready, and nothing sound.
-- Assumes nothing.
use Rattle.std.specs.Prelude.{ℕ, ◌-◌, ◌^◌, Bool, cond, ◌&&◌, ltb}
use Rattle.geometry.specs.declared.State.{State}
use Rattle.graph.specs.Asked.{few_units}
use Rattle.graph.specs.Order.{ready}
use Rattle.record.specs.Life.{is_open, units_of, chosen_at}
use Rattle.record.specs.Sound.{sound_record}
use Rattle.record.specs.declared.Record.{Record}

-- a stripe of the state has few units: at most 7
abbrev pub few_in : State → Bool
few_in st = few_units (units_of st)

-- step k of the record is ready
unfoldable pub ready_in : State → Record → ℕ → Bool
ready_in st r k = few_in st && ready (units_of st) r.graph r.mask (chosen_at st r) r.done k

-- the record's count has room for one more step; a sound one's has, since it is at most 2n+3
unfoldable pub can_count : Record → Bool
can_count r = ltb r.count (2 ^ 64 - 1)

-- whether a record is sound, and the units few
unfoldable pub sound_record_in : State → Record → Bool
sound_record_in st r = few_in st && sound_record st r

-- a number that is no stripe's: stripes are 0 to 1,023 at most
abbrev pub no_stripe : ℕ
no_stripe = 1024

-- the stripe that a record holds, or that number
unfoldable pub held_stripe : Record → ℕ
held_stripe r = cond (is_open r) r.stripe no_stripe
