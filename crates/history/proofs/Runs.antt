-- Runs of an engine that are shown by computation: one small array, calls one after the other, and what the account says at the end.
-- Assumes nothing.
use Prim.Native.Nat.{ℕ, zero, suc, ◌<◌}
use mathlib.Core.Bool.{Bool, true, ◌&&◌}
use mathlib.Core.List.{List, [], ◌∷◌, ◌++◌}
use mathlib.Core.Path.{◌≡◌, refl}
use native.Mathlib.Omega.{arith}
use lib.Dec.{eqb}
use lib.ListN.{replicate}
use Rattle.record.specs.Life.{free}
use Rattle.stripe.specs.Blocks.{changed}
use Rattle.history.specs.Account.{Account, vacant, requested, counted, with_entry, step_noted, reported, entered, noted}
use Rattle.history.specs.Examples.{fill, small, opened, opened_book, after, kept}
use Rattle.history.specs.History.{History, opened_account, Whole}
use Rattle.history.specs.History.{opened as begin, next}
use Rattle.history.specs.Promise.{Idle, blocks_read, Keeps}
use Rattle.history.specs.Row.{opened_row, written_row, unit_in, gathered, units_of_row}
use Rattle.history.specs.World.{World, Event, admit, step, report, collect, scan, start as start_fill, rebuild, Outcome, Engine, with_image}
use Rattle.history.proofs.Compute.{computed}

-- four cards with units 11, 22, 44 and their parity, none out; two records
abbrev pub image4 : List ℕ
image4 = fill 0x11 ++ fill 0x22 ++ fill 0x44 ++ fill 0x77

abbrev pub start : World
start = opened 4 2 255 image4

abbrev pub book : Account
book = opened_book 4 2 255 image4

unfoldable pub begun : (engine : Engine) → History engine start book
unfolding computed opened_book
begun engine = begin (small 4 2) 255 (replicate 2 free) (replicate 256 0) image4 refl

unfoldable pub run : (engine : Engine) (es : List Event) {w : World} {a : Account} → History engine w a → History engine (after engine w es) (kept engine w a es)
unfolding after kept
run engine [] h = h
run engine (e ∷ es) h = run engine es (next h e)

-- a write of 33 to unit 1, with all its steps; then a write of 55 to unit 0 at the same record
abbrev pub one_write : List Event
one_write = admit true 0 2 (fill 0x33) ∷ step 0 1 ∷ step 0 3 ∷ step 0 4 ∷ step 0 6 ∷ step 0 8 ∷ []

abbrev pub two_writes : List Event
two_writes = one_write ++ (collect 0 [] ∷ admit true 0 1 (fill 0x55) ∷ step 0 0 ∷ step 0 3 ∷ step 0 4 ∷ step 0 5 ∷ step 0 8 ∷ [])

-- where neither of two entries is open, every stripe is idle
pub idle_of_two : (a : Account) → a.state.records ≡ 2 → ¬ ((a.entry 0).phase ≡ 1) → ¬ ((a.entry 1).phase ≡ 1) → (s : ℕ) → Idle a s
idle_of_two a two first second s i o = go i (let h : i < 2 = omega (arith, o.0) in h) o.1
  where
    go : (i : ℕ) → i < 2 → (a.entry i).phase ≡ 1 → ¬ ((a.entry i).stripe ≡ s)
    go zero h p e = first p
    go (suc zero) h p e = second p
    go (suc (suc i)) h p e = omega arith

-- what an account is kept with, under one name
unfoldable pub bookkeeping : Unit {0}
unfolding computed Keeps Whole kept noted entered with_entry step_noted reported vacant requested counted changed opened_book opened_account opened_row written_row unit_in gathered units_of_row blocks_read
bookkeeping = tt

-- ---- an engine that is ours but for some calls

-- the kind of a call: 1 an admission, 2 a step, 3 a report, 4 a collect, 0 any other; and the record that it names
unfoldable pub kind_of : Event → ℕ
kind_of (admit write s mask payload) = 1
kind_of (step i k) = 2
kind_of (report c) = 3
kind_of (collect i result) = 4
kind_of scan = 0
kind_of start_fill = 0
kind_of rebuild = 0

unfoldable pub record_of : Event → ℕ
record_of (admit write s mask payload) = 0
record_of (step i k) = i
record_of (report c) = 0
record_of (collect i result) = i
record_of scan = 0
record_of start_fill = 0
record_of rebuild = 0

-- an accepted call of a kind
abbrev pub accepts : ℕ → Event → Outcome → Bool
accepts kind e o = eqb (kind_of e) kind && eqb o.reply.number 0

-- the same answer, and another world
abbrev pub leaving : Outcome → World → Outcome
leaving o w = record { reply = o.reply; world = w; result = o.result }

-- an outcome with the image left as it was
abbrev pub unwritten : World → Outcome → Outcome
unwritten w o = leaving o (with_image o.world w.image)
