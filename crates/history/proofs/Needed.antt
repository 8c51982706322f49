-- The premises of demand 3 are needed: with one of them dropped there is a run, shown by computation, at whose end the promise is false.
-- Assumes nothing.
use Prim.Native.Nat.{ℕ, zero, suc, ◌<◌}
use mathlib.Core.Bool.{true, false}
use mathlib.Core.List.{List, [], ◌∷◌, ◌++◌}
use mathlib.Core.Logic.{◌⊎◌, inl, inr}
use mathlib.Core.Path.{◌≡◌, refl, ap}
use native.Mathlib.Omega.{arith}
use lib.Dec.{lit<}
use lib.ListN.{length, get_or, replicate}
use Rattle.geometry.specs.declared.State.{State}
use Rattle.record.specs.Life.{free}
use Rattle.record.specs.Sound.{sound}
use Rattle.record.specs.declared.Record.{Record}
use Rattle.array.specs.Opening.{opening}
use Rattle.history.specs.Account.{Account}
use Rattle.history.specs.Examples.{fill, small, after, kept, with_state, with_table, with_work}
use Rattle.history.specs.History.{History, opened_world, opened_account, Whole}
use Rattle.history.specs.History.{opened as begin, decayed}
use Rattle.history.specs.Promise.{Idle, Promise}
use Rattle.history.specs.Row.{block_at, opened_row}
use Rattle.history.specs.World.{World, Event, admit, report, step, scan, play, with_image}
use Rattle.history.proofs.Compute.{computed}
use Rattle.history.proofs.Decay.{block_decays}
use Rattle.history.proofs.Runs.{run, bookkeeping}

-- three cards, one stripe, one record, every byte zero, none out
abbrev zeros : List ℕ
zeros = replicate 48 0

abbrev start : World
start = opened_world (small 3 1) 255 (free ∷ []) (replicate 96 0) zeros

abbrev first : Account
first = opened_account (small 3 1) 255 zeros

history : History play start first
unfolding computed
history = begin (small 3 1) 255 (free ∷ []) (replicate 96 0) zeros refl

-- these calls made of it, in a history
abbrev ran : List Event → World
ran es = after play start es

abbrev noted : List Event → Account
noted es = kept play start first es

made : (es : List Event) → History play (ran es) (noted es)
made es = run play es history

-- where the one entry is not open, the stripe is idle
idle_of_one : (a : Account) → a.state.records ≡ 1 → ¬ ((a.entry 0).phase ≡ 1) → Idle a 0
idle_of_one a one shut i o = go i (let h : i < 1 = omega (arith, o.0) in h) o.1
  where
    go : (i : ℕ) → i < 1 → (a.entry i).phase ≡ 1 → ¬ ((a.entry i).stripe ≡ 0)
    go zero h p e = shut p
    go (suc i) h p e = omega arith

-- ---- at most one card is reported: two are out, and scan gives 4

pub lost_array : (w : World) × (a : Account) × History play w a × (¬ Promise play w a)
unfolding computed
lost_array = (ran (report 0 ∷ report 1 ∷ []), noted (report 0 ∷ report 1 ∷ []), made (report 0 ∷ report 1 ∷ []), λ p. wrong (p.lent_right scan))
  where
    wrong : (◌≡◌ {A = ℕ} 4 0) ⊎ (◌<◌ 4 4) → ⊥
    wrong (inl e) = omega arith
    wrong (inr e) = omega arith

-- and no engine could keep the row with two cards out: two arrays with right parity that agree on the one card left have different rows
pub two_out : (image image' : List ℕ)
    × ((opening (small 3 1) 255 (free ∷ []) (replicate 96 0) image).reply.number ≡ 0)
    × ((opening (small 3 1) 255 (free ∷ []) (replicate 96 0) image').reply.number ≡ 0)
    × (block_at start.state image 2 0 ≡ block_at start.state image' 2 0)
    × (¬ (opened_row start.state image 0 ≡ opened_row start.state image' 0))
unfolding computed opened_row
two_out = (zeros, fill 1 ++ fill 1 ++ fill 0, refl, refl, refl, wrong)
  where
    wrong : ◌≡◌ {A = List ℕ} (fill 0) (fill 1) → ⊥
    wrong e = let z : ◌≡◌ {A = ℕ} 0 1 = ap (λ (l : List ℕ). get_or l 0 0) e in omega arith

-- ---- the array is opened once: a read is admitted, and a second opening forgets it

abbrev reading : List Event
reading = admit false 0 1 [] ∷ []

pub opened_again : (w : World) × (a : Account) × History play w a × Whole a
    × ((opening (small 3 1) 255 w.table w.work w.image).reply.number ≡ 0)
    × (¬ Promise play (opened_world (small 3 1) 255 w.table w.work w.image) a)
unfolding bookkeeping
opened_again = (ran reading, noted reading, made reading, refl, refl, λ p. wrong (p.agrees 0 (lit< tt)).same_phase)
  where
    wrong : ◌≡◌ {A = ℕ} 0 1 → ⊥
    wrong e = omega arith

-- ---- the state goes from call to call: card 0 is reported and its block decays, then the state of before is lent; a read gives the decayed bytes

abbrev dead : World
dead = with_image (ran (report 0 ∷ [])) (fill 1 ++ replicate 32 0)

pub old_state : (w : World) × (a : Account) × History play w a × Whole a × (st : State)
    × (¬ Promise play (after play (with_state w st) (admit false 0 1 [] ∷ step 0 0 ∷ [])) (kept play (with_state w st) a (admit false 0 1 [] ∷ step 0 0 ∷ [])))
unfolding bookkeeping
old_state = (
  dead,
  noted (report 0 ∷ []),
  decayed (made (report 0 ∷ [])) (fill 1 ++ replicate 32 0) (block_decays (noted (report 0 ∷ [])).state zeros refl 0 0 (lit< tt) (record { is_card = lit< tt; is_out = refl }) (fill 1) refl),
  refl,
  start.state,
  λ p. wrong (p.reads 0 (lit< tt, refl) refl),
)
  where
    wrong : ◌≡◌ {A = List ℕ} (fill 1) (fill 0) → ⊥
    wrong e = let z : ◌≡◌ {A = ℕ} 1 0 = ap (λ (l : List ℕ). get_or l 0 0) e in omega arith

-- ---- the table goes from call to call: one from elsewhere, sound, whose open record has counted 2n+2 with nothing done; one more step is
-- accepted, and then the table is not sound and scan gives 3

abbrev foreign : List Record
foreign = record { phase = 1; write = 0; stripe = 0; mask = 3; graph = 1; chosen = 255; done = 0; count = 6 } ∷ []

pub foreign_table : (w : World) × (a : Account) × History play w a × Whole a × (table : List Record) × (sound w.state table ≡ true)
    × (¬ Promise play (after play (with_table w table) (step 0 0 ∷ [])) (kept play (with_table w table) a (step 0 0 ∷ [])))
unfolding bookkeeping
foreign_table = (start, first, history, refl, foreign, refl, λ p. wrong (p.lent_right scan))
  where
    wrong : (◌≡◌ {A = ℕ} 3 0) ⊎ (◌<◌ 4 3) → ⊥
    wrong (inl e) = omega arith
    wrong (inr e) = omega arith

-- ---- the work store goes from call to call: a write of 5 to unit 0 is admitted, then a work store of zeros is lent; the write ends and the card
-- holds 0

abbrev writing : List Event
writing = admit true 0 1 (fill 5) ∷ []

abbrev its_steps : List Event
its_steps = step 0 1 ∷ step 0 3 ∷ step 0 4 ∷ step 0 6 ∷ []

pub foreign_work : (w : World) × (a : Account) × History play w a × Whole a × (work : List ℕ) × (length work ≡ length w.work)
    × (¬ Promise play (after play (with_work w work) its_steps) (kept play (with_work w work) a its_steps))
unfolding bookkeeping
foreign_work = (
  ran writing,
  noted writing,
  made writing,
  refl,
  replicate 96 0,
  refl,
  λ p. wrong
      (p.units 0 (lit< tt) (idle_of_one (kept play (with_work (ran writing) (replicate 96 0)) (noted writing) its_steps) refl (λ e. omega arith))
      (λ e. omega arith)),
)
  where
    wrong : ◌≡◌ {A = List ℕ} (fill 0) (fill 5) → ⊥
    wrong e = let z : ◌≡◌ {A = ℕ} 0 5 = ap (λ (l : List ℕ). get_or l 0 0) e in omega arith

-- ---- nobody alters a block that is not missing: one byte of card 0 altered, and block 0 is not the row's

abbrev altered : List ℕ
altered = 1 ∷ replicate 47 0

pub altered_card : (w : World) × (a : Account) × History play w a × Whole a × (image : List ℕ) × (length image ≡ length w.image)
    × (¬ Promise play (with_image w image) a)
unfolding bookkeeping
altered_card = (
  start,
  first,
  history,
  refl,
  altered,
  refl,
  λ p. wrong (p.units 0 (lit< tt) (idle_of_one first refl (λ e. omega arith)) (λ e. omega arith)),
)
  where
    wrong : ◌≡◌ {A = List ℕ} (1 ∷ replicate 15 0) (replicate 16 0) → ⊥
    wrong e = let z : ◌≡◌ {A = ℕ} 1 0 = ap (λ (l : List ℕ). get_or l 0 0) e in omega arith
