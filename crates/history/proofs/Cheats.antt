-- Engines that do the work and cheat the client's books: each lies in the state or in the table, where an account that believed them would let
-- it pass. Each breaks the promise in a run that is shown by computation.
-- Assumes nothing.
use Prim.Native.Nat.{ℕ, ◌+◌, ◌*◌, ◌≤◌, ◌<◌}
use mathlib.Core.Bool.{Bool, true, false, cond, ◌&&◌}
use mathlib.Core.List.{List, [], ◌∷◌, ◌++◌}
use mathlib.Core.Path.{◌≡◌, refl, ap}
use native.Mathlib.Omega.{arith}
use lib.Dec.{eqb, ltb, leb, lit<}
use lib.ListN.{get_or, set, replicate}
use Rattle.geometry.specs.Report.{with_lost}
use Rattle.geometry.specs.declared.State.{State}
use Rattle.record.specs.Life.{free, is_open, is_finished, units_of}
use Rattle.record.specs.declared.Record.{Record}
use Rattle.history.specs.Examples.{fill, with_state, with_table}
use Rattle.history.specs.Promise.{Keeps}
use Rattle.history.specs.World.{Event, admit, step, report, collect, scan, start as start_fill, rebuild, Outcome, Engine, play, record_at}
use Rattle.history.proofs.Runs.{begun, run, bookkeeping, kind_of, record_of, accepts, leaving}

-- ---- one that accepts reports and forgets them

unfoldable pub forgetful : Engine
forgetful w e = let o = play w e in cond (eqb (kind_of e) 3) (leaving o (with_state o.world w.state)) o

-- card 1 is reported, and the state says that none is out
pub forgetful_told : ¬ Keeps forgetful
unfolding bookkeeping forgetful kind_of
forgetful_told keeps = wrong (ap (λ (st : State). st.out) (keeps _ _ (run forgetful (report 1 ∷ []) (begun forgetful)) refl).same_state)
  where
    wrong : ◌≡◌ {A = ℕ} 255 1 → ⊥
    wrong e = omega arith

-- ---- one that marks the array lost at the first admission, and so is held to nothing

unfoldable pub loser : Engine
loser w e = let o = play w e in cond (accepts 1 e o) (leaving o (with_state o.world (with_lost o.world.state))) o

-- a read is admitted, no card was ever reported, and the array is marked as lost
pub loser_told : ¬ Keeps loser
unfolding bookkeeping loser kind_of
loser_told keeps = wrong (ap (λ (st : State). st.lost) (keeps _ _ (run loser (admit false 0 1 [] ∷ []) (begun loser)) refl).same_state)
  where
    wrong : ◌≡◌ {A = ℕ} 1 0 → ⊥
    wrong e = omega arith

-- ---- one that frees the record in the middle of a write: after the write of a unit, with parity still to come

-- the record of a call as it was left
abbrev record_left : Event → Outcome → Record
record_left e o = record_at o.world (record_of e)

-- the outcome with that record replaced
abbrev replaced : Event → Record → Outcome → Outcome
replaced e r o = leaving o (with_table o.world (set o.world.table (record_of e) r))

-- the step writes a unit: n+2 to 2n+1
unfoldable pub writes_unit : ℕ → Event → Bool
writes_unit n (admit write s mask payload) = false
writes_unit n (step i k) = leb (n + 2) k && ltb k (2 * n + 2)
writes_unit n (report c) = false
writes_unit n (collect i result) = false
writes_unit n scan = false
writes_unit n start_fill = false
writes_unit n rebuild = false

unfoldable pub dropper : Engine
dropper w e = let o = play w e in cond (accepts 2 e o && writes_unit (units_of w.state) e && is_open (record_left e o)) (replaced e free o) o

-- 33 is written to unit 1 up to its own write: the request is open, and its record is free
pub dropper_told : ¬ Keeps dropper
unfolding bookkeeping dropper kind_of record_of writes_unit
dropper_told keeps =
    wrong
    ((keeps _ _ (run dropper (admit true 0 2 (fill 0x33) ∷ step 0 1 ∷ step 0 3 ∷ step 0 4 ∷ step 0 6 ∷ []) (begun dropper)) refl).agrees 0 (lit< tt)).same_phase
  where
    wrong : ◌≡◌ {A = ℕ} 0 1 → ⊥
    wrong e = omega arith

-- ---- one that calls a request finished after its first step

-- the record in another phase, with other done steps
abbrev in_phase : ℕ → ℕ → Record → Record
in_phase phase done r =
    record {
      phase = phase;
      write = r.write;
      stripe = r.stripe;
      mask = r.mask;
      graph = r.graph;
      chosen = r.chosen;
      done = done;
      count = r.count;
    }

unfoldable pub hasty : Engine
hasty w e = let o = play w e in cond (accepts 2 e o) (replaced e (in_phase 2 (record_left e o).done (record_left e o)) o) o

-- a read of units 0 and 1 is called finished when it has read unit 0: the second block is not the row's
pub hasty_told : ¬ Keeps hasty
unfolding bookkeeping hasty kind_of record_of
hasty_told keeps = wrong ((keeps _ _ (run hasty (admit false 0 3 [] ∷ step 0 0 ∷ []) (begun hasty)) refl).reads 0 (lit< tt, refl) refl)
  where
    wrong : ◌≡◌ {A = List ℕ} (replicate 16 0x11 ++ replicate 16 0) (replicate 16 0x11 ++ replicate 16 0x22) → ⊥
    wrong e = let z : ◌≡◌ {A = ℕ} 0 0x22 = ap (λ (l : List ℕ). get_or l 16 0) e in omega arith

-- ---- one that never lets a request end: at its last step it forgets the done ones

unfoldable pub staller : Engine
staller w e = let o = play w e in cond (accepts 2 e o && is_finished (record_left e o)) (replaced e (in_phase 1 0 (record_left e o)) o) o

-- a read of one unit, n = 3, after 2n+3 accepted steps: it is open
pub staller_told : ¬ Keeps staller
unfolding bookkeeping staller kind_of record_of
staller_told keeps =
    wrong _ (lit< tt)
    ((keeps _ _ (run staller (admit false 0 1 [] ∷ step 0 0 ∷ step 0 0 ∷ step 0 0 ∷ step 0 0 ∷ step 0 0 ∷ step 0 0 ∷ step 0 0 ∷ step 0 0 ∷ step 0 0 ∷ []) (begun staller)) refl
    ).most_open 0 (lit< tt, refl))
  where
    wrong : (most : ℕ) → most < 9 → 9 ≤ most → ⊥
    wrong most h l = omega arith
