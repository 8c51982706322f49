-- DEMAND 3, a whole fill and the serial theorem, of what the contracts say: at the end of every run in which the array is not lost, whatever
-- outcomes it had of those that the contracts allow. What a run is stands in specs/; the promise, what a fill comes to and the words of the serial
-- theorem in crates/history/specs.
-- Assumes nothing.
use Prim.Native.Nat.{ℕ}
use mathlib.Core.Bool.{false}
use mathlib.Core.List.{List}
use mathlib.Core.Path.{◌≡◌, sym, subst, fun_ext}
use Rattle.geometry.specs.Limits.{none, under_way}
use Rattle.history.specs.Account.{Account}
use Rattle.history.specs.History.{Whole}
use Rattle.history.specs.Promise.{Open, Promise, Keeps, Refills, FillsUp}
use Rattle.history.specs.Serial as history
use Rattle.history.specs.Serial.{Seen, Serial}
use Rattle.history.specs.World.{World, Event, Engine, play}
use Rattle.history.proofs.Demand3.{demand_3, meets_contracts, whole_fill}
use Rattle.history.proofs.Refill.{fills_up}
use Rattle.history.proofs.Serial.{play_serial}
use Rattle.client.specs.Run.{Contracts, calls, functions, Run, first_of, seen_of, Meets}
use Rattle.client.proofs.Runs.{Fixed, calls_fixed, functions_fixed, is_history}

module _ {by : Contracts} (fixed : Fixed by) where
  -- an engine that meets the contracts does what `play` does
  plays : (engine : Engine) → Meets by engine → (w : World) (e : Event) → engine w e ≡ play w e
  unfolding Meets
  plays engine meets w e = fixed.plays_so (meets w e)

  is_play : (engine : Engine) → Meets by engine → engine ≡ play
  is_play engine meets = fun_ext (λ w. fun_ext (λ e. plays engine meets w e))

  -- whatever comes next, by such an engine
  run_keeps : {w : World} {a : Account} → Run by w a → Whole a → (engine : Engine) → Meets by engine → Promise engine w a
  unfolding Keeps
  run_keeps {w} {a} r whole engine meets =
      subst (λ (e : Engine). Promise e w a) (sym (is_play engine meets)) (demand_3 w a (is_history fixed r).history whole)

  -- and so at the end of every history of such an engine
  engine_keeps : (engine : Engine) → Meets by engine → Keeps engine
  engine_keeps engine meets = meets_contracts engine (plays engine meets)

  -- where a card is out, no fill is under way and no request is open, it brings a fill to its end
  run_fills : {w : World} {a : Account} → Run by w a → Whole a → ¬ (a.state.out ≡ none) → under_way a.state ≡ false → ((i : ℕ) → ¬ Open a i)
      → (engine : Engine) → Meets by engine → Refills engine w a
  unfolding FillsUp
  run_fills {w} {a} r whole one_out still closed engine meets =
      subst (λ (e : Engine). Refills e w a) (sym (is_play engine meets)) (fills_up w a (is_history fixed r).history whole one_out still closed)

  engine_fills : (engine : Engine) → Meets by engine → FillsUp engine
  engine_fills engine meets = whole_fill engine (plays engine meets)

  run_serial : {w : World} {a : Account} (r : Run by w a) → Whole a → Serial (first_of r) (seen_of r) w a
  run_serial {w} {a} r whole =
      let same = is_history fixed r in
      subst (λ (seen : List Seen). Serial (first_of r) seen w a) same.same_seen
      (subst (λ (first : Account). Serial first (history.seen_of same.history) w a) same.same_first (play_serial same.history whole))

-- of the calls that are lent the table
pub calls_keep : {w : World} {a : Account} → Run calls w a → Whole a → (engine : Engine) → Meets calls engine → Promise engine w a
calls_keep = run_keeps calls_fixed

pub calls_engine : (engine : Engine) → Meets calls engine → Keeps engine
calls_engine = engine_keeps calls_fixed

pub calls_fill : {w : World} {a : Account} → Run calls w a → Whole a → ¬ (a.state.out ≡ none) → under_way a.state ≡ false → ((i : ℕ) → ¬ Open a i)
    → (engine : Engine) → Meets calls engine → Refills engine w a
calls_fill = run_fills calls_fixed

pub calls_engine_fills : (engine : Engine) → Meets calls engine → FillsUp engine
calls_engine_fills = engine_fills calls_fixed

pub calls_serial : {w : World} {a : Account} (r : Run calls w a) → Whole a → Serial (first_of r) (seen_of r) w a
calls_serial = run_serial calls_fixed

-- and of the C functions, with their answers read as docs/C-INTERFACE.md says
pub functions_keep : {w : World} {a : Account} → Run functions w a → Whole a → (engine : Engine) → Meets functions engine → Promise engine w a
functions_keep = run_keeps functions_fixed

pub functions_engine : (engine : Engine) → Meets functions engine → Keeps engine
functions_engine = engine_keeps functions_fixed

pub functions_fill : {w : World} {a : Account} → Run functions w a → Whole a → ¬ (a.state.out ≡ none) → under_way a.state ≡ false → ((i : ℕ) → ¬ Open a i)
    → (engine : Engine) → Meets functions engine → Refills engine w a
functions_fill = run_fills functions_fixed

pub functions_engine_fills : (engine : Engine) → Meets functions engine → FillsUp engine
functions_engine_fills = engine_fills functions_fixed

pub functions_serial : {w : World} {a : Account} (r : Run functions w a) → Whole a → Serial (first_of r) (seen_of r) w a
functions_serial = run_serial functions_fixed
