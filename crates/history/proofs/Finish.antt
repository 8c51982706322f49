-- Every open request can be brought to its end: some steps of it, at most 2n+3 less those that it has taken, are each accepted, and then it is
-- finished.
-- Assumes nothing.
use Prim.Native.Nat.{ℕ, zero, suc, ◌+◌, ◌-◌, ◌*◌, ◌≤◌}
use mathlib.Core.Bool.{true, false}
use mathlib.Core.List.{List, [], ◌∷◌, map}
use mathlib.Core.Logic.{◌⊎◌, inl, inr}
use mathlib.Core.Path.{◌≡◌, refl}
use native.Mathlib.Omega.{arith}
use borrow.Author.Tests.{eq-eqb}
use lib.ListN.{length}
use Rattle.terms.proofs.Rows.{truth}
use Rattle.record.specs.Life.{is_finished, units_of}
use Rattle.stripe.specs.Blocks.{changed}
use Rattle.history.specs.Account.{Account, counted, step_noted, entered, noted}
use Rattle.history.specs.Examples.{kept}
use Rattle.history.specs.History.{History, next, Whole}
use Rattle.history.specs.Promise.{Open, Finished, Keeps}
use Rattle.history.specs.World.{World, step, Engine, play, record_at}
use Rattle.history.proofs.Demand3.{demand_3}

-- ---- an accepted step of an open request

module _ (engine : Engine) (w : World) (a : Account) (i k : ℕ) (ok : (engine w (step i k)).reply.number ≡ 0) where
  -- the array stays as it was noted
  state_stays : (noted engine w a (step i k)).state ≡ a.state
  unfolding noted entered step_noted
  state_stays = rw ok

  -- it is counted
  step_counts : ((noted engine w a (step i k)).entry i).steps ≡ (a.entry i).steps + 1
  unfolding noted entered step_noted counted changed
  step_counts = rw (ok, eq-eqb i i refl)

  -- and the request is finished, or still open
  step_leaves : (a.entry i).phase ≡ 1 → (((noted engine w a (step i k)).entry i).phase ≡ 1) ⊎ (((noted engine w a (step i k)).entry i).phase ≡ 2)
  unfolding noted entered step_noted counted changed
  step_leaves o = go (truth (is_finished (record_at (engine w (step i k)).world i)))
    where
      go : (is_finished (record_at (engine w (step i k)).world i) ≡ true) ⊎ (is_finished (record_at (engine w (step i k)).world i) ≡ false)
          → (((noted engine w a (step i k)).entry i).phase ≡ 1) ⊎ (((noted engine w a (step i k)).entry i).phase ≡ 2)
      go (inl f) = inr (rw (ok, eq-eqb i i refl, f))
      go (inr f) = inl (rw (ok, eq-eqb i i refl, f) o)

-- ---- step after step

-- of any engine that keeps the promise
module _ (engine : Engine) (keeps : Keeps engine) where
  finish : (m : ℕ) {w : World} {a : Account} → History engine w a → Whole a → (i : ℕ) → Open a i
      → 2 * units_of a.state + 3 ≤ (a.entry i).steps + m
      → (ks : List ℕ) × (length ks ≤ m) × Finished (kept engine w a (map (step i) ks)) i
  unfolding kept Keeps
  finish zero {w} {a} h whole i o room = absurd (omega (arith, (keeps w a h whole).most_open i o))
  finish (suc m) {w} {a} h whole i o room =
      let k = (keeps w a h whole).progress i o in
      go k.0 k.1 (step_leaves engine w a i k.0 k.1 o.1) (λ whole' o' room'. finish m (next h (step i k.0)) whole' i o' room')
    where
      go : (k : ℕ) → (engine w (step i k)).reply.number ≡ 0
          → (((noted engine w a (step i k)).entry i).phase ≡ 1) ⊎ (((noted engine w a (step i k)).entry i).phase ≡ 2)
          → (Whole (noted engine w a (step i k)) → Open (noted engine w a (step i k)) i
          → 2 * units_of (noted engine w a (step i k)).state + 3 ≤ ((noted engine w a (step i k)).entry i).steps + m
          → (ks : List ℕ) × (length ks ≤ m) × Finished (kept engine (engine w (step i k)).world (noted engine w a (step i k)) (map (step i) ks)) i)
          → (ks : List ℕ) × (length ks ≤ suc m) × Finished (kept engine w a (map (step i) ks)) i
      go k ok (inr f) more = (k ∷ [], omega arith, (rw (state_stays engine w a i k ok) o.0, f))
      go k ok (inl o') more =
          let stays = state_stays engine w a i k ok in
          let rest = more (unfold Whole in rw stays whole) (rw stays o.0, o') (rw stays (omega (arith, step_counts engine w a i k ok))) in
          (k ∷ rest.0, omega (arith, rest.1), rest.2)

  -- every open request of a history in which the array is not lost can be brought to its end
  pub brought_to_end : {w : World} {a : Account} → History engine w a → Whole a → (i : ℕ) → Open a i
      → (ks : List ℕ) × (length ks + (a.entry i).steps ≤ 2 * units_of a.state + 3) × Finished (kept engine w a (map (step i) ks)) i
  unfolding Keeps
  brought_to_end {w} {a} h whole i o =
      let most = (keeps w a h whole).most_open i o in
      let end = finish (2 * units_of a.state + 3 - (a.entry i).steps) h whole i o (omega arith) in
      (end.0, omega (arith, end.1), end.2)

-- and so of ours
pub ours_brought_to_end : {w : World} {a : Account} → History play w a → Whole a → (i : ℕ) → Open a i
    → (ks : List ℕ) × (length ks + (a.entry i).steps ≤ 2 * units_of a.state + 3) × Finished (kept play w a (map (step i) ks)) i
ours_brought_to_end = brought_to_end play demand_3
