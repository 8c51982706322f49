-- What refusal 1 leaves of a state's marks, and that a report, a start and a stripe filled leave a state within its limits.
-- Assumes nothing.
use Prim.Native.Nat.{ℕ, ◌<◌}
use mathlib.Core.Bool.{true, false, not}
use mathlib.Core.Logic.{◌⊎◌}
use mathlib.Core.Path.{◌≡◌}
use native.Mathlib.Omega.{arith}
use Rattle.std.proofs.lemmas.Bool.Decides.{nat_tests}
use Rattle.geometry.specs.Fill.{moved_on}
use Rattle.geometry.specs.Limits.{none, no_fill, under_way, legal_out, legal_fill, beyond, beyond_state, geometry_of}
use Rattle.geometry.specs.Report.{with_out, with_fill}
use Rattle.geometry.specs.declared.State.{State}
use Rattle.geometry.proofs.Asked.{BoundsOf}
use Rattle.geometry.proofs.Bounds.{within_limits, within_limits_out}

-- a state that is within its limits has a geometry that is, and a legal fill place
module _ (st : State) (within : beyond_state st ≡ false) where
  pub state_geometry : beyond (geometry_of st) st.out ≡ false
  unfolding beyond_state
  state_geometry = grind (arith, nat_tests)

  pub state_bounds : BoundsOf st
  state_bounds = within_limits (geometry_of st) st.out state_geometry

  pub state_out : (st.out < st.cards) ⊎ (st.out ≡ none)
  state_out = within_limits_out (geometry_of st) st.out state_geometry

  pub legal_fill_law : not (legal_fill st.stripes st.out st.fill) ≡ false
  unfolding beyond_state
  legal_fill_law = grind (arith, nat_tests)

  -- no fill is under way, or its place is a stripe's, and a card is out
  pub state_fill : (st.fill ≡ no_fill) ⊎ ((st.fill < st.stripes) × ¬ (st.out ≡ none))
  unfolding legal_fill
  state_fill = grind (arith, nat_tests, legal_fill_law)

  pub state_filling : under_way st ≡ true → (st.fill < st.stripes) × ¬ (st.out ≡ none)
  unfolding beyond_state legal_fill
  state_filling way = grind (arith, nat_tests)

-- the other way: with no fill under way the geometry and the card out decide
pub still_beyond : (st : State) → st.fill ≡ no_fill → beyond_state st ≡ beyond (geometry_of st) st.out
unfolding beyond_state legal_fill
still_beyond st e = grind (arith, nat_tests)

-- with one under way, its place and that a card is out do too
pub filling_within : (st : State) → beyond (geometry_of st) st.out ≡ false → st.fill < st.stripes → ¬ (st.out ≡ none) → beyond_state st ≡ false
unfolding beyond_state legal_fill
filling_within st e l d = grind (arith, nat_tests)

module _ (st : State) (within : beyond_state st ≡ false) where
  -- with the first card out
  pub out_within : (c : ℕ) → st.out ≡ none → c < st.cards → beyond_state (with_out st c) ≡ false
  unfolding beyond_state beyond legal_out legal_fill
  out_within c e l = grind (arith, nat_tests)

  -- with the fill ended
  pub ended_within : beyond_state (with_fill st no_fill) ≡ false
  unfolding beyond_state legal_fill
  ended_within = grind (arith, nat_tests)

  -- with the fill begun, or moved on
  pub placed_within : (s : ℕ) → s < st.stripes → ¬ (st.out ≡ none) → beyond_state (with_fill st s) ≡ false
  unfolding beyond_state legal_fill
  placed_within s l d = grind (arith, nat_tests)

  pub moved_within : ¬ (st.out ≡ none) → beyond_state (moved_on st) ≡ false
  unfolding moved_on beyond_state beyond legal_out legal_fill
  moved_within d = grind (arith, nat_tests)

-- moving on leaves the geometry and the mark of a lost array
pub moved_geometry : (st : State) → geometry_of (moved_on st) ≡ geometry_of st
unfolding moved_on
moved_geometry st = grind (arith, nat_tests)

pub moved_lost : (st : State) → (moved_on st).lost ≡ st.lost
unfolding moved_on
moved_lost st = grind (arith, nat_tests)
