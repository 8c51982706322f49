-- What the numbers of a state within its limits are, each by itself, for the code's own arithmetic.
-- Assumes nothing.
use Prim.Native.Nat.{ℕ, ◌*◌, ◌^◌, ◌≤◌, ◌<◌}
use mathlib.Core.Bool.{false}
use mathlib.Core.Path.{◌≡◌}
use native.Mathlib.Nat.{mul-le-mul}
use native.Mathlib.Omega.{arith}
use lib.Count.{ones, ones-le}
use Rattle.geometry.specs.Limits.{beyond_state}
use Rattle.geometry.specs.declared.State.{State}
use Rattle.geometry.proofs.States.{state_bounds}

module _ (st : State) (b : beyond_state st ≡ false) where
  pub some_cards : 3 ≤ st.cards
  some_cards = (state_bounds st b).cards_low

  pub few_cards : st.cards ≤ 8
  few_cards = (state_bounds st b).cards_high

  pub few_stripes : st.stripes ≤ 1024
  few_stripes = (state_bounds st b).stripes_high

  pub small_block : st.block ≤ 512
  small_block = (state_bounds st b).block_high

  pub few_records : st.records ≤ 8
  few_records = (state_bounds st b).records_high

  -- no product wraps
  pub few_cells : st.cards * st.stripes ≤ 8192
  few_cells = mul-le-mul few_cards few_stripes

  pub small_image : st.cards * st.stripes * st.block ≤ 4194304
  small_image = mul-le-mul few_cells small_block

  pub small_row : 2 * st.cards * st.block ≤ 8192
  small_row = mul-le-mul (let twice : 2 * st.cards ≤ 16 = omega (arith, few_cards) in twice) small_block

  pub small_work : 2 * st.cards * st.block * st.records ≤ 65536
  small_work = mul-le-mul small_row few_records

  -- a word has at most 64 ones
  pub small_units : (mask : ℕ) → mask < 2 ^ 64 → ones mask * st.block ≤ 32768
  small_units mask h = mul-le-mul (ones-le 64 mask h) small_block

pub ruleset within = (some_cards, few_cards, few_stripes, small_block, few_records)

pub ruleset products = (few_cells, small_image, small_row, small_work, small_units)
