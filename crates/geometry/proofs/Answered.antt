-- What placement answers where it is accepted.
-- Assumes nothing.
use Prim.Native.Nat.{ℕ, ◌-◌, ◌*◌, ◌≤◌, ◌<◌}
use mathlib.Core.Bool.{false, cond}
use mathlib.Core.Path.{◌≡◌}
use native.Mathlib.Nat.{mul-le-mul, le_trans}
use native.Mathlib.Omega.{arith}
use lib.Dec.{leb}
use Rattle.std.proofs.lemmas.Bool.Decides.{nat_tests}
use Rattle.terms.specs.Reply.{first_row, accepted, refused}
use Rattle.geometry.specs.Answers.{places_of, beyond_places, place_refusal, place_reply, block_at_refusal, block_at_reply}
use Rattle.geometry.specs.Limits.{none}
use Rattle.geometry.specs.Placement.{stripe_of, card_of, block_of, position_of}
use Rattle.geometry.proofs.Bounds.{Bounds, within_limits}
use Rattle.geometry.proofs.Placing.{card_of_4, card_of_5, position_small}

module _ (N S layout : ℕ) where
  -- within the limits, with B taken as 16 and K as 1
  pub places_bounds : beyond_places N S layout ≡ false → Bounds N S 16 1
  places_bounds e = within_limits (places_of N S layout) none e

  -- there are at most 7,168 blocks, so their numbers are small
  pub blocks_few : beyond_places N S layout ≡ false → (s : ℕ) → s ≤ S → (N - 1) * s ≤ 7168
  blocks_few e s h =
      let b = places_bounds e in
      let n : N - 1 ≤ 7 = omega arith in
      mul-le-mul n (le_trans h b.stripes_high)

  module _ (L : ℕ) where
    pub place_found : beyond_places N S layout ≡ false → L < (N - 1) * S → place_reply N S layout L ≡ accepted (card_of N layout L) (stripe_of N L)
    unfolding place_reply place_refusal first_row
    place_found e h = grind (arith, nat_tests)

    -- and where there is no such block, as one test, with the block's card found in another way
    pub place_tested : (c : ℕ) → beyond_places N S layout ≡ false → card_of N layout L ≡ c → cond (leb ((N - 1) * S) L) (refused 5) (accepted c (stripe_of N L)) ≡ place_reply N S layout L
    unfolding place_reply place_refusal first_row
    place_tested c e f = grind (arith, nat_tests)

  module _ (c s : ℕ) where
    pub block_at_parity : beyond_places N S layout ≡ false → c < N → s < S → position_of N layout s c ≡ N - 1 → block_at_reply N S layout c s ≡ accepted 1 0
    unfolding block_at_reply block_at_refusal first_row
    block_at_parity e hc hs p = grind (arith, nat_tests)

    pub block_at_found : beyond_places N S layout ≡ false → c < N → s < S → ¬ (position_of N layout s c ≡ N - 1) → block_at_reply N S layout c s ≡ accepted 0 (block_of N s (position_of N layout s c))
    unfolding block_at_reply block_at_refusal first_row
    block_at_found e hc hs p = grind (arith, nat_tests)

-- what `place` and `block_at` cite
pub ruleset dealing = (places_bounds, blocks_few, place_tested, card_of_4, card_of_5)

pub ruleset holding = (places_bounds, blocks_few, position_small)
