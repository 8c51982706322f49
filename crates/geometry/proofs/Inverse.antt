-- The two directions of placement are inverse: wherever one is accepted, the other leads back.
-- Assumes nothing.
use Prim.Native.Nat.{ℕ, zero-le, ◌+◌, ◌-◌, ◌*◌, ◌/◌, ◌%◌, ◌<◌}
use mathlib.Core.Bool.{false}
use mathlib.Core.Path.{◌≡◌, ap, sym, ◌∙◌}
use native.Mathlib.Nat.{le_refl, lt_of_le_of_lt, lt_of_lt_of_le, mod-lt, mul_comm, div-lt_iff_lt-mul, div-add-mod}
use native.Mathlib.Omega.{arith}
use Rattle.terms.specs.Reply.{Reply, accepted, first_row}
use Rattle.std.proofs.lemmas.Bool.Decides.{nat_tests}
use Rattle.geometry.specs.Answers.{beyond_places, place_refusal, place_reply, block_at_refusal, block_at_reply}
use Rattle.geometry.specs.Placement.{stripe_of, unit_of, card_of, block_of, position_of}
use Rattle.geometry.proofs.Answered.{places_bounds, blocks_few, place_found, block_at_found}
use Rattle.geometry.proofs.Grid.{grid_inside, grid_row, grid_column}
use Rattle.geometry.proofs.Placing.{placed}

module _ (N S layout : ℕ) where
  -- what an accepted placement tells
  pub record Found (L : ℕ) : Type 0 where
    pub within : beyond_places N S layout ≡ false
    pub below : L < (N - 1) * S

  pub found : (L v w : ℕ) → place_reply N S layout L ≡ accepted v w → Found L
  unfolding place_reply place_refusal first_row
  found L v w e = grind (arith, nat_tests)

  -- what an accepted block number tells
  pub record Holds (c s L : ℕ) : Type 0 where
    pub within : beyond_places N S layout ≡ false
    pub card : c < N
    pub stripe : s < S
    pub unit : ¬ (position_of N layout s c ≡ N - 1)
    pub number : L ≡ block_of N s (position_of N layout s c)

  pub holds : (c s L : ℕ) → block_at_reply N S layout c s ≡ accepted 0 L → Holds c s L
  unfolding block_at_reply block_at_refusal first_row
  holds c s L e = grind (arith, nat_tests)

  -- the card that holds a block in its stripe holds that block
  pub place_back : (L c s : ℕ) → place_reply N S layout L ≡ accepted c s → block_at_reply N S layout c s ≡ accepted 0 L
  place_back L c s e =
      let f = found L c s e in
      let b = places_bounds N S layout f.within in
      let some : 0 < N - 1 = omega (arith, b.cards_low) in
      let q = sym (place_found N S layout L f.within f.below) ∙ e in
      let unit = mod-lt L some in
      let small : unit_of N L < N = omega arith in
      let cards : 0 < N = omega arith in
      let stripe : stripe_of N L < S = (div-lt_iff_lt-mul some).1 (omega (arith, f.below)) in
      let position = (placed N layout cards).position_card (stripe_of N L) (unit_of N L) small in
      rw (← ap (λ (r : Reply). r.first) q, ← ap (λ (r : Reply). r.second) q)
      (block_at_found N S layout (card_of N layout L) (stripe_of N L) f.within ((placed N layout cards).card_below (stripe_of N L) (unit_of N L) small) stripe (λ p. let z = sym position ∙ p in omega arith)
      ∙ ap (accepted 0) (ap (block_of N (stripe_of N L)) position ∙ div-add-mod L (N - 1)))

  -- and the block that a card holds in a stripe is on that card in that stripe
  pub block_at_back : (c s L : ℕ) → block_at_reply N S layout c s ≡ accepted 0 L → place_reply N S layout L ≡ accepted c s
  block_at_back c s L e =
      let h = holds c s L e in
      let n = N - 1 in
      let p = position_of N layout s c in
      let cards : 0 < N = lt_of_le_of_lt zero-le h.card in
      let unit : p < n = let q = (placed N layout cards).position_below s c h.card in let u = h.unit in omega arith in
      let number : L ≡ s * n + p = h.number ∙ ap (λ (k : ℕ). k + p) (mul_comm n s) in
      let stripe : stripe_of N L ≡ s = ap (λ (k : ℕ). k / n) number ∙ grid_row n s p unit in
      let place : unit_of N L ≡ p = ap (λ (k : ℕ). k % n) number ∙ grid_column n s p unit in
      let below : L < n * S = omega (arith, number, grid_inside n S s p h.stripe unit) in
      place_found N S layout L h.within below ∙ rw (stripe, place, (placed N layout cards).card_position s c h.card)

  -- the values of an accepted answer are small: a card is below 8, a stripe below 1,024, a block number below 7,168
  pub placed_small : (L c s : ℕ) → place_reply N S layout L ≡ accepted c s → (c < 8) × (s < 1024)
  placed_small L c s e =
      let h = holds c s L (place_back L c s e) in
      let b = places_bounds N S layout h.within in
      (lt_of_lt_of_le h.card b.cards_high, lt_of_lt_of_le h.stripe b.stripes_high)

  pub held_small : (c s L : ℕ) → block_at_reply N S layout c s ≡ accepted 0 L → L < 7168
  held_small c s L e =
      let f = found L c s (block_at_back c s L e) in
      lt_of_lt_of_le f.below (blocks_few N S layout f.within S (le_refl S))
