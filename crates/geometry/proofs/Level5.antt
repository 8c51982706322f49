-- Layout 5, the left-symmetric one, is a placement: in each stripe positions and cards are in bijection, and the last position is the parity card's. And
-- it deals the blocks to the cards in turn: block L is on card L mod N.
-- Assumes nothing.
use Prim.Native.Nat.{ℕ, zero, ◌+◌, ◌-◌, ◌*◌, ◌/◌, ◌%◌, ◌≤◌, ◌<◌}
use mathlib.Core.Path.{◌≡◌, ap, sym, ◌∙◌}
use native.Mathlib.Nat.{mul-add, add-mul, one-mul, div-add-mod, div-le_self, mod-lt, mod-eq_of_lt, mod-add-mod, add-mod-mod, add-mod_left, add-mod_right, mul-add-mod_self_left}
use native.Mathlib.Omega.{arith}
use Rattle.geometry.specs.Level5.{parity_card, card_at5, position_of5}
use Rattle.geometry.specs.Placing.{Placing}

module _ (N : ℕ) (some : zero < N) where
  pub card_at_below : (s j : ℕ) → card_at5 N s j < N
  unfolding card_at5
  card_at_below s j = mod-lt (parity_card N s + 1 + j) some

  pub position_of_below : (s c : ℕ) → position_of5 N s c < N
  unfolding position_of5
  position_of_below s c = mod-lt (c + s % N) some

  -- the turn of stripe s one way and back is one whole turn
  turned : (s i : ℕ) → i < N → (parity_card N s + 1 + i + s % N) % N ≡ i
  unfolding parity_card
  turned s i h =
      let r : s % N < N = mod-lt s some in
      let e : parity_card N s + 1 + i + s % N ≡ N + i = omega arith in
      ap (λ (k : ℕ). k % N) e ∙ add-mod_left N i ∙ mod-eq_of_lt h

  pub position_of_card_at : (s j : ℕ) → j < N → position_of5 N s (card_at5 N s j) ≡ j
  unfolding card_at5 position_of5
  position_of_card_at s j h = mod-add-mod (parity_card N s + 1 + j) N (s % N) ∙ turned s j h

  pub card_at_position_of : (s c : ℕ) → c < N → card_at5 N s (position_of5 N s c) ≡ c
  unfolding card_at5 position_of5
  card_at_position_of s c h =
      let e : parity_card N s + 1 + (c + s % N) ≡ parity_card N s + 1 + c + s % N = omega arith in
      add-mod-mod (parity_card N s + 1) (c + s % N) N ∙ ap (λ (k : ℕ). k % N) e ∙ turned s c h

  -- position n comes to the parity card
  pub card_at_parity : (s : ℕ) → card_at5 N s (N - 1) ≡ parity_card N s
  unfolding card_at5 parity_card
  card_at_parity s =
      let e : parity_card N s + 1 + (N - 1) ≡ parity_card N s + N = omega arith in
      ap (λ (k : ℕ). k % N) e ∙ add-mod_right (parity_card N s) N ∙ mod-eq_of_lt (omega arith)

  -- the cards come round past the ends of stripes too: position j of stripe s is on card n·s + j mod N
  pub card_at_number : (s j : ℕ) → card_at5 N s j ≡ ((N - 1) * s + j) % N
  unfolding card_at5 parity_card
  card_at_number s j =
      let q = s / N in
      let r : s % N < N = mod-lt s some in
      let turns : N * q + s % N ≡ s = div-add-mod s N in
      let few : q ≤ s = div-le_self s N in
      let units : (N - 1) * s + s ≡ N * s = ap (λ (k : ℕ). (N - 1) * s + k) (sym (one-mul s)) ∙ sym (add-mul (N - 1) 1 s) ∙ ap (λ (k : ℕ). k * s) (omega arith) in
      let rest : N * (s - q) + N * q ≡ N * s = sym (mul-add N (s - q) q) ∙ ap (λ (k : ℕ). N * k) (omega arith) in
      let e : N * (s - q) + (parity_card N s + 1 + j) ≡ (N - 1) * s + j + N = omega arith in
      sym (mul-add-mod_self_left N (s - q) (parity_card N s + 1 + j)) ∙ ap (λ (k : ℕ). k % N) e ∙ add-mod_right ((N - 1) * s + j) N

  -- so block L, unit L mod n of stripe L div n, is on card L mod N
  pub card_at_block : (L : ℕ) → card_at5 N (L / (N - 1)) (L % (N - 1)) ≡ L % N
  card_at_block L = card_at_number (L / (N - 1)) (L % (N - 1)) ∙ ap (λ (k : ℕ). k % N) (div-add-mod L (N - 1))

  pub left_symmetric : Placing N (card_at5 N) (position_of5 N)
  left_symmetric =
      record {
        card_below = λ s j h. card_at_below s j;
        position_below = λ s c h. position_of_below s c;
        position_card = position_of_card_at;
        card_position = card_at_position_of;
      }
