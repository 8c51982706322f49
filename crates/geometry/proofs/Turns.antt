-- Layout 5 without a sum that could wrap: which card and which position, by whether the stripe's turn passes the last card.
-- Assumes nothing.
use Prim.Native.Nat.{ℕ, zero-le, ◌+◌, ◌-◌, ◌%◌, ◌≤◌, ◌<◌}
use mathlib.Core.Path.{◌≡◌, ap, ◌∙◌}
use native.Mathlib.Nat.{lt_of_le_of_lt, mod-lt, mod-eq_of_lt, add-mod_left}
use native.Mathlib.Omega.{arith}
use Rattle.geometry.specs.Level5.{parity_card, card_at5, position_of5}

module _ (N s i : ℕ) where
  pub turn_below : i < N → s % N < N
  turn_below h = mod-lt s (lt_of_le_of_lt zero-le h)

  -- the card of position i
  pub card_before : i < N → i < s % N → card_at5 N s i ≡ N - s % N + i
  unfolding card_at5 parity_card
  card_before h t =
      let r = turn_below h in
      let e : parity_card N s + 1 + i ≡ N - s % N + i = omega arith in
      ap (λ (k : ℕ). k % N) e ∙ mod-eq_of_lt (omega arith)

  pub card_from : i < N → s % N ≤ i → card_at5 N s i ≡ i - s % N
  unfolding card_at5 parity_card
  card_from h t =
      let r = turn_below h in
      let e : parity_card N s + 1 + i ≡ N + (i - s % N) = omega arith in
      ap (λ (k : ℕ). k % N) e ∙ add-mod_left N (i - s % N) ∙ mod-eq_of_lt (omega arith)

  -- the position of card i
  pub position_before : i < N → i < N - s % N → position_of5 N s i ≡ i + s % N
  unfolding position_of5
  position_before h t = mod-eq_of_lt (omega arith)

  pub position_from : i < N → N - s % N ≤ i → position_of5 N s i ≡ i - (N - s % N)
  unfolding position_of5
  position_from h t =
      let r = turn_below h in
      let e : i + s % N ≡ N + (i - (N - s % N)) = omega arith in
      ap (λ (k : ℕ). k % N) e ∙ add-mod_left N (i - (N - s % N)) ∙ mod-eq_of_lt (omega arith)
