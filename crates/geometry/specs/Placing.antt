-- What theory above asks of a placement, and all that it asks: any placement that puts the positions of a stripe on different cards.
-- Assumes nothing.
use Rattle.std.specs.Prelude.{ℕ, ◌<◌, ◌≡◌}

-- in each stripe the positions 0 to n and the cards 0 to N-1 are in bijection, n = N-1: the card of a position, and the position of a card
pub record Placing (N : ℕ) (card position : ℕ → ℕ → ℕ) : Type 0 where
  pub card_below : (s j : ℕ) → j < N → card s j < N
  pub position_below : (s c : ℕ) → c < N → position s c < N
  pub position_card : (s j : ℕ) → j < N → position s (card s j) ≡ j
  pub card_position : (s c : ℕ) → c < N → card s (position s c) ≡ c
