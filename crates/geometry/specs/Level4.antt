-- Document 02, Q-6: layout 4, the old gantries', RAID level 4. Parity does not rotate.
-- Assumes nothing.
use Rattle.std.specs.Prelude.{ℕ}

-- the card of position j of any stripe: unit i is on card i, and parity, position n, on card n = N-1
unfoldable pub card_at4 : ℕ → ℕ
card_at4 j = j

-- the position of card c in any stripe
unfoldable pub position_of4 : ℕ → ℕ
position_of4 c = c
