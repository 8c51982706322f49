-- Document 01, "Placement": layout 5, the left-symmetric layout of RAID level 5.
-- Assumes nothing.
use Rattle.std.specs.Prelude.{ℕ, ◌+◌, ◌-◌, ◌%◌}

-- stripe s has its parity on card p = N-1-(s mod N)
unfoldable pub parity_card : ℕ → ℕ → ℕ
parity_card N s = N - 1 - s % N

-- the card of position j of stripe s: unit i is on card (p+1+i) mod N, and position n comes to p
unfoldable pub card_at5 : ℕ → ℕ → ℕ → ℕ
card_at5 N s j = (parity_card N s + 1 + j) % N

-- the position of card c in stripe s
unfoldable pub position_of5 : ℕ → ℕ → ℕ → ℕ
position_of5 N s c = (c + s % N) % N
