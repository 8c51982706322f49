-- Document 01, "Placement", with document 02's Q-6: an array's layout, by its number. A position of a stripe is 0 to n-1 for its units and n for its
-- parity, n = N-1.
-- Assumes nothing.
use Rattle.std.specs.Prelude.{ℕ, ◌+◌, ◌-◌, ◌*◌, ◌/◌, ◌%◌, ◌<◌, Bool, cond, ◌&&◌, ◌≡◌, ltb, eqb}
use Rattle.geometry.specs.Level4.{card_at4, position_of4}
use Rattle.geometry.specs.Level5.{card_at5, position_of5}
use Rattle.geometry.specs.Limits.{none, under_way}
use Rattle.geometry.specs.declared.State.{State}

-- the card of position j of stripe s. A number that is no layout's is refused by 1 before anything is placed by it, and counts as 5 here
unfoldable pub card_at : ℕ → ℕ → ℕ → ℕ → ℕ
card_at N layout s j = cond (eqb layout 4) (card_at4 j) (card_at5 N s j)

-- the position of card c in stripe s
unfoldable pub position_of : ℕ → ℕ → ℕ → ℕ → ℕ
position_of N layout s c = cond (eqb layout 4) (position_of4 c) (position_of5 N s c)

-- logical block L is unit L mod n of stripe L div n
abbrev pub stripe_of : ℕ → ℕ → ℕ
stripe_of N L = L / (N - 1)

abbrev pub unit_of : ℕ → ℕ → ℕ
unit_of N L = L % (N - 1)

-- the card of logical block L
abbrev pub card_of : ℕ → ℕ → ℕ → ℕ
card_of N layout L = card_at N layout (stripe_of N L) (unit_of N L)

-- the other way: the block number of unit i of stripe s
abbrev pub block_of : ℕ → ℕ → ℕ → ℕ
block_of N s i = (N - 1) * s + i

-- in an array of this state: the card of position j of stripe s, and the position of card c
abbrev pub card_of_position : State → ℕ → ℕ → ℕ
card_of_position st = card_at st.cards st.layout

abbrev pub position_of_card : State → ℕ → ℕ → ℕ
position_of_card st = position_of st.cards st.layout

-- and the card of logical block L
abbrev pub card_of_block : State → ℕ → ℕ
card_of_block st = card_of st.cards st.layout

-- a stripe below the fill place is filled
unfoldable pub filled : State → ℕ → Bool
filled st s = under_way st && ltb s st.fill

-- the card that is missing in a stripe, or 255: the card that is out, and none where the stripe is filled
unfoldable pub out_in : State → ℕ → ℕ
out_in st s = cond (filled st s) none st.out

-- card c's block is missing in stripe s: a relation, so that nothing above rests on there being one such card at most
pub record Missing (st : State) (c s : ℕ) : Type 0 where
  pub is_card : c < st.cards
  pub is_out : c ≡ out_in st s

-- the position of a card in stripe s where it is below N, and N, which is no position, where it is not
unfoldable pub missing_at : ℕ → ℕ → ℕ → ℕ → ℕ
missing_at N layout s c = cond (ltb c N) (position_of N layout s c) N

-- the other way round: the card of a position of stripe s where it is one, 0 to n, and N, which is no card, where it is not
unfoldable pub card_in : ℕ → ℕ → ℕ → ℕ → ℕ
card_in N layout s j = cond (ltb j N) (card_at N layout s j) N
