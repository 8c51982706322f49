-- The plain row: n·S blocks by their numbers, as a client sees the array. Nothing here knows of graphs, and of parity only how a missing
-- unit is read off an image: as the exclusive or of the rest.
-- Assumes nothing.
use Rattle.std.specs.Prelude.{ℕ, zero, suc, ◌*◌, cond, ◌&&◌, List, [], ◌++◌, eqb, get_or}
use Rattle.terms.specs.Lists.{tabulate, part}
use Rattle.terms.specs.Sets.{bit, xor_to}
use Rattle.geometry.specs.Placement.{stripe_of, unit_of, card_of_block, block_of, out_in}
use Rattle.geometry.specs.Store.{cell_at}
use Rattle.geometry.specs.declared.State.{State}
use Rattle.parity.specs.Rest.{rest_of}
use Rattle.record.specs.Life.{units_of}
use Rattle.array.specs.Lent.{rank}

-- the block of card c in stripe s
unfoldable pub block_at : State → List ℕ → ℕ → ℕ → List ℕ
block_at st image c s = part (cell_at st.stripes st.block c s) st.block image

-- block L as an image has it: on its card, or the exclusive or of the rest where that card is out
unfoldable pub opened_row : State → List ℕ → ℕ → List ℕ
opened_row st image L =
    let s = stripe_of st.cards L in
    let c = card_of_block st L in
    cond (eqb c (out_in st s)) (rest_of st image c s) (block_at st image c s)

-- the units of a mask among n, ascending, one behind the other
unfoldable pub gathered : ℕ → ℕ → (ℕ → List ℕ) → List ℕ
gathered zero mask block = []
gathered (suc n) mask block = gathered n mask block ++ cond (bit n mask) (block n) []

-- the units of a stripe and a mask in the row
unfoldable pub units_of_row : State → (ℕ → List ℕ) → ℕ → ℕ → List ℕ
units_of_row st row s mask = gathered (units_of st) mask (λ u. row (block_of st.cards s u))

-- unit u of a payload that holds the units of a mask, ascending
unfoldable pub unit_in : State → ℕ → List ℕ → ℕ → List ℕ
unit_in st mask payload u = part (rank mask u * st.block) st.block payload

-- the row after a write of these units
unfoldable pub written_row : State → (ℕ → List ℕ) → ℕ → ℕ → List ℕ → ℕ → List ℕ
written_row st row s mask payload L =
    cond (eqb (stripe_of st.cards L) s && bit (unit_of st.cards L) mask) (unit_in st mask payload (unit_of st.cards L)) (row L)

-- the parity of a stripe of the row
unfoldable pub parity_of_row : State → (ℕ → List ℕ) → ℕ → List ℕ
parity_of_row st row s =
    tabulate st.block (λ b. xor_to (units_of st) (λ u. get_or (row (block_of st.cards s u)) b 0))
