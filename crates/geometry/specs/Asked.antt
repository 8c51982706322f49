-- What a state answers of its sizes and blocks, whatever its numbers are: 0, or no byte, where there is no such block.
-- Assumes nothing.
use Rattle.std.specs.Prelude.{ℕ, cond, not, ◌&&◌, List, []}
use Rattle.terms.specs.Lists.{part}
use Rattle.geometry.specs.Store.{image_size, cell_at, image_wrong, legal_state, in_image}
use Rattle.geometry.specs.declared.State.{State}

-- the size of the image
unfoldable pub image_size_in : State → ℕ
image_size_in st = cond (legal_state st) (image_size st.cards st.stripes st.block) 0

-- where card c's block of stripe s starts in the image
unfoldable pub cell_in : State → ℕ → ℕ → ℕ
cell_in st c s = cond (in_image st c s) (cell_at st.stripes st.block c s) 0

-- a block of the image, as a part of an image of the right length
unfoldable pub cell_part : State → ℕ → ℕ → List ℕ → List ℕ
cell_part st c s image =
    cond (in_image st c s && not (image_wrong st image)) (part (cell_at st.stripes st.block c s) st.block image) []
