-- A missing block, inferred: the exclusive or of the other cards' blocks in its stripe.
-- Assumes nothing.
use Rattle.std.specs.Prelude.{ℕ, cond, not, ◌&&◌, List, eqb}
use Rattle.terms.specs.Lists.{tabulate, put}
use Rattle.terms.specs.Sets.{xor_to}
use Rattle.geometry.specs.Store.{cell_at, image_wrong, in_image}
use Rattle.geometry.specs.declared.State.{State}
use Rattle.parity.specs.Parity.{byte_at}

-- the exclusive or of the blocks of all cards but c in stripe s
unfoldable pub rest_of : State → List ℕ → ℕ → ℕ → List ℕ
rest_of st image c s =
    tabulate st.block
    (λ b. xor_to st.cards (λ d. cond (eqb d c) 0 (byte_at st.stripes st.block image d s b)))

-- the image with card c's block of stripe s restored: it is what the others give
unfoldable pub restored : State → List ℕ → ℕ → ℕ → List ℕ
restored st image c s = put (cell_at st.stripes st.block c s) (rest_of st image c s) image

-- the same of any numbers and any image: as it was where there is no such block, or the image is of another length
unfoldable pub restored_in : State → List ℕ → ℕ → ℕ → List ℕ
restored_in st image c s = cond (in_image st c s && not (image_wrong st image)) (restored st image c s) image
