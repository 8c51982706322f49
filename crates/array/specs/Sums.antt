-- The exclusive or of a record's blocks, as the code adds them up: the read blocks of a set of positions, then the blocks to write of another.
-- Assumes nothing.
use Rattle.std.specs.Prelude.{ℕ, ◌+◌, ◌*◌, cond, List, []}
use Rattle.terms.specs.Lists.{part}
use Rattle.terms.specs.Sets.{bit}
use Rattle.block.specs.Blocks.{summed, zeros}
use Rattle.geometry.specs.Store.{write_at, read_at}
use Rattle.geometry.specs.declared.State.{State}

-- of blocks that stand one behind the other from a place on: block p where the set has p, and no block where it has not
abbrev pub taken_if : ℕ → ℕ → ℕ → List ℕ → ℕ → List ℕ
taken_if taken first size work p = cond (bit p taken) (part (first + p * size) size work) []

-- the sum, which starts from 512 zero bytes
unfoldable pub block_sum : State → ℕ → ℕ → ℕ → List ℕ → List ℕ
block_sum st i reads news work =
    summed st.cards (taken_if news (write_at st.cards st.block i 0) st.block work)
    (summed st.cards (taken_if reads (read_at st.cards st.block i 0) st.block work) (zeros 512))
