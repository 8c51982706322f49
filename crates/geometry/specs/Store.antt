-- Document 01, "The array": where a block stands in the image, and where a record's blocks stand in the work store.
-- Assumes nothing.
use Rattle.std.specs.Prelude.{ℕ, ◌+◌, ◌*◌, Bool, not, ◌&&◌, List, ltb, eqb, length}
use Rattle.geometry.specs.Limits.{legal}
use Rattle.geometry.specs.declared.State.{State}

-- the image is exactly N·S·B bytes
unfoldable pub image_size : ℕ → ℕ → ℕ → ℕ
image_size N S B = N * S * B

-- card 0's blocks by stripe, then card 1's, and so on: where card c's block of stripe s starts
unfoldable pub cell_at : ℕ → ℕ → ℕ → ℕ → ℕ
cell_at S B c s = (c * S + s) * B

-- the work store is exactly 2·N·B bytes for each of K records
unfoldable pub work_size : ℕ → ℕ → ℕ → ℕ
work_size N B K = 2 * N * B * K

-- record r's n+1 blocks to write come first: where that of position j starts
unfoldable pub write_at : ℕ → ℕ → ℕ → ℕ → ℕ
write_at N B r j = (2 * N * r + j) * B

-- then its n+1 blocks read: where that of position j starts
unfoldable pub read_at : ℕ → ℕ → ℕ → ℕ → ℕ
read_at N B r j = (2 * N * r + N + j) * B

-- refusal 2, of the image: it is not exactly N·S·B bytes
unfoldable pub image_wrong : State → List ℕ → Bool
image_wrong st image = not (eqb (length image) (image_size st.cards st.stripes st.block))

-- refusal 2, of the work store: it is not exactly 2·N·B bytes for each record
unfoldable pub work_wrong : State → List ℕ → Bool
work_wrong st work = not (eqb (length work) (work_size st.cards st.block st.records))

-- a state whose N, S, B and K are within their limits
abbrev pub legal_state : State → Bool
legal_state st = legal st.cards st.stripes st.block st.records

-- there is a block of card c in stripe s
unfoldable pub in_image : State → ℕ → ℕ → Bool
in_image st c s = legal_state st && ltb c st.cards && ltb s st.stripes
