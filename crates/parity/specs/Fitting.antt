-- What the private functions of this crate ask and go by: the numbers of an array and its image, once refusals 1 and 2 are tested, and the cards beside one.
-- Assumes nothing.
use Rattle.std.specs.Prelude.{ℕ, ◌+◌, ◌≤◌, cond, List, [], ◌∷◌, ◌≡◌, ltb, length}
use Rattle.terms.specs.Reply.{row, first_row}
use Rattle.geometry.specs.Limits.{beyond_state}
use Rattle.geometry.specs.Store.{image_size, image_wrong}
use Rattle.geometry.specs.declared.State.{State}

pub record Fitting (N S B : ℕ) (image : List ℕ) : Type 0 where
  pub cards : N ≤ 8
  pub stripes : S ≤ 1024
  pub block : B ≤ 512
  pub whole : length image ≡ image_size N S B

-- N, S, B and the image are those of a state and of what is lent
abbrev pub LiesIn : State → List ℕ → ℕ → ℕ → ℕ → List ℕ → Type 0
LiesIn st lent N S B image = (N ≡ st.cards) × (S ≡ st.stripes) × (B ≡ st.block) × (image ≡ lent)

-- refusals 1 and 2, of a state and an image
unfoldable pub image_refusal : State → List ℕ → ℕ
image_refusal st image = first_row (row (beyond_state st) 1 ∷ row (image_wrong st image) 2 ∷ [])

-- the k-th card beside card c, ascending
unfoldable pub beside : ℕ → ℕ → ℕ
beside c k = cond (ltb k c) k (k + 1)
