-- Document 01, "Refusal numbers", 13: the lowest stripe and the lowest byte in it where parity disagrees.
-- Assumes nothing.
use Rattle.std.specs.Prelude.{ℕ, ◌+◌, Bool, cond, not, ◌&&◌, List, ltb, eqb, get_or}
use Rattle.terms.specs.Lists.{part}
use Rattle.terms.specs.Reply.{Reply, accepted}
use Rattle.terms.specs.Sets.{lowest, xor_to}
use Rattle.geometry.specs.Store.{cell_at}

-- the block of card c in stripe s: a part of the image that starts in its middle
unfoldable pub cell : ℕ → ℕ → List ℕ → ℕ → ℕ → List ℕ
cell S B image s c = part (cell_at S B c s) B image

-- byte b of the block of card c in stripe s
unfoldable pub byte_at : ℕ → ℕ → List ℕ → ℕ → ℕ → ℕ → ℕ
byte_at S B image c s b = get_or image (cell_at S B c s + b) 0

-- the exclusive or of byte b of all N cards in stripe s: zero where the parity there is right
unfoldable pub parity_byte : ℕ → ℕ → ℕ → List ℕ → ℕ → ℕ → ℕ
parity_byte N S B image s b = xor_to N (λ c. byte_at S B image c s b)

-- the lowest byte of stripe s where parity disagrees, and B where it is right
unfoldable pub wrong_byte : ℕ → ℕ → ℕ → List ℕ → ℕ → ℕ
wrong_byte N S B image s = lowest B (λ b. not (eqb (parity_byte N S B image s b) 0))

-- the lowest stripe that is not passed over where parity disagrees, and S where there is none
unfoldable pub wrong_stripe : ℕ → ℕ → ℕ → List ℕ → (ℕ → Bool) → ℕ
wrong_stripe N S B image pass = lowest S (λ s. not (pass s) && ltb (wrong_byte N S B image s) B)

-- parity is right in every stripe that is not passed over
unfoldable pub right_parity : ℕ → ℕ → ℕ → List ℕ → (ℕ → Bool) → Bool
right_parity N S B image pass = eqb (wrong_stripe N S B image pass) S

-- refusal 13: the lowest stripe and the lowest byte in it
unfoldable pub disagreement : ℕ → ℕ → ℕ → List ℕ → (ℕ → Bool) → Reply
disagreement N S B image pass =
    record {
      number = 13;
      first = wrong_stripe N S B image pass;
      second = wrong_byte N S B image (wrong_stripe N S B image pass);
    }

-- what a look at all stripes but those passed over answers: parity is right, or refusal 13
unfoldable pub looked : ℕ → ℕ → ℕ → List ℕ → (ℕ → Bool) → Reply
looked N S B image pass = cond (right_parity N S B image pass) (accepted 0 0) (disagreement N S B image pass)
