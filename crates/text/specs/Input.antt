-- Document 01, "Checked examples": the layout program reads N, one space, S and a newline, both decimal without leading zeros, and
-- nothing after. Input of any other kind, or beyond the limits, is bad.
-- Assumes nothing.
use Rattle.std.specs.Prelude.{ℕ, Bool, Option, None, Some, cond, not, ◌&&◌, List, [], ◌∷◌, ◌++◌, ltb}
use Rattle.terms.specs.Sets.{lowest}
use Rattle.geometry.specs.Answers.{beyond_places}
use Rattle.text.specs.Decimal.{decimal, same}
use Rattle.text.specs.declared.input.Shape.{Shape}

-- the codes of a space and of a newline
abbrev pub space : ℕ
space = 32

abbrev pub newline : ℕ
newline = 10

-- the input that asks for N cards and S stripes
unfoldable pub input_text : ℕ → ℕ → List ℕ
input_text N S = decimal N ++ (space ∷ decimal S ++ (newline ∷ []))

-- whether l asks for N cards and S stripes: they are within the limits, and it is their text
unfoldable pub asks_for : List ℕ → ℕ → ℕ → Bool
asks_for l N S = not (beyond_places N S 5) && same l (input_text N S)

-- the lowest S, of 0 to 1,024, that l asks for with N cards, and 1,025 where there is none
unfoldable pub stripes_in : List ℕ → ℕ → ℕ
stripes_in l N = lowest 1025 (λ S. asks_for l N S)

-- the lowest N, of 0 to 8, that l asks for, and 9 where there is none
unfoldable pub cards_in : List ℕ → ℕ
cards_in l = lowest 9 (λ N. ltb (stripes_in l N) 1025)

-- the shape of N cards and S stripes
abbrev pub shape : ℕ → ℕ → Shape
shape N S = record { cards = N; stripes = S }

-- what an input asks for, if anything. At most one N and one S have it as their text (proofs/Asks.antt)
unfoldable pub asked : List ℕ → Option Shape
asked l = cond (ltb (cards_in l) 9) (Some (shape (cards_in l) (stripes_in l (cards_in l)))) None
