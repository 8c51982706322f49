-- Document 01, "Checked examples": one line for each stripe: the stripe, then for cards 0 to N-1 the block number, or P, with single
-- spaces between.
-- Assumes nothing.
use Rattle.std.specs.Prelude.{ℕ, zero, suc, ◌-◌, cond, ◌||◌, List, [], ◌∷◌, ◌++◌, ltb, leb, eqb, Result, Ok, Err}
use Rattle.terms.specs.declared.refusal.Refusal.{Refusal}
use Rattle.geometry.specs.Answers.{beyond_places}
use Rattle.geometry.specs.Placement.{position_of, block_of}
use Rattle.geometry.specs.declared.Held.{Held}
use Rattle.geometry.specs.declared.Held.TheVariants as held
use Rattle.text.specs.Decimal.{decimal}
use Rattle.text.specs.Input.{space, newline}

-- the code of `P`
abbrev pub letter_p : ℕ
letter_p = 80

-- what card c shows in stripe s of layout 5: P, or its block number
unfoldable pub shown : ℕ → ℕ → ℕ → List ℕ
shown N s c =
    cond (eqb (position_of N 5 s c) (N - 1)) (letter_p ∷ []) (decimal (block_of N s (position_of N 5 s c)))

-- the text of what a card holds
unfoldable pub held_text : Held → List ℕ
held_text (held.Block L) = decimal L
held_text held.Parity = letter_p ∷ []

-- the text of an answer about what a card holds, nothing where it was refused
unfoldable pub answer_text : Result Held Refusal → List ℕ
answer_text (Ok h) = held_text h
answer_text (Err refusal) = []

-- cards 0 to k-1 of stripe s, each after a space
unfoldable pub cards_text : ℕ → ℕ → ℕ → List ℕ
cards_text N s zero = []
cards_text N s (suc k) = cards_text N s k ++ (space ∷ shown N s k)

-- the line of stripe s
unfoldable pub line_text : ℕ → ℕ → List ℕ
line_text N s = decimal s ++ (cards_text N s N ++ (newline ∷ []))

-- a room that every line fits in: four bytes for the stripe, five for each card, one for the newline
abbrev pub line_room : ℕ
line_room = 45

-- what is written for stripe s of N cards and S stripes: nothing where N or S is beyond its limits, s is not below S, or the room is too small
unfoldable pub written : ℕ → ℕ → ℕ → ℕ → List ℕ
written N S s room =
    cond (ltb room line_room || (beyond_places N S 5 || leb S s)) [] (line_text N s)
