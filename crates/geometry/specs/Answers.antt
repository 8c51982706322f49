-- Document 01, "Refusal numbers": what placement answers, each way. It gives 1 and 5, with B taken as 16, K as 1 and no card out.
-- Assumes nothing.
use Rattle.std.specs.Prelude.{ℕ, ◌-◌, ◌*◌, Bool, cond, ◌||◌, [], ◌∷◌, leb, eqb, Result}
use Rattle.terms.specs.Reply.{Reply, accepted, refused, row, first_row, on_accept, reply_of}
use Rattle.terms.specs.declared.refusal.Refusal.{Refusal}
use Rattle.geometry.specs.Limits.{beyond, none}
use Rattle.geometry.specs.Placement.{stripe_of, card_of, block_of, position_of}
use Rattle.geometry.specs.declared.Geometry.{Geometry}
use Rattle.geometry.specs.declared.Placed.{Placed}
use Rattle.geometry.specs.declared.Held.{Held}
use Rattle.geometry.specs.declared.Held.TheVariants as held

-- the geometry that placement is asked of
abbrev pub places_of : ℕ → ℕ → ℕ → Geometry
places_of N S layout = record { cards = N; stripes = S; block = 16; records = 1; layout = layout }

-- refusal 1 of placement: N, S or the layout is beyond its limits
abbrev pub beyond_places : ℕ → ℕ → ℕ → Bool
beyond_places N S layout = beyond (places_of N S layout) none

-- what is refused of block L: N, S or the layout beyond its limits, or L not from 0 to n·S-1
unfoldable pub place_refusal : ℕ → ℕ → ℕ → ℕ → ℕ
place_refusal N S layout L = first_row (row (beyond_places N S layout) 1 ∷ row (leb ((N - 1) * S) L) 5 ∷ [])

-- block L's place: its card and its stripe
unfoldable pub place_reply : ℕ → ℕ → ℕ → ℕ → Reply
place_reply N S layout L =
    let number = place_refusal N S layout L in
    on_accept number (accepted (card_of N layout L) (stripe_of N L)) (refused number)

-- what is refused of card c in stripe s
unfoldable pub block_at_refusal : ℕ → ℕ → ℕ → ℕ → ℕ → ℕ
block_at_refusal N S layout c s = first_row (row (beyond_places N S layout) 1 ∷ row (leb N c || leb S s) 5 ∷ [])

-- what card c holds in stripe s: 0 and the block number, or 1 for parity
unfoldable pub block_at_reply : ℕ → ℕ → ℕ → ℕ → ℕ → Reply
block_at_reply N S layout c s =
    let number = block_at_refusal N S layout c s in
    let j = position_of N layout s c in
    on_accept number (cond (eqb j (N - 1)) (accepted 1 0) (accepted 0 (block_of N s j))) (refused number)

-- the number and the values of each answer about a block's place
abbrev pub placed_reply : Result Placed Refusal → Reply
placed_reply = reply_of (λ p. accepted p.card p.stripe)

-- what is said of what a card holds
abbrev pub said_of_held : Held → Reply
said_of_held (held.Block L) = accepted 0 L
said_of_held held.Parity = accepted 1 0

-- the number and the values of each answer about what a card holds
abbrev pub held_reply : Result Held Refusal → Reply
held_reply = reply_of said_of_held
