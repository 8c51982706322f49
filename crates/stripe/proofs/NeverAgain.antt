-- Document 01, "Version one to three, never again": with the rule that each version broke, a run that loses a unit; with our rule the same
-- requests lose none. All computed, bytes for blocks.
-- Assumes nothing.
use Prim.Native.Nat.{ℕ, suc}
use mathlib.Core.Bool.{Bool, true, false, ◌&&◌}
use mathlib.Core.List.{List, [], ◌∷◌}
use mathlib.Core.Path.{◌≡◌, refl}
use lib.ListN.{get_or}
use Rattle.graph.specs.Steps.{step_of}
use Rattle.stripe.specs.Blocks.{Blocks, performed}
use Rattle.stripe.specs.Group.{sum_to, others}
use Rattle.stripe.specs.Request.{Request, ready_at, finished, begun, advanced, chosen_afresh}
use Rattle.stripe.proofs.Bytes.{bytes}
use Rattle.stripe.proofs.Computing.{computing}

-- the blocks after these steps of a request, one after the other
abbrev blocks_after : ℕ → Request → List ℕ → Blocks ℕ → Blocks ℕ
blocks_after n q [] b = b
blocks_after n q (k ∷ ks) b = blocks_after n q ks (performed bytes n q (step_of n k) b)

-- the request after them, and whether each was ready in its turn
abbrev request_after : Request → List ℕ → Request
request_after q [] = q
request_after q (k ∷ ks) = request_after (advanced q k) ks

abbrev in_turn : ℕ → Request → List ℕ → Bool
in_turn n q [] = true
in_turn n q (k ∷ ks) = ready_at n q k && in_turn n (advanced q k) ks

-- the steps bring the request to its end, each in its turn
abbrev Ends : ℕ → Request → List ℕ → Type 0
Ends n q ks = (in_turn n q ks ≡ true) × (finished n (request_after q ks) ≡ true)

-- what position x comes back as: the exclusive or of the others
abbrev comes_back : ℕ → ℕ → Blocks ℕ → ℕ
comes_back n x b = sum_to bytes (suc n) (others bytes x b.cell)

-- blocks with these contents and these new units
abbrev blocks : List ℕ → List ℕ → Blocks ℕ
blocks cells units = record { cell = λ p. get_or cells p 0; got = λ p. 0; new = λ p. get_or units p 0 }

-- the same blocks with the contents that another request left
abbrev sharing : Blocks ℕ → Blocks ℕ → Blocks ℕ
sharing left b = record { cell = left.cell; got = b.got; new = b.new }

-- ---- version one: two writes share a stripe. N = 4, units 11, 22, 44, parity 77; one writes 12 to unit 0, the other 33 to unit 1

abbrev first : Request
first = begun 3 true 1 4

abbrev second : Request
second = begun 3 true 2 4

abbrev at_first : List ℕ
at_first = 0x11 ∷ 0x22 ∷ 0x44 ∷ 0x77 ∷ []

-- each is a small write of five steps: reads of its unit and of parity, the exclusive or, writes of its unit and of parity
pub small_writes : Ends 3 first (0 ∷ 3 ∷ 4 ∷ 5 ∷ 8 ∷ []) × Ends 3 second (1 ∷ 3 ∷ 4 ∷ 6 ∷ 8 ∷ [])
unfolding computing
small_writes = ((refl, refl), (refl, refl))

-- both read before either writes
abbrev both_read : Blocks ℕ
both_read =
    let one = blocks_after 3 first (4 ∷ 5 ∷ 8 ∷ []) (blocks_after 3 first (0 ∷ 3 ∷ []) (blocks at_first (0x12 ∷ []))) in
    blocks_after 3 second (4 ∷ 6 ∷ 8 ∷ []) (sharing one (blocks_after 3 second (1 ∷ 3 ∷ []) (blocks at_first (0 ∷ 0x33 ∷ []))))

-- parity is 66 where 65 is right, and unit 2, untouched, comes back as 47
pub shared_stripe_loses : (both_read.cell 3 ≡ 0x66) × (comes_back 3 3 both_read ≡ 0x65) × (comes_back 3 2 both_read ≡ 0x47)
unfolding computing
shared_stripe_loses = (refl, refl, refl)

-- the stripe is held until the last step, so the other comes behind the one
abbrev in_turns : Blocks ℕ
in_turns =
    let one = blocks_after 3 first (0 ∷ 3 ∷ 4 ∷ 5 ∷ 8 ∷ []) (blocks at_first (0x12 ∷ [])) in
    blocks_after 3 second (1 ∷ 3 ∷ 4 ∷ 6 ∷ 8 ∷ []) (sharing one (blocks [] (0 ∷ 0x33 ∷ [])))

pub held_stripe_keeps : (in_turns.cell 3 ≡ 0x65) × (comes_back 3 2 in_turns ≡ 0x44)
unfolding computing
held_stripe_keeps = (refl, refl)

-- ---- version two: a small write is tried again as a small write. N = 6, units 11, 22, 44, 08, 80, parity ff; 12 and 33 go to units 0 and 1

abbrev small : Request
small = begun 5 true 3 6

-- unit 0 is written, then unit 1's card goes out and its write meets it
abbrev half_written : List ℕ
half_written = 0 ∷ 1 ∷ 5 ∷ 6 ∷ 7 ∷ []

abbrev half : Request
half = request_after small half_written

abbrev at_half : Blocks ℕ
at_half =
    blocks_after 5 small half_written (blocks (0x11 ∷ 0x22 ∷ 0x44 ∷ 0x08 ∷ 0x80 ∷ 0xff ∷ []) (0x12 ∷ 0x33 ∷ []))

pub half_way : (small.graph ≡ 3) × (in_turn 5 small half_written ≡ true) × (ready_at 5 half 8 ≡ true)
unfolding computing
half_way = (refl, refl, refl)

-- graph 3 again: no choice of the table, which gives 4
abbrev again : Request
again = record { write = true; mask = 3; graph = 3; missed = 1; done = 0; count = 6 }

abbrev tried_again : Blocks ℕ
tried_again = blocks_after 5 again (0 ∷ 5 ∷ 6 ∷ 7 ∷ 12 ∷ []) at_half

-- it reads the new unit 0 as old and leaves parity stale: cc where ed is right, and unit 1 comes back as 12, not 33
pub small_again_loses : Ends 5 again (0 ∷ 5 ∷ 6 ∷ 7 ∷ 12 ∷ []) × (tried_again.cell 5 ≡ 0xcc) × (comes_back 5 1 tried_again ≡ 0x12)
unfolding computing
small_again_loses = ((refl, refl), refl, refl)

-- a dead masked unit means graph 4
abbrev rebuilt : Blocks ℕ
rebuilt = blocks_after 5 (chosen_afresh 5 half 1) (2 ∷ 3 ∷ 4 ∷ 6 ∷ 7 ∷ 12 ∷ []) at_half

pub reconstruct_keeps : ((chosen_afresh 5 half 1).graph ≡ 4) × Ends 5 (chosen_afresh 5 half 1) (2 ∷ 3 ∷ 4 ∷ 6 ∷ 7 ∷ 12 ∷ [])
    × (rebuilt.cell 5 ≡ 0xed) × (comes_back 5 1 rebuilt ≡ 0x33)
unfolding computing
reconstruct_keeps = (refl, (refl, refl), refl, refl)

-- ---- version three: graph 4 writes before its reads end. N = 4, units 11, 22, 44, parity 77; 12 and 33 go to units 0 and 1

abbrev reconstruct : Request
reconstruct = begun 3 true 3 4

-- unit 0 is written though unit 2 is unread, then unit 2's card goes out and its read meets it
abbrev early : Blocks ℕ
early = blocks_after 3 reconstruct (5 ∷ []) (blocks at_first (0x12 ∷ 0x33 ∷ []))

-- graph 3 is chosen, on what is altered already: unit 2 comes back as 47, not 44
abbrev over_altered : Blocks ℕ
over_altered = blocks_after 3 (chosen_afresh 3 reconstruct 2) (0 ∷ 1 ∷ 3 ∷ 4 ∷ 5 ∷ 6 ∷ 8 ∷ []) early

pub early_write_loses : (over_altered.cell 3 ≡ 0x66) × (comes_back 3 2 over_altered ≡ 0x47)
unfolding computing
early_write_loses = (refl, refl)

-- every data write needs all the reads: that write is not ready, the read is, and graph 3 finds the old row
abbrev over_old : Blocks ℕ
over_old = blocks_after 3 (chosen_afresh 3 reconstruct 2) (0 ∷ 1 ∷ 3 ∷ 4 ∷ 5 ∷ 6 ∷ 8 ∷ []) (blocks at_first (0x12 ∷ 0x33 ∷ []))

pub late_write_keeps : (reconstruct.graph ≡ 4) × (ready_at 3 reconstruct 5 ≡ false) × (ready_at 3 reconstruct 2 ≡ true)
    × ((chosen_afresh 3 reconstruct 2).graph ≡ 3) × Ends 3 (chosen_afresh 3 reconstruct 2) (0 ∷ 1 ∷ 3 ∷ 4 ∷ 5 ∷ 6 ∷ 8 ∷ [])
    × (over_old.cell 3 ≡ 0x65) × (comes_back 3 2 over_old ≡ 0x44)
unfolding computing
late_write_keeps = (refl, refl, refl, refl, (refl, refl), refl, refl)
