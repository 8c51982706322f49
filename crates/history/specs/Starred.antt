-- The starred cases of document 01, "Checked examples", as one table. Bytes are hex and stand for a block filled with that byte.
-- Assumes nothing.
use Rattle.std.specs.Prelude.{ℕ, ◌+◌, ◌-◌, ◌*◌, ◌<◌, Bool, true, not, ◌||◌, ◌&&◌, [], ◌∷◌, ◌++◌, ◌≡◌, eqb}
use Rattle.std.specs.Int.Count.{ones}
use Rattle.terms.specs.Reply.{accepted}
use Rattle.terms.specs.Sets.{bit, all_below}
use Rattle.geometry.specs.Answers.{place_reply, block_at_reply}
use Rattle.graph.specs.Choice.{choose}
use Rattle.parity.specs.Rest.{rest_of}
use Rattle.record.specs.Life.{units_of}
use Rattle.history.specs.Examples.{fill, opened, after}
use Rattle.history.specs.Row.{block_at}
use Rattle.history.specs.World.{World, admit, step, report, collect, play, record_at}

-- N = 5: of all masks of 4 units for which the test holds, position x missing (5: none), graph g is chosen for a write
abbrev pub Chooses : (ℕ → Bool) → ℕ → ℕ → Type 0
Chooses masks x g = all_below 16 (λ mask. not (masks mask) || eqb (choose 4 true mask x) g) ≡ true

-- and the same whichever unit X is the one out
abbrev pub ChoosesOut : (ℕ → ℕ → Bool) → ℕ → Type 0
ChoosesOut masks g = (x : ℕ) → x < 4 → Chooses (masks x) x g

-- N = 4, units 11, 22, 44 and their parity, none out; the stripe's parity is on card 3
unfoldable pub start4 : World
start4 = opened 4 1 255 (fill 0x11 ++ fill 0x22 ++ fill 0x44 ++ fill 0x77)

-- a write of 33 to unit 1 admitted: its steps are 1 and 3 (reads of unit 1 and of parity), 4 (the exclusive or), 6 and 8 (writes of unit 1 and
-- of parity)
unfoldable pub writing : World
writing = after play start4 (admit true 0 2 (fill 0x33) ∷ [])

-- it is brought to its end; or unit 1's card goes out before its write, which then is chosen afresh: 0 and 2 (reads of the other units), 4, 8
unfoldable pub written : World
written = after play writing (step 0 1 ∷ step 0 3 ∷ step 0 4 ∷ step 0 6 ∷ step 0 8 ∷ [])

unfoldable pub died : World
died = after play writing (step 0 1 ∷ step 0 3 ∷ step 0 4 ∷ report 1 ∷ step 0 6 ∷ [])

unfoldable pub mended : World
mended = after play died (step 0 0 ∷ step 0 2 ∷ step 0 4 ∷ step 0 8 ∷ [])

-- N = 3, a write of both units, u the one written last: 3 steps done (the exclusive or, the writes of the other unit and of parity), then the card of
-- unit u is out at the last one, which is chosen afresh; and the 3 once more
unfoldable pub three_done : ℕ → World
three_done u =
    after play (opened 3 1 255 (fill 0 ++ fill 0 ++ fill 0))
    (admit true 0 3 (fill 0x55 ++ fill 0x66) ∷ step 0 3 ∷ step 0 (5 - u) ∷ step 0 6 ∷ [])

unfoldable pub chosen_afresh : ℕ → World
chosen_afresh u = after play (three_done u) (report u ∷ step 0 (4 + u) ∷ [])

unfoldable pub longest : ℕ → World
longest u = after play (chosen_afresh u) (step 0 3 ∷ step 0 (5 - u) ∷ step 0 6 ∷ [])

pub record Starred : Type 0 where
  -- N = 5, S = 5, layout 5. Block 0: card 0, stripe 0. Block 7: card 2, stripe 1. Block 10: card 0, stripe 2. Card 3, stripe 1: parity
  pub block_0 : place_reply 5 5 5 0 ≡ accepted 0 0
  pub block_7 : place_reply 5 5 5 7 ≡ accepted 2 1
  pub block_10 : place_reply 5 5 5 10 ≡ accepted 0 2
  pub card_3_stripe_1 : block_at_reply 5 5 5 3 1 ≡ accepted 1 0
  -- none out: m=1 gives graph 3, m=2 gives 4; any unit X out: m=1 holding X gives 4, m=3 without X gives 3
  pub one_unit : Chooses (λ mask. eqb (ones mask) 1) 5 3
  pub two_units : Chooses (λ mask. eqb (ones mask) 2) 5 4
  pub one_holding_x : ChoosesOut (λ x mask. eqb (ones mask) 1 && bit x mask) 4
  pub three_without_x : ChoosesOut (λ x mask. eqb (ones mask) 3 && not (bit x mask)) 3
  -- N = 4, units 11, 22, 44: parity 77
  pub parity_77 : rest_of start4.state start4.image 3 0 ≡ fill 0x77
  -- writing 33 to unit 1 by graph 3: parity 66
  pub by_graph_3 : (record_at writing 0).graph ≡ 3
  pub parity_66 : written.image ≡ fill 0x11 ++ fill 0x33 ++ fill 0x44 ++ fill 0x66
  -- if unit 1's card goes out before its write: graph 4, parity 66, unit 1 inferred as 33
  pub by_graph_4 : (record_at died 0).graph ≡ 4
  pub dead_parity_66 : block_at mended.state mended.image 3 0 ≡ fill 0x66
  pub inferred_33 : rest_of mended.state mended.image 1 0 ≡ fill 0x33
  -- N = 3, a full write whose last step meets a dead data card, whichever: 3 done, 1 to choose afresh, 3 more, 7 = 2n+3
  pub three_steps : (u : ℕ) → u < 2 → (record_at (three_done u) 0).count ≡ 3
  pub one_afresh : (u : ℕ) → u < 2 → ((record_at (chosen_afresh u) 0).count ≡ 4) × ((record_at (chosen_afresh u) 0).done ≡ 0)
  pub all_steps : (u : ℕ) → u < 2 → (play (longest u) (collect 0 [])).reply ≡ accepted (2 * units_of (longest u).state + 3) 0
  pub seven_steps : (u : ℕ) → u < 2 → 2 * units_of (longest u).state + 3 ≡ 7
