-- A fill on a small array, by computation: card 1 dies and a fresh one is filled, first with a request on the stripe; then card 2 dies.
-- Assumes nothing.
use mathlib.Core.Bool.{false}
use mathlib.Core.List.{[], ◌∷◌, ◌++◌}
use mathlib.Core.Path.{◌≡◌, refl}
use Rattle.terms.specs.Reply.{accepted, refused}
use Rattle.geometry.specs.Limits.{none, no_fill}
use Rattle.parity.specs.Rest.{rest_of}
use Rattle.history.specs.Examples.{fill, after}
use Rattle.history.specs.World.{World, admit, step, report, scan, start, rebuild, play, with_image}
use Rattle.history.proofs.Compute.{computed}
use Rattle.history.proofs.Runs.{start as four}

-- card 1 is out, its block is anything, and a fill is begun
unfoldable pub begun : World
begun = with_image (after play four (report 1 ∷ start ∷ [])) (fill 0x11 ++ fill 0xee ++ fill 0x44 ++ fill 0x77)

-- a read of unit 0 holds the stripe; its one step ends it
unfoldable pub holding : World
holding = after play begun (admit false 0 1 [] ∷ [])

unfoldable pub full : World
full = after play holding (step 0 0 ∷ rebuild ∷ [])

pub record Refilled : Type 0 where
  pub no_card : (play four start).reply ≡ refused 14
  pub not_twice : (play begun start).reply ≡ refused 15
  pub scan_waits : (play begun scan).reply ≡ refused 12
  pub held : (play holding rebuild).reply ≡ refused 8
  pub none_begun : (play full rebuild).reply ≡ refused 14
  -- 22 is back on card 1, no card is out, and parity is right
  pub filled : full.image ≡ fill 0x11 ++ fill 0x22 ++ fill 0x44 ++ fill 0x77
  pub none_out : full.state.out ≡ none
  pub over : full.state.fill ≡ no_fill
  pub scan_right : (play full scan).reply ≡ accepted 0 0
  -- another card dies, and its unit is inferred
  pub another : (play full (report 2)).reply ≡ accepted 0 0
  pub inferred : rest_of (after play full (report 2 ∷ [])).state full.image 2 0 ≡ fill 0x44
  -- the fresh card dies in the middle of its fill: it is out, and no fill is under way
  pub fresh_dies : (after play begun (report 1 ∷ [])).state.fill ≡ no_fill
  pub fresh_out : (after play begun (report 1 ∷ [])).state.out ≡ 1
  -- another one does: the array is lost
  pub lost : (after play begun (report 2 ∷ [])).state.lost ≡ 1

pub shown : Refilled
unfolding computed begun holding full
shown =
    record {
      no_card = refl;
      not_twice = refl;
      scan_waits = refl;
      held = refl;
      none_begun = refl;
      filled = refl;
      none_out = refl;
      over = refl;
      scan_right = refl;
      another = refl;
      inferred = refl;
      fresh_dies = refl;
      fresh_out = refl;
      lost = refl;
    }
