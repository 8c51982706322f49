-- `parity::rest::restore` meets its contract: the sum of the others' blocks, carried to the card's.
-- Assumes nothing.
use Prim.Native.Nat.{ℕ}
use mathlib.Core.List.{List}
use mathlib.Core.Path.{sym, ap₂, ◌∙◌}
use native.Mathlib.Omega.{arith}
use Rattle.block.specs.Blocks.{carried}
use Rattle.geometry.proofs.Asked.{in_image_law}
use Rattle.parity.proofs.Inside.{legal_in_image, fitting, whole_image}
use Rattle.parity.proofs.Restored.{restored_carried, restored_here, restored_none, restored_wrong}
use Rattle.parity.proofs.rest.restore.Goals as goal

pub returns-then-not-in_image : goal.returns-then-not-in_image
returns-then-not-in_image c = restored_none c.args.state c.args.image.now c.args.card c.args.stripe (sym c.in_image.ensures ∙ c.if-not-in_image.true)

pub whole-requires : goal.whole-requires
whole-requires c = legal_in_image c.args.state c.args.card c.args.stripe (sym c.in_image.ensures ∙ c.if-not-in_image.false)

pub returns-in_default : goal.returns-in_default
returns-in_default c = restored_wrong c.args.state c.args.image.now c.args.card c.args.stripe c.in_default.ensures

pub add_others-requires : goal.add_others-requires
add_others-requires c =
    let there = in_image_law c.args.state c.args.card c.args.stripe (sym c.in_image.ensures ∙ c.if-not-in_image.false) in
    let lies = c.in-Some.ensures.1 in
    (omega (arith, there.second, lies.1), omega (arith, there.first, lies.0))

pub returns : goal.returns
returns c =
    let args = c.args in
    let here = sym c.in_image.ensures ∙ c.if-not-in_image.false in
    let there = in_image_law args.state args.card args.stripe here in
    let (right, lies) = c.in-Some.ensures in
    c.carry.ensures
    ∙ ap₂ (λ (at : ℕ) (sum : List ℕ). carried args.image.now at sum 0 args.state.block) c.cell_at.ensures (c.add_others.ensures ∙ rw (lies.0, lies.1, lies.2, lies.3))
    ∙ restored_carried args.state args.image.now args.card args.stripe (fitting args.state args.image.now there.bounds (whole_image args.state args.image.now there.bounds right)) there
    ∙ restored_here args.state args.image.now args.card args.stripe here right
