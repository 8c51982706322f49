-- `Cells::whole` meets its contract: the numbers are within their limits, and the image is as long as they say.
-- Assumes nothing.
use mathlib.Core.Path.{refl, sym, ◌∙◌}
use Rattle.parity.proofs.Inside.{legal_limits, image_whole, image_not_whole, fitting}
use Rattle.parity.proofs.image.Cells.whole.Goals as goal

pub returns-then-image-image_size : goal.returns-then-image-image_size
returns-then-image-image_size c =
    let args = c.args in
    image_not_whole args.state args.image.now (legal_limits args.state c.requires) (λ q. c.if-image-image_size.true (q ∙ sym c.image_size.ensures))

pub invariant_of-result : goal.invariant_of-result
invariant_of-result c =
    let args = c.args in
    let limits = legal_limits args.state c.requires in
    record {
      cards_low = limits.cards_low;
      fitting = fitting args.state args.image.now limits (c.if-image-image_size.false ∙ c.image_size.ensures);
    }

pub returns : goal.returns
returns c =
    let args = c.args in
    (image_whole args.state args.image.now (legal_limits args.state c.requires) (c.if-image-image_size.false ∙ c.image_size.ensures), (refl, refl, refl, refl))
