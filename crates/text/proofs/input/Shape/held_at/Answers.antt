-- `text::input::Shape::held_at` meets its contract: placement is asked of the geometry of N and S.
-- Assumes nothing.
use mathlib.Core.Path.{ap, ◌∙◌}
use Rattle.geometry.specs.Answers.{block_at_reply}
use Rattle.geometry.specs.declared.Geometry.{Geometry}
use Rattle.text.proofs.input.Shape.held_at.Goals as goal

pub returns : goal.returns
returns c =
    let a = c.args in
    c.block_at.ensures ∙ ap (λ (g : Geometry). block_at_reply g.cards g.stripes g.layout a.card a.stripe) c.places.ensures
