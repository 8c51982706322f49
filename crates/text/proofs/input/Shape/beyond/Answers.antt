-- `text::input::Shape::beyond` meets its contract: placement is asked of the geometry of N and S.
-- Assumes nothing.
use mathlib.Core.Path.{ap, ◌∙◌}
use Rattle.geometry.specs.Answers.{beyond_places}
use Rattle.geometry.specs.declared.Geometry.{Geometry}
use Rattle.text.proofs.input.Shape.beyond.Goals as goal

pub returns : goal.returns
returns c = c.beyond_places.ensures ∙ ap (λ (g : Geometry). beyond_places g.cards g.stripes g.layout) c.places.ensures
