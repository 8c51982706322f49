-- `carry` meets its contract: the one part is copied to the other where both are there, and else dst is as it was.
-- Assumes nothing.
use mathlib.Core.Path.{sym, ◌∙◌}
use Rattle.block.proofs.Carried.{carried_no_room, carried_no_source, carried_copied}
use Rattle.block.proofs.parts.carry.Goals as goal
use Rattle.block.proofs.parts.carry.Goals.{else-has_part-via-then-has_part+else-has_part-2, else-has_part-via-else-has_part}

pub returns-then-has_part-2 : goal.returns-then-has_part-2
returns-then-has_part-2 c =
    let a = c.args in
    carried_copied a.dst.now a.at a.src.now a.from a.size (sym c.has_part.ensures ∙ c.if-has_part.true)
    (sym c.has_part-then-has_part.ensures ∙ c.if-has_part-2.true) _ c.copy.ensures

pub returns-else-has_part : goal.returns-else-has_part
returns-else-has_part c =
    let a = c.args in
    elim c.else-has_part.branch [
      | else-has_part-via-then-has_part+else-has_part-2 w ↦
          carried_no_source a.dst.now a.at a.src.now a.from a.size (sym w.has_part-then-has_part.ensures ∙ w.if-has_part-2.false)
      | else-has_part-via-else-has_part w ↦ carried_no_room a.dst.now a.at a.src.now a.from a.size (sym c.has_part.ensures ∙ w.if-has_part.false)
    ]
