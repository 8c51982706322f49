-- `table::surveyed` meets its contract: each turn looks at one record more, and the record left out counts as a free one.
-- Assumes nothing.
use Rattle.std.proofs.Common.{◌≡◌, length, set, length-set, length-take, sym, ap, ◌∙◌, arith}
use Rattle.record.specs.Life.{free}
use Rattle.record.specs.Seen.{to_see, seen_to}
use Rattle.record.specs.declared.Record.{Record}
use Rattle.record.proofs.Surveyed.{survey_is, to_see_most}
use Rattle.table.proofs.surveyed.Goals as goal

pub slice_bounds-r-items-end : goal.slice_bounds-r-items-end
slice_bounds-r-items-end c =
    let most = (to_see_most c.args.state c.count-n.result).0 in
    omega (arith, most, length-take {A = Record})

pub returns : goal.returns
returns c =
    let a = c.args in
    let rest = set a.table.now a.but free in
    let n : c.count-n.result ≡ length rest = c.count-n.ensures ∙ sym (length-set a.table.now a.but free) in
    let top : c.to_see-top.result ≡ to_see a.state (length rest) = c.to_see-top.ensures ∙ ap (to_see a.state) n in
    let most = (to_see_most a.state c.count-n.result).0 in
    let e : c.loop-i.i ≡ to_see a.state (length rest) = omega (arith, most, length-take {A = Record}) in
    c.loop-i.invariant ∙ ap (seen_to a.state rest) e ∙ survey_is a.state rest
