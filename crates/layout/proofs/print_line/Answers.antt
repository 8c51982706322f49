-- `layout::print_line` is safe: the line that is written lies within the array.
-- Assumes nothing.
use Rattle.std.proofs.Common.{arith, ◌≤◌, length, sym}
use lib.Seq.{length-take-le}
use Rattle.text.proofs.Lines.{written_fits}
use Rattle.layout.proofs.print_line.Goals as goal

-- the line's length is within the array
pub slice_bounds-line-end : goal.slice_bounds-line-end
slice_bounds-line-end g c =
    let call = c.write_line-n in
    let a = c.args in
    omega (arith, call.ensures.value, call.auto.out, written_fits a.shape.cards a.shape.stripes a.stripe 45)

pub slice_bounds-write_all-end : goal.slice_bounds-write_all-end
slice_bounds-write_all-end g c =
    let call = c.write_line-n in
    let a = c.args in
    let within : call.result ≤ length call.new.out = omega (arith, call.ensures.value, call.auto.out, written_fits a.shape.cards a.shape.stripes a.stripe 45) in
    sym (length-take-le _ _ within)
