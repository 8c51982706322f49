-- `text::number::put_number` meets its contract: what std prints is the number's decimal text, and is put as it is.
-- Assumes nothing.
use Rattle.std.proofs.Common.{length, arith, ap, ◌∙◌}
use Rattle.text.proofs.Put.{put_part}
use Rattle.text.proofs.Decimal.{printed}
use Rattle.text.proofs.number.put_number.Goals as goal

pub slice_bounds-copy_from_slice-end : goal.slice_bounds-copy_from_slice-end
slice_bounds-copy_from_slice-end c =
    let text = c.as_bytes-digits.ensures.value ∙ c.format.ensures.text ∙ printed c.args.n c.ranges.n.fits in
    omega (arith, ap length text)

pub returns-clause-value : goal.returns-clause-value
returns-clause-value c =
    let text = c.as_bytes-digits.ensures.value ∙ c.format.ensures.text ∙ printed c.args.n c.ranges.n.fits in
    omega (arith, ap length text)

pub returns-clause-out_after : goal.returns-clause-out_after
returns-clause-out_after c =
    let text = c.as_bytes-digits.ensures.value ∙ c.format.ensures.text ∙ printed c.args.n c.ranges.n.fits in
    put_part _ _ _ _ _ (c.copy_from_slice.ensures.after ∙ text) (omega (arith, ap length text))
