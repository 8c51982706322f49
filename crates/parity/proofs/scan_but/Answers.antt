-- `parity::scan_but` meets its contract: refusals 1 and 2, and then what the scan of the cells answers.
-- Assumes nothing.
use mathlib.Core.Path.{◌∙◌}
use Rattle.std.proofs.lemmas.Result.{err_from_is_err_and}
use Rattle.terms.specs.Lists.{among}
use Rattle.parity.proofs.Replies.{look_refused, look_all}
use Rattle.parity.proofs.scan_but.Goals as goal

pub returns-in_err-new : goal.returns-in_err-new
returns-in_err-new c =
    let p = err_from_is_err_and c.from_residual.result c.from_residual.ensures.1 in
    rw (p.1, p.2) (look_refused c.args.state c.args.image.now (among c.args.skip) _ c.in_err-new.ensures.err)

pub returns : goal.returns
returns c =
    let cells = c.in_ok-new.ensures.ok in
    c.scan.ensures ∙ rw (cells.2.0, cells.2.1, cells.2.2, cells.2.3) (look_all c.args.state c.args.image.now (among c.args.skip) cells.0 cells.1)
