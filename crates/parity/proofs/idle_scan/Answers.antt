-- `parity::idle_scan` meets its contract: refusals 1, 2, 4 and 12, and then what the scan of all stripes answers.
-- Assumes nothing.
use mathlib.Core.Path.{sym, ◌∙◌}
use Rattle.std.proofs.lemmas.Result.{err_from_is_err_and}
use Rattle.terms.specs.Lists.{among}
use Rattle.parity.proofs.Replies.{no_stripes, look_all, idle_refused, idle_lost, idle_out, idle_all}
use Rattle.parity.proofs.idle_scan.Goals as goal

pub returns-in_err-cells : goal.returns-in_err-cells
returns-in_err-cells c =
    let p = err_from_is_err_and c.from_residual.result c.from_residual.ensures.1 in
    rw (p.1, p.2) (idle_refused c.args.state c.args.image.now _ c.in_err-cells.ensures.err)

pub returns-then-is_lost : goal.returns-then-is_lost
returns-then-is_lost c =
    let cells = c.in_ok-cells.ensures.ok in
    idle_lost c.args.state c.args.image.now cells.0 cells.1 (sym c.is_lost.ensures ∙ c.if-is_lost.true)

pub returns-then-state-ne-NONE : goal.returns-then-state-ne-NONE
returns-then-state-ne-NONE c =
    let cells = c.in_ok-cells.ensures.ok in
    idle_out c.args.state c.args.image.now cells.0 cells.1 (sym c.is_lost.ensures ∙ c.if-is_lost.false) c.if-state-ne-NONE.true

pub returns : goal.returns
returns c =
    let args = c.args in
    let cells = c.in_ok-cells.ensures.ok in
    c.scan.ensures
    ∙ rw (cells.2.0, cells.2.1, cells.2.2, cells.2.3) (look_all args.state args.image.now (among no_stripes) cells.0 cells.1)
    ∙ idle_all args.state args.image.now cells.0 cells.1 (sym c.is_lost.ensures ∙ c.if-is_lost.false) c.if-state-ne-NONE.false
