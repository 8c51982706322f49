-- `calls::rebuild` meets its contract: what is said of a rebuild step by a survey of the table is said of it over the table.
-- Assumes nothing.
use Rattle.std.proofs.lemmas.Result.{err_from_is_err_and}
use Rattle.calls.proofs.BySurvey.{rebuild_kept, rebuild_lent}
use Rattle.calls.proofs.rebuild.Goals as goal

pub returns-in_err-filled : goal.returns-in_err-filled
returns-in_err-filled c =
    let a = c.args in
    let p = err_from_is_err_and c.from_residual.result c.from_residual.ensures.1 in
    rw (p.1, p.2)
    (rebuild_kept a.table.now a.state.now a.image.now _ (rw c.surveyed-survey.ensures at c.in_err-filled.ensures))

pub returns : goal.returns
returns c =
    let a = c.args in
    rebuild_lent a.table.now a.state.now a.image.now _ _ (rw c.surveyed-survey.ensures at c.in_ok-filled.ensures) c.rebuild_image.ensures
