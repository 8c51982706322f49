-- `calls::step` meets its contract: what is said of a step by a survey of the rest is said of it over the table.
-- Assumes nothing.
use Rattle.std.proofs.lemmas.Result.{err_from_is_err_and}
use Rattle.std.specs.Prelude.{Ok, Err}
use Rattle.calls.proofs.BySurvey.{step_lent}
use Rattle.calls.proofs.step.Goals as goal

pub returns-in_err-changed : goal.returns-in_err-changed
returns-in_err-changed c =
    let a = c.args in
    let p = err_from_is_err_and c.from_residual.result c.from_residual.ensures.1 in
    rw (p.1, p.2)
    (step_lent a.table.now a.state a.work.now a.image.now a.i a.k (Err _) _ _ (rw (c.surveyed-survey.ensures, c.at-r.ensures) at c.in_err-changed.ensures))

pub returns : goal.returns
returns c =
    let a = c.args in
    rw (c.put.ensures.answer, c.put.ensures.table)
    (step_lent a.table.now a.state a.work.now a.image.now a.i a.k (Ok _) _ _ (rw (c.surveyed-survey.ensures, c.at-r.ensures) at c.in_ok-changed.ensures))
