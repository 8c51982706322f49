-- `calls::admit` meets its contract: what is said of an admission by a survey of the table is said of it over the table.
-- Assumes nothing.
use Rattle.std.proofs.lemmas.Result.{err_from_is_err_and}
use Rattle.std.specs.Prelude.{Ok, Err}
use Rattle.calls.proofs.BySurvey.{admit_lent}
use Rattle.calls.proofs.admit.Goals as goal

pub returns-in_err-changed : goal.returns-in_err-changed
returns-in_err-changed c =
    let a = c.args in
    let p = err_from_is_err_and c.from_residual.result c.from_residual.ensures.1 in
    rw (p.1, p.2)
    (admit_lent a.table.now a.state a.work.now a.image.now a.write a.stripe a.mask a.payload.now (Err _) _ (rw c.surveyed-survey.ensures at c.in_err-changed.ensures))

pub returns : goal.returns
returns c =
    let a = c.args in
    rw (c.put.ensures.answer, c.put.ensures.table)
    (admit_lent a.table.now a.state a.work.now a.image.now a.write a.stripe a.mask a.payload.now (Ok _) _ (rw c.surveyed-survey.ensures at c.in_ok-changed.ensures))
