-- `calls::collect` meets its contract: what is said of a collection by a survey of the rest is said of it over the table.
-- Assumes nothing.
use mathlib.Core.Path.{◌∙◌}
use Rattle.std.proofs.lemmas.Result.{err_from_is_err_and}
use Rattle.std.specs.Prelude.{Ok, Err}
use Rattle.calls.proofs.BySurvey.{collect_lent}
use Rattle.calls.proofs.collect.Goals as goal

pub returns-in_err-changed : goal.returns-in_err-changed
returns-in_err-changed c =
    let a = c.args in
    let p = err_from_is_err_and c.from_residual.result c.from_residual.ensures.1 in
    rw (p.1, p.2)
    (collect_lent a.table.now a.state a.work.now a.i a.res.now (Err _) _ (rw (c.surveyed-survey.ensures, c.at-r.ensures) at c.in_err-changed.ensures))

pub returns : goal.returns
returns c =
    let a = c.args in
    let said = collect_lent a.table.now a.state a.work.now a.i a.res.now (Ok _) _ (rw (c.surveyed-survey.ensures, c.at-r.ensures) at c.in_ok-changed.ensures) in
    record { reply = rw c.put.ensures.answer said.reply; table_left = c.put.ensures.table ∙ said.table_left; result_left = said.result_left }
