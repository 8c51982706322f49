-- `calls::open` meets its contract: what is said of an opening by the length of the table is said of it over the table.
-- Assumes nothing.
use Rattle.calls.proofs.BySurvey.{open_lent}
use Rattle.calls.proofs.open.Goals as goal

pub returns : goal.returns
returns c =
    let a = c.args in
    let is = rw c.count-len.ensures at c.open_by-opened.ensures in
    open_lent a.table.now a.geometry a.out a.work.now a.image.now _ _ _ is c.is_open.ensures c.freed.ensures
