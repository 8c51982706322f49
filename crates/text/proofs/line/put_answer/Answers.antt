-- `text::line::put_answer` meets its contract: what is held is put, and nothing of a refusal.
-- Assumes nothing.
use mathlib.Core.Path.{sym, ap}
use native.Mathlib.Nat.{add-zero}
use native.Mathlib.Omega.{arith}
use lib.ListN.{length}
use Rattle.text.specs.Line.{answer_text}
use Rattle.text.proofs.Put.{put_nothing, put_same}
use Rattle.text.proofs.line.put_answer.Goals as goal

pub put_held-requires : goal.put_held-requires
unfolding answer_text
put_held-requires c = omega (arith, ap (λ x. length (answer_text x)) c.in-Ok.is)

pub returns-in-Ok : goal.returns-in-Ok
unfolding answer_text
returns-in-Ok c =
    let a = c.args in
    let call = c.put_held in
    let w = put_same a.out.now a.at _ _ (ap answer_text c.in-Ok.is) call.ensures.value call.ensures.out_after in
    record { value = w.0; out_after = w.1 }

pub returns-in-Err : goal.returns-in-Err
unfolding answer_text
returns-in-Err c =
    let a = c.args in
    let w = put_same a.out.now a.at _ _ (ap answer_text c.in-Err.is) (sym (add-zero a.at)) (sym (put_nothing a.out.now a.at)) in
    record { value = w.0; out_after = w.1 }
