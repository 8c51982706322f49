-- `text::line::put_held` meets its contract: each arm puts the text of its answer.
-- Assumes nothing.
use mathlib.Core.Path.{refl, ap}
use native.Mathlib.Omega.{arith}
use lib.ListN.{length}
use Rattle.text.specs.Line.{letter_p, held_text}
use Rattle.text.proofs.Put.{put_byte, put_same}
use Rattle.text.proofs.line.put_held.Goals as goal

pub put_number-requires : goal.put_number-requires
unfolding held_text
put_number-requires c = omega (arith, ap (λ x. length (held_text x)) c.in-Block.is)

pub bounds-out-at : goal.bounds-out-at
unfolding held_text
bounds-out-at c = omega (arith, ap (λ x. length (held_text x)) c.in-Parity.is)

pub returns-in-Block : goal.returns-in-Block
unfolding held_text
returns-in-Block c =
    let a = c.args in
    let call = c.put_number in
    let w = put_same a.out.now a.at _ _ (ap held_text c.in-Block.is) call.ensures.value call.ensures.out_after in
    record { value = w.0; out_after = w.1 }

pub returns-in-Parity : goal.returns-in-Parity
unfolding held_text
returns-in-Parity c =
    let a = c.args in
    let w = put_same a.out.now a.at _ _ (ap held_text c.in-Parity.is) refl (put_byte a.out.now a.at letter_p (bounds-out-at c)) in
    record { value = w.0; out_after = w.1 }
