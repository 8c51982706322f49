-- `text::number::read_number` meets its contract: each test that fails shows that the text is of no number.
-- Assumes nothing.
use Rattle.std.proofs.Common.{◌<◌, ◌∙◌, arith}
use Rattle.std.proofs.lemmas.Grind.{common_steps}
use Rattle.std.proofs.lemmas.Bool.Decides.{Decides-eqb}
use Rattle.std.proofs.lemmas.Slice.Eq.{slice_eq-Decides}
use Rattle.text.proofs.Reading.{too_long, signed, no_text, same_text, unread, other_read, own_read}
use Rattle.text.proofs.Decimal.{printed}
use Rattle.text.proofs.number.read_number.Goals as goal

pub returns-then-text-gt4 : goal.returns-then-text-gt4
returns-then-text-gt4 c = too_long _ (omega arith)

pub returns-in-43 : goal.returns-in-43
returns-in-43 c = signed _ (omega arith)

pub returns-in_err-ok : goal.returns-in_err-ok
returns-in_err-ok c = no_text _ _ _ c.from_utf8.ensures.cases c.ok.ensures.value c.in_err-ok.was c.from_residual.ensures

pub returns-in_err-n : goal.returns-in_err-n
returns-in_err-n c =
    let whole = same_text _ _ _ c.from_utf8.ensures.cases c.ok.ensures.value c.in_ok-ok.was in
    unread _ _ c.parse.ensures.value.0 whole c.ok-2.ensures.value c.in_err-n.was c.from_residual-in_err-n.ensures

pub returns-then-not-contains : goal.returns-then-not-contains
returns-then-not-contains c =
    let whole = same_text _ _ _ c.from_utf8.ensures.cases c.ok.ensures.value c.in_ok-ok.was in
    other_read _ _ c.parse.ensures.value.0 whole c.ok-2.ensures.value _ c.in_ok-n.was (λ h k t. grind (arith, common_steps))

pub returns : goal.returns
returns c =
    let whole = same_text _ _ _ c.from_utf8.ensures.cases c.ok.ensures.value c.in_ok-ok.was in
    let above : 0 < c.in_ok-n.n = grind (arith, common_steps) in
    let small : c.in_ok-n.n < 10000 = grind (arith, common_steps) in
    let own = c.as_bytes-own.ensures.value ∙ c.format.ensures.text ∙ printed c.in_ok-n.n (omega arith) in
    own_read _ _ c.parse.ensures.value.0 whole c.ok-2.ensures.value _ c.in_ok-n.was above small own _ (slice_eq-Decides Decides-eqb _ _ _ c.eq-is_own.ensures)
    c.then_some.ensures
