-- `text::input::read_input` meets its contract: each test that fails shows a byte that no text of a shape has, and where all hold the
-- input is the text of the numbers read.
-- Assumes nothing.
use mathlib.Core.Path.{sym, ◌∙◌}
use native.Mathlib.Omega.{arith}
use Rattle.std.proofs.lemmas.Bool.Decides.{nat_tests}
use Rattle.text.proofs.Parsing.{bad_short, bad_space, bad_end, bad_cards, bad_stripes, bad_limits, good}
use Rattle.text.proofs.input.read_input.Goals as goal

-- too few bytes
pub returns-in_default : goal.returns-in_default
returns-in_default c = sym (bad_short _ c.in_default.len_below)

-- another byte than a newline at the end
pub returns-in_default-2 : goal.returns-in_default-2
returns-in_default-2 c = sym (bad_end _ (λ e. grind (arith, nat_tests)))

-- another byte than a space
pub returns-in_default-3 : goal.returns-in_default-3
returns-in_default-3 c = sym (bad_space _ (λ e. grind (arith, nat_tests)))

pub returns-in_err-cards : goal.returns-in_err-cards
returns-in_err-cards c = c.from_residual.ensures ∙ sym (bad_cards _ c.read_number.ensures c.in_err-cards.was)

pub returns-in_err-stripes : goal.returns-in_err-stripes
returns-in_err-stripes c = c.from_residual-in_err-stripes.ensures ∙ sym (bad_stripes _ c.read_number-2.ensures c.in_err-stripes.was)

pub returns-then-beyond : goal.returns-then-beyond
returns-then-beyond c =
    sym (bad_limits _ _ _ c.read_number.ensures c.read_number-2.ensures c.in_ok-cards.was c.in_ok-stripes.was (sym c.beyond.ensures ∙ c.if-beyond.true))

pub returns : goal.returns
returns c =
    sym (
    good _ _ _ c.in-32.len_at_least (grind (arith, nat_tests)) (grind (arith, nat_tests)) c.read_number.ensures c.read_number-2.ensures c.in_ok-cards.was
    c.in_ok-stripes.was (sym c.beyond.ensures ∙ c.if-beyond.false)
    )
