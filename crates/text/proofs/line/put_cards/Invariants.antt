-- `text::line::put_cards` meets its contract. The loop's invariant is where writing stands after so many cards.
-- Assumes nothing.
use Rattle.text.proofs.Lines.{Upto}
use Rattle.text.proofs.line.put_cards.Given as goal

abbrev pub invariant-loop-card : goal.invariant-loop-card
invariant-loop-card l = Upto l.fn.shape.cards l.stripe l.at l.initial.out l.card l.end l.out
