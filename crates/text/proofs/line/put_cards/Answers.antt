-- `text::line::put_cards` meets its contract. The loop's invariant is where writing stands after so many cards.
-- Assumes nothing.
use native.Mathlib.Omega.{arith}
use Rattle.text.proofs.Lines.{upto_none, upto_length, upto_room, upto_fits, upto_next, upto_all}
use Rattle.text.proofs.line.put_cards.Goals as goal

pub loop-card-init : goal.loop-card-init
loop-card-init c = upto_none _ _ _ _

pub bounds-out-end : goal.bounds-out-end
bounds-out-end c =
    omega (arith, upto_room _ _ _ c.requires.stripes_value c.requires.stripe_lt_stripes _ _ c.requires.cards_in_bounds c.loop-card.invariant c.loop-card-test.true)

pub overflow_add-end : goal.overflow_add-end
overflow_add-end c =
    let inv = c.loop-card.invariant in
    omega (
      arith,
      upto_length _ _ _ c.requires.stripes_value c.requires.stripe_lt_stripes _ _ c.requires.cards_in_bounds inv,
      upto_room _ _ _ c.requires.stripes_value c.requires.stripe_lt_stripes _ _ c.requires.cards_in_bounds inv c.loop-card-test.true,
    )

pub put_answer-end-requires : goal.put_answer-end-requires
put_answer-end-requires c =
    upto_fits _ _ _ c.requires.stripes_value c.requires.stripe_lt_stripes _ _ c.requires.cards_in_bounds c.loop-card.invariant c.loop-card-test.true _ c.held_at.ensures

pub loop-card-preserved : goal.loop-card-preserved
loop-card-preserved c =
    let call = c.put_answer-end in
    upto_next _ _ _ c.requires.stripes_value c.requires.stripe_lt_stripes _ _ c.requires.cards_in_bounds c.loop-card.invariant c.loop-card-test.true _ c.held_at.ensures call.ensures.value call.ensures.out_after

pub shape_of-out : goal.shape_of-out
shape_of-out c =
    upto_length _ _ _ c.requires.stripes_value c.requires.stripe_lt_stripes _ _ c.requires.cards_in_bounds c.loop-card.invariant

pub returns : goal.returns
returns c =
    let w = upto_all _ _ _ c.requires.stripes_value c.requires.stripe_lt_stripes _ _ c.loop-card.invariant c.loop-card-test.false in
    record { value = w.0; out_after = w.1 }
