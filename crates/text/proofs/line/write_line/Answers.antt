-- `text::line::write_line` meets its contract: each refusal writes nothing, and otherwise the three parts are the line.
-- Assumes nothing.
use mathlib.Core.Path.{◌≡◌, sym}
use mathlib.Core.List.{[]}
use native.Mathlib.Omega.{arith}
use lib.ListN.{length}
use Rattle.geometry.proofs.Answered.{places_bounds}
use Rattle.text.specs.Line.{written}
use Rattle.text.proofs.Lines.{stripe_size, line_short, line_written, written_small, written_beyond, written_range, nothing}
use Rattle.text.proofs.line.write_line.Goals as goal
use Rattle.text.proofs.line.write_line.Goals.{then-out-lt-ROOM-via-then-out-lt-ROOM, then-out-lt-ROOM-via-else-out-lt-ROOM+then-beyond, then-out-lt-ROOM-via-else-out-lt-ROOM+else-beyond+then-stripes-stripe}

pub returns-then-out-lt-ROOM : goal.returns-then-out-lt-ROOM
returns-then-out-lt-ROOM c =
    let a = c.args in
    let empty : written a.cards a.stripes a.stripe (length a.out.now) ≡ [] =
    elim c.then-out-lt-ROOM.branch [
      | then-out-lt-ROOM-via-then-out-lt-ROOM w ↦ written_small _ _ _ _ w.if-out-lt-ROOM.true
      | then-out-lt-ROOM-via-else-out-lt-ROOM+then-beyond w ↦ written_beyond _ _ _ _ w.if-out-lt-ROOM.false (sym w.if-beyond.ensures)
      | then-out-lt-ROOM-via-else-out-lt-ROOM+else-beyond+then-stripes-stripe w ↦ written_range _ _ _ _ w.if-out-lt-ROOM.false (sym w.if-beyond.ensures) w.if-stripes-stripe.true
    ] in
    let w = nothing _ _ empty in
    record { value = w.0; out_after = w.1 }

pub put_number-at-requires : goal.put_number-at-requires
put_number-at-requires c = omega (arith, stripe_size _ _ _ (sym c.if-beyond.ensures) c.if-stripes-stripe.false)

pub put_cards-end-requires-clause-cards_in_bounds : goal.put_cards-end-requires-clause-cards_in_bounds
put_cards-end-requires-clause-cards_in_bounds c =
    let legal = sym c.if-beyond.ensures in
    let call = c.put_number-at in
    omega (arith, stripe_size _ _ _ legal c.if-stripes-stripe.false, places_bounds _ _ _ legal, call.ensures.value, call.auto.out)

pub bounds-out-end : goal.bounds-out-end
bounds-out-end c =
    let number = c.put_number-at in
    let cards = c.put_cards-end in
    omega (arith, line_short _ _ _ (sym c.if-beyond.ensures) c.if-stripes-stripe.false, number.ensures.value, cards.ensures.value, number.auto.out, cards.auto.out)

pub overflow_add-result : goal.overflow_add-result
overflow_add-result c =
    let number = c.put_number-at in
    let cards = c.put_cards-end in
    omega (arith, line_short _ _ _ (sym c.if-beyond.ensures) c.if-stripes-stripe.false, number.ensures.value, cards.ensures.value)

pub returns : goal.returns
returns c =
    let number = c.put_number-at in
    let cards = c.put_cards-end in
    let w = line_written _ _ _ (sym c.if-beyond.ensures) c.if-stripes-stripe.false _ (omega arith) number.ensures.value number.ensures.out_after cards.ensures.value cards.ensures.out_after in
    record { value = w.0; out_after = w.1 }
