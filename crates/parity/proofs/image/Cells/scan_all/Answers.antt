-- `Cells::scan_all` meets its contract. The outer loop's invariant: no stripe below `stripe` is to be reported, the sum has zero bytes, and nothing is
-- answered yet. The inner one's: the first bytes of the stripe's sum are zero.
-- Assumes nothing.
use Prim.Native.Nat.{◌<◌}
use mathlib.Core.Path.{◌≡◌, sym, ap, ◌∙◌}
use native.Mathlib.Omega.{arith}
use borrow.Author.Count.{below_more}
use Rattle.std.proofs.lemmas.List.{get_or-take, length-take-le}
use Rattle.terms.specs.Reply.{done_reply}
use Rattle.parity.proofs.Found.{Looking, wrong_in, reports_passed, reports_right, reports_wrong, sum_right, sum_clear, sum_wrong_byte, looked_right, looked_wrong}
use Rattle.parity.proofs.Restored.{all_cards}
use Rattle.parity.proofs.image.Cells.scan_all.Invariants.{looking}
use Rattle.parity.proofs.image.Cells.scan_all.Goals as goal

pub scan-preserved-then-is_passed : goal.scan-preserved-then-is_passed
scan-preserved-then-is_passed g c =
    let at = c.scan in
    let l : Looking = looking c.args.self.cards c.args.self.stripes c.args.self.size c.args.self.image.now c.args.skip in (
      below_more _ _ at.invariant.0 (reports_passed l at.stripe (sym c.is_passed.ensures ∙ c.if-is_passed.true)),
      at.invariant.1,
      at.invariant.2,
    )

pub scan-preserved-then-add_beside : goal.scan-preserved-then-add_beside
scan-preserved-then-add_beside g c =
    let at = c.scan in
    let cells = c.args.self in
    let l : Looking = looking cells.cards cells.stripes cells.size cells.image.now c.args.skip in
    let right = sum_clear l cells.fitting at.stripe c.scan-test.true at.sum c.add_beside.new.sum at.invariant.1
    (c.add_beside.ensures.0 ∙ all_cards cells.stripes cells.size cells.image.now at.stripe g.row.N cells.cards at.sum c.requires)
    (sym c.add_beside.ensures.1 ∙ c.if-add_beside.true) in
    (below_more _ _ at.invariant.0 (reports_right l at.stripe right.0), right.1, at.invariant.2)

pub scan-preserved : goal.scan-preserved
scan-preserved g c =
    let at = c.scan in
    let cells = c.args.self in
    let l : Looking = looking cells.cards cells.stripes cells.size cells.image.now c.args.skip in
    let right = sum_right l cells.fitting at.stripe c.scan-test.true at.sum c.add_beside.new.sum at.invariant.1
    (c.add_beside.ensures.0 ∙ all_cards cells.stripes cells.size cells.image.now at.stripe g.row.N cells.cards at.sum c.requires)
    (λ k m.
    sym (get_or-take cells.size c.add_beside.new.sum k 0 m)
    ∙ c.loop-byte.invariant.0 k (omega (arith, length-take-le cells.size c.add_beside.new.sum (omega (arith, cells.fitting.block))))) in
    (below_more _ _ at.invariant.0 (reports_right l at.stripe right.0), right.1, c.loop-byte.invariant.1)

pub returns-then-b-ne0 : goal.returns-then-b-ne0
returns-then-b-ne0 g c =
    let at = c.scan in
    let cells = c.args.self in
    let byte = c.loop-byte.byte in
    let sum = c.add_beside.new.sum in
    let l : Looking = looking cells.cards cells.stripes cells.size cells.image.now c.args.skip in
    let inside : byte < cells.size = omega (arith, length-take-le cells.size sum (omega (arith, cells.fitting.block))) in
    let wrong : wrong_in l at.stripe ≡ byte =
    sum_wrong_byte l cells.fitting at.stripe c.scan-test.true at.sum sum at.invariant.1
    (c.add_beside.ensures.0 ∙ all_cards cells.stripes cells.size cells.image.now at.stripe g.row.N cells.cards at.sum c.requires)
    byte inside (λ z. c.if-b-ne0.true (get_or-take cells.size sum byte 0 inside ∙ z))
    (λ k m. sym (get_or-take cells.size sum k 0 (omega arith)) ∙ c.loop-byte.invariant.0 k m) in
    looked_wrong l at.stripe byte c.scan-test.true
    (reports_wrong l at.stripe (sym c.is_passed.ensures ∙ c.if-is_passed.false) (rw wrong inside))
    at.invariant.0 wrong

pub returns-after-scan : goal.returns-after-scan
returns-after-scan g c =
    ap done_reply c.scan.invariant.2
    ∙ looked_right (looking c.args.self.cards c.args.self.stripes c.args.self.size c.args.self.image.now c.args.skip)
    (λ j h. c.scan.invariant.0 j (omega arith))
