-- `block::add` meets its contract. The loop's invariant: the first i bytes of the sum have the block's added, the others are as they were.
-- Assumes nothing.
use Prim.Native.Nat.{ℕ, ◌<◌}
use mathlib.Core.Path.{refl, sym, ap, ◌∙◌}
use native.Mathlib.Omega.{arith}
use lib.Bits.{bit_xor}
use lib.ListN.{length, get_or, length-set, get_or-eq_default}
use Rattle.block.specs.Blocks.{added}
use Rattle.block.proofs.Xor.{xor_zero}
use Rattle.block.proofs.Filled.{filled_none, filled_next, filled_store, filled_all}
use Rattle.block.proofs.add.Invariants.{byte}
use Rattle.block.proofs.add.Goals as goal

pub loop-i-init : goal.loop-i-init
loop-i-init c =
    let args = c.args in
    (filled_none (byte args.sum.now args.block.now) args.sum.now, refl)

pub loop-i-preserved : goal.loop-i-preserved
loop-i-preserved c =
    let at = c.loop-i in
    let sum = c.args.sum.now in
    let block = c.args.block.now in
    let inside : at.i < length sum = omega arith in (
      filled_store (byte sum block) sum at.sum at.i _ at.invariant.0 inside
          (ap (λ (x : ℕ). bit_xor x (get_or block at.i 0)) (filled_next (byte sum block) sum at.sum at.i at.invariant.0 inside)),
      length-set at.sum at.i _ ∙ at.invariant.1,
    )

pub returns : goal.returns
unfolding added
returns c =
    let at = c.loop-i in
    let sum = c.args.sum.now in
    let block = c.args.block.now in
    at.invariant.0
    ∙ filled_all (byte sum block) sum at.i
    (λ k h m.
    sym (ap (λ (x : ℕ). bit_xor (get_or sum k 0) x) (get_or-eq_default block 0 (omega arith)) ∙ xor_zero (get_or sum k 0)))
