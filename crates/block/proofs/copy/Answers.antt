-- `block::copy` meets its contract. The loop's invariant: dst is as long as it was, its first i bytes are those of src, the others its own.
-- Assumes nothing.
use mathlib.Core.Path.{refl, ◌∙◌}
use native.Mathlib.Omega.{arith}
use borrow.Author.Tests.{lt-ltb, le-ltb}
use lib.ListN.{length, get_or, length-set}
use Rattle.block.specs.Blocks.{copied}
use Rattle.block.proofs.Filled.{filled_none, filled_store, filled_all}
use Rattle.block.proofs.copy.Invariants.{byte}
use Rattle.block.proofs.copy.Goals as goal

pub loop-i-init : goal.loop-i-init
loop-i-init c =
    let args = c.args in
    (filled_none (byte args.dst.now args.src.now) args.dst.now, refl)

pub loop-i-preserved : goal.loop-i-preserved
loop-i-preserved c =
    let at = c.loop-i in
    let dst = c.args.dst.now in
    let src = c.args.src.now in (
      filled_store (byte dst src) dst at.dst at.i (get_or src at.i 0) at.invariant.0 (omega arith) (rw (lt-ltb at.i (length src) (omega arith))),
      length-set at.dst at.i (get_or src at.i 0) ∙ at.invariant.1,
    )

pub returns : goal.returns
unfolding copied
returns c =
    let at = c.loop-i in
    let dst = c.args.dst.now in
    let src = c.args.src.now in
    at.invariant.0 ∙ filled_all (byte dst src) dst at.i (λ k h m. rw (le-ltb k (length src) (omega arith)))
