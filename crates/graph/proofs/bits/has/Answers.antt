-- `has` meets its contract: a word of 64 bits has no bit at 64 or above.
-- Assumes nothing.
use borrow.Author.Tests.{le-ltb}
use Rattle.terms.proofs.Bits.{bit_beyond}
use Rattle.graph.proofs.bits.has.Goals as goal

pub returns-else-i-lt64 : goal.returns-else-i-lt64
returns-else-i-lt64 c =
    rw (le-ltb c.args.i 64 c.if-i-lt64.false, bit_beyond 64 c.args.m c.args.i c.ranges.m.fits c.if-i-lt64.false)
