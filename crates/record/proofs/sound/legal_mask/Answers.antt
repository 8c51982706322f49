-- `legal_mask` meets its contract: a word of 64 bits has no bit at 64 or above.
-- Assumes nothing.
use Rattle.std.proofs.Common.{◌^◌, ◌≤◌, arith}
use lib.Pow.{pow_mono}
use Rattle.std.proofs.lemmas.Bool.Decides.{nat_tests}
use Rattle.record.specs.Sound.{legal_mask}
use Rattle.record.proofs.sound.legal_mask.Goals as goal

pub returns-then-n-gt63 : goal.returns-then-n-gt63
unfolding legal_mask
returns-then-n-gt63 c =
    let wide : 2 ^ 64 ≤ 2 ^ c.args.n = pow_mono c.if-n-gt63.true in
    grind (arith, nat_tests)
