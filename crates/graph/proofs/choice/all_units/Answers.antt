-- `all_units` meets its contract. Above 64 units no word of 64 bits has them all.
-- Assumes nothing.
use Prim.Native.Nat.{ℕ, ◌-◌, ◌^◌, ◌≤◌}
use native.Mathlib.Omega.{arith}
use borrow.Author.Tests.{ne_eqb}
use lib.Pow.{pow_mono}
use Rattle.graph.specs.Choice.{all_units}
use Rattle.graph.proofs.choice.all_units.Goals as goal

pub returns-else-n-eq64 : goal.returns-else-n-eq64
unfolding all_units
returns-else-n-eq64 c =
    let n : ℕ = c.args.n in
    let wide : 2 ^ 65 ≤ 2 ^ n = pow_mono {i = 65} {j = n} (omega arith) in
    rw (ne_eqb n 64 c.if-n-eq64.false, ne_eqb c.args.mask (2 ^ n - 1) (λ q. omega arith))
