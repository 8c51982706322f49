-- `masked_and_parity` meets its contract.
-- Assumes nothing.
use Prim.Native.Nat.{◌^◌, ◌≤◌}
use native.Mathlib.Omega.{arith}
use lib.Pow.{pow_mono}
use Rattle.graph.proofs.Positions.{masked_bound}
use Rattle.graph.proofs.units.Few.masked_and_parity.Goals as goal

pub overflow_add-result : goal.overflow_add-result
overflow_add-result c =
    let a = c.args.self.plan in
    let few : 2 ^ a.units ≤ 2 ^ 7 = pow_mono c.args.self.few in
    record { fits = omega (arith, c.masked.ensures, c.only.ensures, masked_bound a.units a.mask) }
