-- `Cells::scan_all` meets its contract. The outer loop's invariant: no stripe below `stripe` is to be reported, the sum has zero bytes, and nothing is
-- answered yet. The inner one's: the first bytes of the stripe's sum are zero.
-- Assumes nothing.
use Prim.Native.Nat.{ℕ, ◌<◌}
use mathlib.Core.Bool.{false}
use mathlib.Core.List.{List}
use mathlib.Core.Path.{◌≡◌}
use lib.ListN.{get_or}
use Rattle.std.specs.Prelude.{Ok}
use Rattle.terms.specs.Lists.{among}
use Rattle.block.specs.Blocks.{zeros}
use Rattle.parity.proofs.Found.{Looking, reports}
use Rattle.parity.proofs.image.Cells.scan_all.Given as goal

-- what is looked at
abbrev pub looking : ℕ → ℕ → ℕ → List ℕ → List ℕ → Looking
looking cards stripes size image skip =
    record { cards = cards; stripes = stripes; block = size; image = image; pass = among skip }

abbrev pub invariant-loop-byte : goal.invariant-loop-byte
invariant-loop-byte g l = ((k : ℕ) → k < l.byte → get_or l.b-items k 0 ≡ 0) × (l.answer ≡ Ok tt)

abbrev pub invariant-scan : goal.invariant-scan
invariant-scan g l =
    ((j : ℕ) → j < l.stripe → reports (looking l.self.cards l.self.stripes l.self.size l.self.image.now l.skip) j ≡ false)
    × (l.sum ≡ zeros 512) × (l.answer ≡ Ok tt)
