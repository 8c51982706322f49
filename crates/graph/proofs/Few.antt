-- Whether the units are few, from the bound on them, and what is asked of a plan of few units.
-- Assumes nothing.
use Prim.Native.Nat.{ℕ, ◌≤◌, ◌<◌}
use mathlib.Core.Bool.{Bool, true, false, ◌&&◌}
use mathlib.Core.Path.{◌≡◌}
use borrow.Author.Tests.{le-leb, lt-leb}
use Rattle.std.specs.Prelude.{Option, None, Some, MatchOption}
use Rattle.graph.specs.Asked.{few_units}
use Rattle.graph.specs.declared.plan.Plan.{Plan}
use Rattle.graph.specs.declared.units.Few.{Few}

pub few : (n : ℕ) → n ≤ 7 → few_units n ≡ true
unfolding few_units
few n h = le-leb n 7 h

pub many : (n : ℕ) → 7 < n → few_units n ≡ false
unfolding few_units
many n h = lt-leb n 7 h

-- what is asked of a plan of few units: no where they are many
pub when_few : (o : Option Few) (p : Plan) (r x : Bool) (asked : Few → Type 0)
    → MatchOption o (few_units p.units ≡ false) (λ few. (few_units p.units ≡ true) × (few.plan ≡ p))
    → MatchOption o (r ≡ false) asked
    → ((few : Few) → few.plan ≡ p → asked few → r ≡ x)
    → r ≡ (few_units p.units && x)
when_few None p r x asked a b h = rw a b
when_few (Some few) p r x asked a b h = rw a.0 (h few a.1 b)
