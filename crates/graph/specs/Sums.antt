-- Document 01, "Steps and what must come before": what the exclusive or takes, and where it goes.
-- Assumes nothing.
use Rattle.std.specs.Prelude.{ℕ, Bool, false, eqb}
use Rattle.graph.specs.Steps.{by_graph, reads, masked}

-- the exclusive or takes the read block of position p: 2, 3, 4, all that the graph reads
abbrev pub takes_read : ℕ → ℕ → ℕ → ℕ → ℕ → Bool
takes_read n g mask x p = reads n g mask x p

-- it takes the block to write of position p: 3, 4, 5, the new units
unfoldable pub takes_new : ℕ → ℕ → ℕ → ℕ → Bool
takes_new n g mask p = by_graph g false false (masked n mask p) (masked n mask p) (masked n mask p) false false

-- it goes to the read block of X in graph 2, and to the last block to write in 3, 4 and 5
unfoldable pub sums_to_read : ℕ → Bool
sums_to_read g = eqb g 2
