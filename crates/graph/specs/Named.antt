-- The six graphs, by name and by number.
-- Assumes nothing.
use Rattle.std.specs.Prelude.{◌≡◌, ℕ, ◌≤◌, ◌<◌, List, Result, MatchResult, codes}
use Rattle.graph.specs.declared.named.Graph.{Graph}
use Rattle.graph.specs.declared.named.Graph.TheVariants.{PlainRead, DegradedRead, SmallWrite, ReconstructWrite, LargeWrite, ParityFailed}
use Rattle.graph.specs.declared.named.UnknownGraph.{UnknownGraph}

-- a graph's number
abbrev pub number_of_graph : Graph → ℕ
number_of_graph PlainRead = 1
number_of_graph DegradedRead = 2
number_of_graph SmallWrite = 3
number_of_graph ReconstructWrite = 4
number_of_graph LargeWrite = 5
number_of_graph ParityFailed = 6

-- a graph's name
abbrev pub name_of_graph : Graph → List ℕ
name_of_graph PlainRead = codes "plain read"
name_of_graph DegradedRead = codes "degraded read"
name_of_graph SmallWrite = codes "small write"
name_of_graph ReconstructWrite = codes "reconstruct write"
name_of_graph LargeWrite = codes "large write"
name_of_graph ParityFailed = codes "parity failed"

-- the result is the graph of this number, or an error with a number that no graph has: 0, or above 6
abbrev pub Numbered : ℕ → Result Graph UnknownGraph → Type 0
Numbered number r = MatchResult r (λ graph. number_of_graph graph ≡ number) (λ e. (e.0 ≡ number) × (1 ≤ number → 6 < number))
