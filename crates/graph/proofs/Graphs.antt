-- A number is one of the six graphs, or none of them.
-- Assumes nothing.
use Prim.Native.Nat.{ℕ, zero, suc, ◌<◌}
use mathlib.Core.Path.{◌≡◌, refl}
use native.Mathlib.Omega.{arith}
use borrow.Author.Tests.{ne_eqb}
use Rattle.graph.specs.Steps.{by_graph}

pub data Graph : ℕ → Type 0 where
  plain : Graph 1
  degraded : Graph 2
  small : Graph 3
  reconstruct : Graph 4
  large : Graph 5
  failed : Graph 6
  nought : Graph 0
  above : {g : ℕ} → 6 < g → Graph g

pub graph : (g : ℕ) → Graph g
graph zero = nought
graph (suc zero) = plain
graph (suc (suc zero)) = degraded
graph (suc (suc (suc zero))) = small
graph (suc (suc (suc (suc zero)))) = reconstruct
graph (suc (suc (suc (suc (suc zero))))) = large
graph (suc (suc (suc (suc (suc (suc zero)))))) = failed
graph (suc (suc (suc (suc (suc (suc (suc g))))))) = above {g = suc (suc (suc (suc (suc (suc (suc g))))))} (omega arith)

pub by_graph_above {ℓ} : {A : Type ℓ} (g : ℕ) (a1 a2 a3 a4 a5 a6 other : A) → 6 < g → by_graph g a1 a2 a3 a4 a5 a6 other ≡ other
unfolding by_graph
by_graph_above g a1 a2 a3 a4 a5 a6 other h =
    rw (
      ne_eqb g 1 (λ q. omega arith),
      ne_eqb g 2 (λ q. omega arith),
      ne_eqb g 3 (λ q. omega arith),
      ne_eqb g 4 (λ q. omega arith),
      ne_eqb g 5 (λ q. omega arith),
      ne_eqb g 6 (λ q. omega arith),
    )

-- one thing for every graph and beyond
pub by_graph_same {ℓ} : {A : Type ℓ} (g : ℕ) (a : A) → Graph g → by_graph g a a a a a a a ≡ a
unfolding by_graph
by_graph_same _ a plain = refl
by_graph_same _ a degraded = refl
by_graph_same _ a small = refl
by_graph_same _ a reconstruct = refl
by_graph_same _ a large = refl
by_graph_same _ a failed = refl
by_graph_same _ a nought = refl
by_graph_same g a (above h) = by_graph_above g a a a a a a a h
