-- The sets of positions that a graph is to read and to write, and of new units that its exclusive or takes, graph by graph.
-- Assumes nothing.
use Prim.Native.Nat.{ℕ, ◌+◌, ◌-◌, ◌*◌, ◌%◌, ◌^◌, ◌≤◌, ◌<◌}
use mathlib.Core.Bool.{Bool, false, cond, not, ◌||◌}
use mathlib.Core.Path.{◌≡◌, refl, sym, ◌∙◌}
use lib.Bits.{bit_and}
use lib.Dec.{leb, eqb}
use Rattle.terms.proofs.Bits.{set_of_bound}
use Rattle.terms.specs.Sets.{set_of}
use Rattle.graph.specs.Asked.{step_set}
use Rattle.graph.specs.Steps.{by_graph, masked, unmasked, read_base, reads, sums, write_base, writes}
use Rattle.graph.specs.Sums.{takes_new}
use Rattle.graph.proofs.Graphs.{Graph, plain, degraded, small, reconstruct, large, failed, nought, above, graph, by_graph_above}
use Rattle.graph.proofs.Positions.{all_positions, steps_are, joined_low, joined_shift, joined_fits}
use Rattle.graph.proofs.Rules.{set_of_none, set_of_and}

-- a set made by the graph's rule is the graph's set
module _ (n : ℕ) (a1 a2 a3 a4 a5 a6 : ℕ → Bool) where
  set_by : (g : ℕ) → Graph g
      → set_of n (λ p. by_graph g (a1 p) (a2 p) (a3 p) (a4 p) (a5 p) (a6 p) false)
      ≡ by_graph g (set_of n a1) (set_of n a2) (set_of n a3) (set_of n a4) (set_of n a5) (set_of n a6) 0
  unfolding by_graph
  set_by _ plain = refl
  set_by _ degraded = refl
  set_by _ small = refl
  set_by _ reconstruct = refl
  set_by _ large = refl
  set_by _ failed = refl
  set_by _ nought = set_of_none n (λ p. false) (λ i l. refl)
  set_by g (above h) =
      set_of_none n (λ p. by_graph g (a1 p) (a2 p) (a3 p) (a4 p) (a5 p) (a6 p) false)
      (λ i l. by_graph_above g (a1 i) (a2 i) (a3 i) (a4 i) (a5 i) (a6 i) false h)
      ∙ sym (by_graph_above g (set_of n a1) (set_of n a2) (set_of n a3) (set_of n a4) (set_of n a5) (set_of n a6) 0 h)

none : (n : ℕ) → set_of n (λ p. false) ≡ 0
none n = set_of_none n (λ p. false) (λ i l. refl)

module _ (n g mask : ℕ) where
  abbrev M : ℕ
  M = set_of (n + 1) (masked n mask)

  abbrev MP : ℕ
  MP = set_of (n + 1) (λ p. masked n mask p || eqb p n)

  pub read_sets : set_of (n + 1) (read_base n g mask) ≡ by_graph g M (2 ^ (n + 1) - 1) MP (set_of (n + 1) (unmasked n mask)) 0 0 0
  read_sets =
      set_by (n + 1) (masked n mask) (λ p. leb p n) (λ p. masked n mask p || eqb p n) (unmasked n mask) (λ p. false) (λ p. false) g (graph g)
      ∙ rw (none (n + 1), ← all_positions n)

  pub write_sets : set_of (n + 1) (write_base n g mask) ≡ by_graph g 0 0 MP MP MP M 0
  write_sets =
      set_by (n + 1) (λ p. false) (λ p. false) (λ p. masked n mask p || eqb p n) (λ p. masked n mask p || eqb p n) (λ p. masked n mask p || eqb p n) (masked n mask) g (graph g)
      ∙ rw (none (n + 1))

  pub news_sets : set_of (n + 1) (takes_new n g mask) ≡ by_graph g 0 0 M M M 0 0
  unfolding takes_new
  news_sets =
      set_by (n + 1) (λ p. false) (λ p. false) (masked n mask) (masked n mask) (masked n mask) (λ p. false) g (graph g)
      ∙ rw (none (n + 1))

-- ---- the graph's sets, made of those: without the missing position, and joined; with at most 7 units all fit a word

module _ (n g mask x : ℕ) (few : n ≤ 7) (to_read to_write sum present : ℕ)
    (r : to_read ≡ set_of (n + 1) (read_base n g mask))
    (w : to_write ≡ set_of (n + 1) (write_base n g mask))
    (s : sum ≡ cond (sums g) (2 ^ (n + 1)) 0)
    (p : present ≡ set_of (n + 1) (λ i. not (eqb i x)))
  where
    pub reads_made : bit_and to_read present ≡ set_of (n + 1) (reads n g mask x)
    unfolding reads
    reads_made = rw (r, p) (set_of_and (n + 1) (read_base n g mask) (λ i. not (eqb i x)))

    writes_made : bit_and to_write present ≡ set_of (n + 1) (writes n g mask x)
    unfolding writes
    writes_made = rw (w, p) (set_of_and (n + 1) (write_base n g mask) (λ i. not (eqb i x)))

    pub low_fits : bit_and to_read present + sum < 2 ^ 9
    low_fits = rw (reads_made, s) (joined_low n _ 0 (sums g) few (set_of_bound (n + 1) (reads n g mask x)))

    pub steps_fit : bit_and to_write present * 2 ^ (n + 2) % 18446744073709551616 + (bit_and to_read present + sum) < 2 ^ 17
    steps_fit =
        let b = set_of_bound (n + 1) (writes n g mask x) in
        rw (writes_made, reads_made, s, joined_shift n 0 _ (sums g) few b)
        (joined_fits n _ _ (sums g) few (set_of_bound (n + 1) (reads n g mask x)) b)

    pub steps_made : bit_and to_write present * 2 ^ (n + 2) % 18446744073709551616 + (bit_and to_read present + sum) ≡ step_set n g mask x
    steps_made =
        let b = set_of_bound (n + 1) (writes n g mask x) in
        rw (writes_made, reads_made, s, joined_shift n 0 _ (sums g) few b) (steps_are n g mask x)
