-- No graph is empty: a request lacks a step when it is admitted and after each fresh choice.
-- Assumes nothing.
use Prim.Native.Nat.{ℕ, ◌+◌, ◌^◌, ◌≤◌, ◌<◌}
use mathlib.Core.Bool.{Bool, true, false, not, ◌||◌}
use mathlib.Core.Path.{◌≡◌, refl, sym, ap, ◌∙◌}
use native.Mathlib.Omega.{arith}
use borrow.Author.Tests.{lt-ltb, ne_eqb}
use Rattle.terms.specs.Sets.{bit}
use Rattle.terms.proofs.Bits.{bit_none}
use Rattle.terms.proofs.Rows.{true≢false}
use Rattle.terms.proofs.Sets.{all_below_fail}
use Rattle.graph.specs.Order.{complete}
use Rattle.graph.specs.Steps.{step_of, step_numbers, by_graph, masked, reads, sums, writes, member}
use Rattle.graph.proofs.Rules.{some_bit}
use Rattle.graph.proofs.Numbers.{step_of_read, step_of_sum, step_of_write}
use Rattle.stripe.specs.Invariant.{Proper}
use Rattle.stripe.specs.Request.{Request}
use Rattle.stripe.proofs.Chosen.{Chosen, degraded_read, plain_read, parity_failed, large_write, reconstruct_out, small_out, small_none, reconstruct_none, row_of}
use Rattle.stripe.proofs.Places.{masked_below}

-- a legal mask has a unit
pub some_masked : (n mask : ℕ) → ¬ (mask ≡ 0) → mask < 2 ^ n → (p : ℕ) × (masked n mask p ≡ true)
unfolding masked
some_masked n mask h l = let w = some_bit n mask l h in (w.0, rw (lt-ltb w.0 n w.1) w.2)

module _ (n mask x : ℕ) where
  wanting : (g k : ℕ) → k < step_numbers n → member n g mask x (step_of n k) ≡ true → complete n g mask x 0 ≡ false
  unfolding complete
  wanting g k l m =
      all_below_fail (step_numbers n) (λ k. not (member n g mask x (step_of n k)) || bit k 0) k l (rw (m, bit_none k))

  wants_sum : (g : ℕ) → sums g ≡ true → complete n g mask x 0 ≡ false
  unfolding member
  wants_sum g s = wanting g (n + 1) (omega arith) (rw (step_of_sum n) s)

  wants_read : (p g : ℕ) → p ≤ n → reads n g mask x p ≡ true → complete n g mask x 0 ≡ false
  unfolding member
  wants_read p g l r = wanting g p (omega arith) (rw (step_of_read n p l) r)

  wants_write : (p g : ℕ) → p ≤ n → writes n g mask x p ≡ true → complete n g mask x 0 ≡ false
  unfolding member
  wants_write p g l r = wanting g (n + 2 + p) (omega arith) (rw (step_of_write n p l) r)

  -- by the rows: an exclusive or, or a read or a write of a unit in the mask
  graph_wants : {w : Bool} {g : ℕ} → Chosen n mask x w g → (p : ℕ) → masked n mask p ≡ true → complete n g mask x 0 ≡ false
  unfolding reads sums writes by_graph
  graph_wants (degraded_read e) p m = wants_sum 2 refl
  graph_wants (plain_read e) p m =
      wants_read p 1 (omega (arith, masked_below n mask p m))
      (rw (m, ne_eqb p x (λ i. true≢false (sym m ∙ ap (masked n mask) i ∙ e))))
  graph_wants (parity_failed e) p m =
      wants_write p 6 (omega (arith, masked_below n mask p m))
      (rw (m, ne_eqb p x (λ i. omega (arith, masked_below n mask p m))))
  graph_wants (large_write e f) p m = wants_sum 5 refl
  graph_wants (reconstruct_out e) p m = wants_sum 4 refl
  graph_wants (small_out e) p m = wants_sum 3 refl
  graph_wants (small_none e f) p m = wants_sum 3 refl
  graph_wants (reconstruct_none e) p m = wants_sum 4 refl

pub starts_open : (n x : ℕ) (q : Request) → Proper n x q → q.done ≡ 0 → complete n q.graph q.mask q.missed q.done ≡ false
starts_open n x q P e =
    let w = some_masked n q.mask P.some_unit P.units_only in
    rw e (graph_wants n q.mask q.missed (row_of n x q P) w.0 w.1)
