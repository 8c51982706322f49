-- A graph that the table chooses has a step.
-- Assumes nothing.
use Prim.Native.Nat.{ℕ, ◌+◌, ◌*◌, ◌^◌, ◌<◌}
use mathlib.Core.Bool.{Bool, true, false, cond}
use mathlib.Core.Path.{◌≡◌, refl, sym, ap, ◌∙◌}
use native.Mathlib.Omega.{arith}
use borrow.Author.Tests.{eqb-true, ne_eqb, lt-ltb}
use lib.Count.{ones}
use lib.Dec.{ltb, eqb}
use Rattle.terms.proofs.Rows.{true≢false}
use Rattle.terms.specs.Reply.{first_row}
use Rattle.terms.specs.Sets.{bit}
use Rattle.graph.specs.Choice.{unit_out, unit_out_in, all_units, choose_read, choose_write, choose}
use Rattle.graph.specs.Steps.{step_of, by_graph, masked, reads, sums, writes, member}
use Rattle.graph.proofs.Numbers.{step_of_read, step_of_sum, step_of_write}
use Rattle.graph.proofs.Rules.{some_bit}

module _ (n mask x : ℕ) where
  -- graph g has a step
  abbrev pub HasStep : ℕ → Type 0
  HasStep g = (k : ℕ) × (member n g mask x (step_of n k) ≡ true)

  has_sum : (g : ℕ) → sums g ≡ true → HasStep g
  unfolding member
  has_sum g e = (n + 1, rw (step_of_sum n) e)

  has_read : (p : ℕ) → p < n → bit p mask ≡ true → ¬ (p ≡ x) → HasStep 1
  unfolding member reads by_graph masked
  has_read p l b f = (p, rw (step_of_read n p (omega arith), lt-ltb p n l, b, ne_eqb p x f))

  has_write : (p : ℕ) → p < n → bit p mask ≡ true → ¬ (p ≡ x) → HasStep 6
  unfolding member writes by_graph masked
  has_write p l b f = (n + 2 + p, rw (step_of_write n p (omega arith), lt-ltb p n l, b, ne_eqb p x f))

  -- X is not in the mask: no masked unit is X
  not_missing : unit_out_in n mask x ≡ false → (p : ℕ) → p < n → bit p mask ≡ true → ¬ (p ≡ x)
  unfolding unit_out_in unit_out
  not_missing e p l b q = true≢false (sym (rw (lt-ltb x n (rw (sym q) l), ap (λ (i : ℕ). bit i mask) (sym q) ∙ b)) ∙ e)

  -- each row below the first gives a graph with an exclusive or
  rows_sum : (a b c d : Bool) → sums (cond a 5 (cond b 4 (cond c 3 (cond d 3 4)))) ≡ true
  unfolding sums by_graph
  rows_sum true b c d = refl
  rows_sum false true c d = refl
  rows_sum false false true d = refl
  rows_sum false false false true = refl
  rows_sum false false false false = refl

  module _ (some : ¬ (mask ≡ 0)) (low : mask < 2 ^ n) where
    read_has : (t : Bool) → unit_out_in n mask x ≡ t → HasStep (cond t 2 1)
    unfolding sums by_graph
    read_has true e = has_sum 2 refl
    read_has false e = let (p, l, b) = some_bit n mask low some in has_read p l b (not_missing e p l b)

    write_has : (t : Bool) → eqb x n ≡ t
        → HasStep (cond t 6 (cond (all_units n mask) 5 (cond (unit_out_in n mask x) 4 (cond (unit_out n x) 3 (cond (ltb (2 * ones mask) n) 3 4)))))
    write_has true e =
        let (p, l, b) = some_bit n mask low some in has_write p l b (λ q. let z = eqb-true x n e in omega arith)
    write_has false e =
        has_sum (cond (all_units n mask) 5 (cond (unit_out_in n mask x) 4 (cond (unit_out n x) 3 (cond (ltb (2 * ones mask) n) 3 4))))
        (rows_sum (all_units n mask) (unit_out_in n mask x) (unit_out n x) (ltb (2 * ones mask) n))

    -- a graph is never empty
    pub never_empty : (write : Bool) → HasStep (choose n write mask x)
    unfolding choose choose_read choose_write first_row
    never_empty true = write_has (eqb x n) refl
    never_empty false = read_has (unit_out_in n mask x) refl
