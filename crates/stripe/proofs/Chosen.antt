-- The table of document 01, "Choosing a graph", as evidence: which row chose the graph, and what its tests tell. Proofs go by these rows.
-- Assumes nothing.
use Prim.Native.Nat.{ℕ, ◌-◌, ◌*◌, ◌^◌, ◌<◌}
use mathlib.Core.Bool.{Bool, true, false, cond, not}
use mathlib.Core.Path.{◌≡◌, refl, ap}
use native.Mathlib.Omega.{arith}
use lib.Count.{ones}
use lib.Dec.{ltb, eqb}
use borrow.Author.Tests.{eqb-true, eqb-false, ltb-true, ltb-false}
use Rattle.terms.specs.Reply.{first_row}
use Rattle.graph.specs.Choice.{unit_out, unit_out_in, all_units, choose_read, choose_write, choose}
use Rattle.graph.specs.Steps.{masked, unmasked}
use Rattle.stripe.specs.Invariant.{Proper}
use Rattle.stripe.specs.Request.{Request}

-- the graph of a request, write or not, of a mask in a stripe of n units whose position x is missing; above n for none
pub data Chosen (n mask x : ℕ) : Bool → ℕ → Type 0 where
  degraded_read : masked n mask x ≡ true → Chosen n mask x false 2
  plain_read : masked n mask x ≡ false → Chosen n mask x false 1
  parity_failed : x ≡ n → Chosen n mask x true 6
  large_write : ¬ (x ≡ n) → mask ≡ 2 ^ n - 1 → Chosen n mask x true 5
  reconstruct_out : masked n mask x ≡ true → Chosen n mask x true 4
  small_out : unmasked n mask x ≡ true → Chosen n mask x true 3
  small_none : n < x → 2 * ones mask < n → Chosen n mask x true 3
  reconstruct_none : n < x → Chosen n mask x true 4

module _ (n mask x : ℕ) where
  read_rows : (t : Bool) → unit_out_in n mask x ≡ t → Chosen n mask x false (cond t 2 1)
  unfolding unit_out_in unit_out masked
  read_rows true e = degraded_read e
  read_rows false e = plain_read e

  out_not_in : unit_out_in n mask x ≡ false → unit_out n x ≡ true → unmasked n mask x ≡ true
  unfolding unit_out_in unit_out unmasked
  out_not_in e h = rw h (ap not (rw h at e))

  write_rows : (t1 t2 t3 t4 t5 : Bool) → eqb x n ≡ t1 → all_units n mask ≡ t2 → unit_out_in n mask x ≡ t3 → unit_out n x ≡ t4
      → ltb (2 * ones mask) n ≡ t5 → Chosen n mask x true (cond t1 6 (cond t2 5 (cond t3 4 (cond t4 3 (cond t5 3 4)))))
  unfolding unit_out_in unit_out all_units masked
  write_rows true t2 t3 t4 t5 e1 e2 e3 e4 e5 = parity_failed (eqb-true x n e1)
  write_rows false true t3 t4 t5 e1 e2 e3 e4 e5 = large_write (eqb-false x n e1) (eqb-true mask (2 ^ n - 1) e2)
  write_rows false false true t4 t5 e1 e2 e3 e4 e5 = reconstruct_out e3
  write_rows false false false true t5 e1 e2 e3 e4 e5 = small_out (out_not_in e3 e4)
  write_rows false false false false true e1 e2 e3 e4 e5 =
      small_none (omega (arith, ltb-false x n e4, eqb-false x n e1)) (ltb-true (2 * ones mask) n e5)
  write_rows false false false false false e1 e2 e3 e4 e5 = reconstruct_none (omega (arith, ltb-false x n e4, eqb-false x n e1))

  -- the table's choice, with the row that made it
  pub chosen : (write : Bool) → Chosen n mask x write (choose n write mask x)
  unfolding choose choose_read choose_write first_row
  chosen true =
      write_rows (eqb x n) (all_units n mask) (unit_out_in n mask x) (unit_out n x) (ltb (2 * ones mask) n) refl refl refl refl refl
  chosen false = read_rows (unit_out_in n mask x) refl

  pub chosen_graph : (write : Bool) (g : ℕ) → g ≡ choose n write mask x → Chosen n mask x write g
  chosen_graph write g e = rw e (chosen write)

-- the row that chose a request's graph
pub row_of : (n x : ℕ) (q : Request) → Proper n x q → Chosen n q.mask q.missed q.write q.graph
row_of n x q P = chosen_graph n q.mask q.missed q.write q.graph P.right_graph
