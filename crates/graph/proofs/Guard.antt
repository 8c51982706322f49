-- The two rules of document 01 whose breach lost data before ("never again"), as laws of the definitions: a dead unit in the mask never
-- means graph 3, and graph 4 writes no unit before all its reads.
-- Assumes nothing.
use Prim.Native.Nat.{ℕ}
use mathlib.Core.Bool.{Bool, true, false, cond}
use mathlib.Core.Path.{◌≡◌, refl}
use native.Mathlib.Omega.{arith}
use lib.Dec.{eqb}
use borrow.Author.Tests.{eq-eqb, ne_eqb}
use Rattle.terms.specs.Reply.{first_row}
use Rattle.graph.specs.Choice.{unit_out_in, all_units, choose_write, choose}
use Rattle.graph.specs.Order.{any_read, read_of, is_sum, before}
use Rattle.graph.specs.Steps.{rd, xr, wr, by_graph, reads}

-- a dead unit in the mask means graph 4, or 5 where all units are new
pub dead_masked_unit : (n mask x : ℕ) → unit_out_in n mask x ≡ true → ¬ (choose n true mask x ≡ 3)
unfolding choose choose_write first_row
dead_masked_unit n mask x h = rw h (by_row (eqb x n) (all_units n mask))
  where
    by_row : (parity all : Bool) → ¬ (◌≡◌ {A = ℕ} (cond parity 6 (cond all 5 4)) 3)
    by_row true all e = omega arith
    by_row false true e = omega arith
    by_row false false e = omega arith

-- graph 4: every data write needs all the reads
pub all_reads_first : (n mask x p r : ℕ) → ¬ (p ≡ n) → reads n 4 mask x r ≡ true → before n 4 mask x (wr p) (rd r) ≡ true
unfolding before by_graph any_read
all_reads_first n mask x p r h e = rw (ne_eqb p n h) e

-- graph 3: a unit's write needs that unit's read
pub own_read_first : (n mask x p : ℕ) → ¬ (p ≡ n) → before n 3 mask x (wr p) (rd p) ≡ true
unfolding before by_graph read_of
own_read_first n mask x p h = rw (ne_eqb p n h, eq-eqb p p refl)

-- parity's write needs the exclusive or, which needs all the reads
pub sum_first : (n g mask x : ℕ) → before n g mask x (wr n) xr ≡ true
unfolding before is_sum
sum_first n g mask x = rw (eq-eqb n n refl)
