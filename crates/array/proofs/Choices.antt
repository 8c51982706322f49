-- What the choice of a graph tells: graph 2 is for a missing unit, and some graph is always chosen.
-- Assumes nothing.
use Prim.Native.Nat.{ℕ, ◌*◌, ◌<◌}
use mathlib.Core.Bool.{Bool, true, false, cond, ◌&&◌}
use mathlib.Core.List.{[], ◌∷◌}
use mathlib.Core.Path.{◌≡◌, refl}
use native.Mathlib.Omega.{arith}
use lib.Count.{ones}
use lib.Dec.{ltb, eqb}
use borrow.Author.Tests.{ltb-true}
use Rattle.terms.specs.Reply.{row, first_row}
use Rattle.terms.specs.Sets.{bit}
use Rattle.graph.specs.Choice.{choose, choose_read, choose_write, unit_out, unit_out_in, all_units}

choice_write : (a b c d e : Bool) → first_row (row a 6 ∷ row b 5 ∷ row c 4 ∷ row d 3 ∷ row e 3 ∷ row true 4 ∷ []) ≡ 2 → ⊥
unfolding first_row
choice_write true b c d e h = omega (arith, h)
choice_write false true c d e h = omega (arith, h)
choice_write false false true d e h = omega (arith, h)
choice_write false false false true e h = omega (arith, h)
choice_write false false false false true h = omega (arith, h)
choice_write false false false false false h = omega (arith, h)

-- graph 2 is chosen only for a unit that is missing
pub choose_two : (n : ℕ) (write : Bool) (mask x : ℕ) → choose n write mask x ≡ 2 → x < n
unfolding choose choose_write choose_read unit_out_in unit_out first_row
choose_two n true mask x e = absurd (choice_write (eqb x n) (all_units n mask) (unit_out_in n mask x) (unit_out n x) (ltb (2 * ones mask) n) e)
choose_two n false mask x e = go (ltb x n) refl e
  where
    go : (b : Bool) → ltb x n ≡ b → ◌≡◌ {A = ℕ} (cond (b && bit x mask) 2 1) 2 → x < n
    go true q h = ltb-true x n q
    go false q h = omega (arith, h)

-- the table chooses some graph
pub choose_some : (n : ℕ) (write : Bool) (mask x : ℕ) → ¬ (choose n write mask x ≡ 0)
unfolding choose choose_write choose_read first_row
choose_some n true mask x = go (eqb x n) (all_units n mask) (unit_out_in n mask x) (unit_out n x) (ltb (2 * ones mask) n)
  where
    go : (a b c d e : Bool) → ¬ (◌≡◌ {A = ℕ} (cond a 6 (cond b 5 (cond c 4 (cond d 3 (cond e 3 4))))) 0)
    go true b c d e h = omega (arith, h)
    go false true c d e h = omega (arith, h)
    go false false true d e h = omega (arith, h)
    go false false false true e h = omega (arith, h)
    go false false false false true h = omega (arith, h)
    go false false false false false h = omega (arith, h)
choose_some n false mask x = go (unit_out_in n mask x)
  where
    go : (a : Bool) → ¬ (◌≡◌ {A = ℕ} (cond a 2 1) 0)
    go true h = omega (arith, h)
    go false h = omega (arith, h)
