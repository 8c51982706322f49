-- Document 01, "Choosing a graph". A stripe has n units; x is the position missing in it: a unit's number, n for parity, above n for none.
-- Assumes nothing.
use Rattle.std.specs.Prelude.{ℕ, ◌-◌, ◌*◌, ◌^◌, Bool, true, cond, ◌&&◌, [], ◌∷◌, ltb, eqb}
use Rattle.std.specs.Int.Count.{ones}
use Rattle.terms.specs.Reply.{row, first_row}
use Rattle.terms.specs.Sets.{bit}

-- X, the unit on the card that is out, exists
unfoldable pub unit_out : ℕ → ℕ → Bool
unit_out n x = ltb x n

-- X is in the mask
unfoldable pub unit_out_in : ℕ → ℕ → ℕ → Bool
unit_out_in n mask x = unit_out n x && bit x mask

-- all n units are in the mask
unfoldable pub all_units : ℕ → ℕ → Bool
all_units n mask = eqb mask (2 ^ n - 1)

-- the graph of a read: 2, degraded read, or 1, plain read
unfoldable pub choose_read : ℕ → ℕ → ℕ → ℕ
choose_read n mask x = first_row (row (unit_out_in n mask x) 2 ∷ row true 1 ∷ [])

-- the graph of a write: 6, parity failed; 5, large write; 4, reconstruct write; 3, small write. m is the number of ones in the mask
unfoldable pub choose_write : ℕ → ℕ → ℕ → ℕ
choose_write n mask x =
    first_row
    (row (eqb x n) 6
    ∷ row (all_units n mask) 5
    ∷ row (unit_out_in n mask x) 4
    ∷ row (unit_out n x) 3
    ∷ row (ltb (2 * ones mask) n) 3
    ∷ row true 4
    ∷ [])

-- the graph that the table chooses for a request: write or not, its mask, the position missing
unfoldable pub choose : ℕ → Bool → ℕ → ℕ → ℕ
choose n write mask x = cond write (choose_write n mask x) (choose_read n mask x)
