-- What a call is lent beside the image and the work store: the table, whose length refusal 2 tests, and the units of a mask as bytes.
-- Assumes nothing.
use Rattle.std.specs.Prelude.{ℕ, ◌*◌, ◌%◌, ◌^◌, Bool, not, List, [], ◌∷◌, eqb}
use Rattle.std.specs.Int.Count.{ones}
use Rattle.terms.specs.Reply.{Row, row}
use Rattle.geometry.specs.Limits.{beyond_state, is_lost}
use Rattle.geometry.specs.declared.State.{State}

-- refusal 2, of a table of so many records: they are not K
unfoldable pub table_wrong : State → ℕ → Bool
table_wrong st len = not (eqb len st.records)

-- what every call on the table begins with, refusals 1 to 4: whether what it is lent is of a wrong length, and whether the table is sound
unfoldable pub lent_rows : State → Bool → Bool → List Row
lent_rows st wrong sound = row (beyond_state st) 1 ∷ row wrong 2 ∷ row (not sound) 3 ∷ row (is_lost st) 4 ∷ []

-- m·B, with m the number of ones in the mask
unfoldable pub unit_bytes : State → ℕ → ℕ
unit_bytes st mask = ones mask * st.block

-- the units in the mask below unit i: its place among them, ascending
unfoldable pub rank : ℕ → ℕ → ℕ
rank mask i = ones (mask % 2 ^ i)
