-- docs/C-INTERFACE.md: each answer of a C function is one 64-bit number.
-- Assumes nothing.
use Rattle.std.specs.Prelude.{ℕ, ◌+◌, ◌*◌, ◌^◌, ◌<◌}
use Rattle.terms.specs.Reply.{Reply}

-- an answer's number, its first value at 2^16 and its second value at 2^32
unfoldable pub packed : Reply → ℕ
packed r = r.number + r.first * 2 ^ 16 + r.second * 2 ^ 32

-- an answer that has room there
pub record Roomy (r : Reply) : Type 0 where
  pub number : r.number < 2 ^ 16
  pub first : r.first < 2 ^ 16
  pub second : r.second < 2 ^ 32
