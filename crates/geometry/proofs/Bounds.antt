-- The limits as facts: what the numbers of a legal geometry are, and how many blocks there can be.
-- Assumes nothing.
use Prim.Native.Nat.{ℕ, ◌+◌, ◌*◌, ◌%◌, ◌≤◌, ◌<◌}
use mathlib.Core.Bool.{true, false}
use mathlib.Core.Logic.{◌⊎◌}
use mathlib.Core.Path.{◌≡◌}
use native.Mathlib.Nat.{le_refl, mul-le-mul}
use native.Mathlib.Omega.{arith}
use Rattle.std.proofs.lemmas.Bool.Decides.{nat_tests}
use Rattle.terms.specs.Sets.{within}
use Rattle.geometry.specs.Limits.{legal, legal_out, none, beyond}
use Rattle.geometry.specs.Store.{image_size, work_size}
use Rattle.geometry.specs.declared.Geometry.{Geometry}

-- the limits of N, S, B and K
pub record Bounds (N S B K : ℕ) : Type 0 where
  pub cards_low : 3 ≤ N
  pub cards_high : N ≤ 8
  pub stripes_low : 1 ≤ S
  pub stripes_high : S ≤ 1024
  pub block_low : 16 ≤ B
  pub block_high : B ≤ 512
  pub block_whole : B % 16 ≡ 0
  pub records_low : 1 ≤ K
  pub records_high : K ≤ 8

module _ (N S B K : ℕ) where
  pub legal_bounds : legal N S B K ≡ true → Bounds N S B K
  unfolding legal within
  legal_bounds e = grind (arith, nat_tests)

  pub bounds_legal : Bounds N S B K → legal N S B K ≡ true
  unfolding legal within
  bounds_legal b = grind (arith, nat_tests)

  -- there are at most 8,192 blocks
  pub sizes_fit : Bounds N S B K → N * S ≤ 8192
  sizes_fit b = mul-le-mul b.cards_high b.stripes_high

  -- an image is at most 4 MiB, and a work store at most 64 KiB
  pub image_small : Bounds N S B K → image_size N S B ≤ 4194304
  unfolding image_size
  image_small b = mul-le-mul (sizes_fit b) b.block_high

  pub work_small : Bounds N S B K → work_size N B K ≤ 65536
  unfolding work_size
  work_small b = mul-le-mul (mul-le-mul (mul-le-mul (le_refl 2) b.cards_high) b.block_high) b.records_high

-- the card out is below N, or none is
pub out_cases : (N out : ℕ) → legal_out N out ≡ true → (out < N) ⊎ (out ≡ none)
unfolding legal_out
out_cases N out e = grind (arith, nat_tests)

-- what stands in this column of this row starts below 2^64, in rows this small
pub offset_fits : (row width column block : ℕ) → row ≤ 8 → width ≤ 1024 → column ≤ 1024 → block ≤ 512 → (row * width + column) * block ≤ 4718592
offset_fits row width column block r w c b =
    let first = mul-le-mul r w in
    let number : row * width + column ≤ 9216 = omega arith in
    mul-le-mul number b

-- what refusal 1 leaves, of a geometry and the card out
module _ (g : Geometry) (out : ℕ) (within : beyond g out ≡ false) where
  pub within_limits : Bounds g.cards g.stripes g.block g.records
  unfolding beyond
  within_limits = grind (arith, nat_tests, legal_bounds)

  pub within_limits_out : (out < g.cards) ⊎ (out ≡ none)
  unfolding beyond legal_out
  within_limits_out = grind (arith, nat_tests)
