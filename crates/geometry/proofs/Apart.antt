-- Different blocks of the image do not overlap and lie inside it, and so do the blocks of the work store.
-- Assumes nothing.
use Prim.Native.Nat.{ℕ, ◌+◌, ◌*◌, ◌≤◌, ◌<◌}
use mathlib.Core.Path.{◌≡◌}
use mathlib.Core.Logic.{◌⊎◌, inl, inr}
use native.Mathlib.Decide.{dec_lt}
use native.Mathlib.Nat.{mul-le-mul_right}
use native.Mathlib.Omega.{arith}
use Rattle.geometry.specs.Store.{image_size, cell_at, work_size, write_at, read_at}
use Rattle.geometry.proofs.Grid.{grid_inside, grid_apart}

-- blocks of B bytes from a and from b do not overlap
abbrev pub Apart : ℕ → ℕ → ℕ → Type 0
Apart B a b = (a + B ≤ b) ⊎ (b + B ≤ a)

-- blocks one after the other: block k of w lies within them
row_inside : (B k w : ℕ) → k < w → k * B + B ≤ w * B
row_inside B k w h = omega (arith, mul-le-mul_right B h)

-- and different blocks do not overlap
row_apart : (B k l : ℕ) → ¬ (k ≡ l) → Apart B (k * B) (l * B)
row_apart B k l differ =
    elim (dec_lt k l) [
      | yes h ↦ inl (row_inside B k l h)
      | no h ↦ inr (row_inside B l k (omega arith))
    ]

module _ (N S B : ℕ) where
  -- the block of a card and a stripe lies inside the image
  pub cell_inside : (c s : ℕ) → c < N → s < S → cell_at S B c s + B ≤ image_size N S B
  unfolding cell_at image_size
  cell_inside c s hc hs = row_inside B (c * S + s) (N * S) (grid_inside S N c s hc hs)

module _ (S B : ℕ) where
  -- blocks of different cards or stripes do not overlap
  pub cell_apart : (c s d t : ℕ) → s < S → t < S → (c ≡ d → s ≡ t → ⊥) → Apart B (cell_at S B c s) (cell_at S B d t)
  unfolding cell_at
  cell_apart c s d t hs ht differ = row_apart B (c * S + s) (d * S + t) (grid_apart S c s d t hs ht differ)

module _ (N B : ℕ) where
  -- a record has 2·N blocks, one after the other: number i of record r
  slot_at : ℕ → ℕ → ℕ
  slot_at r i = (r * (2 * N) + i) * B

  slot_inside : (K r i : ℕ) → r < K → i < 2 * N → slot_at r i + B ≤ work_size N B K
  unfolding slot_at work_size
  slot_inside K r i hr hi = omega (arith, row_inside B (r * (2 * N) + i) (K * (2 * N)) (grid_inside (2 * N) K r i hr hi))

  slot_apart : (r i q j : ℕ) → i < 2 * N → j < 2 * N → (r ≡ q → i ≡ j → ⊥) → Apart B (slot_at r i) (slot_at q j)
  unfolding slot_at
  slot_apart r i q j hi hj differ =
      row_apart B (r * (2 * N) + i) (q * (2 * N) + j) (grid_apart (2 * N) r i q j hi hj differ)

  -- the blocks to write are its first N, and the blocks read the others
  write_slot : (r j : ℕ) → write_at N B r j ≡ slot_at r j
  unfolding write_at slot_at
  write_slot r j = omega arith

  read_slot : (r j : ℕ) → read_at N B r j ≡ slot_at r (N + j)
  unfolding read_at slot_at
  read_slot r j = omega arith

  -- a record's blocks lie inside the work store
  pub write_inside : (K r j : ℕ) → r < K → j < N → write_at N B r j + B ≤ work_size N B K
  write_inside K r j hr hj = rw write_slot (slot_inside K r j hr (omega arith))

  pub read_inside : (K r j : ℕ) → r < K → j < N → read_at N B r j + B ≤ work_size N B K
  read_inside K r j hr hj = rw read_slot (slot_inside K r (N + j) hr (omega arith))

  -- blocks of different records, kinds or positions do not overlap
  pub write_apart : (r i q j : ℕ) → i < N → j < N → (r ≡ q → i ≡ j → ⊥) → Apart B (write_at N B r i) (write_at N B q j)
  write_apart r i q j hi hj differ = simp write_slot (slot_apart r i q j (omega arith) (omega arith) differ)

  pub read_apart : (r i q j : ℕ) → i < N → j < N → (r ≡ q → i ≡ j → ⊥) → Apart B (read_at N B r i) (read_at N B q j)
  read_apart r i q j hi hj differ =
      simp read_slot (slot_apart r (N + i) q (N + j) (omega arith) (omega arith) (λ e d. differ e (omega arith)))

  pub write_read_apart : (r i q j : ℕ) → i < N → j < N → Apart B (write_at N B r i) (read_at N B q j)
  write_read_apart r i q j hi hj =
      simp (write_slot, read_slot) (slot_apart r i q (N + j) (omega arith) (omega arith) (λ e d. omega arith))
