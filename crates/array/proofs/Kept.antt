-- What admission of a write does to the work store: the units of its mask are kept, each in its own block to write, and nothing else changes.
-- Assumes nothing.
use Prim.Native.Nat.{ℕ, ◌+◌, ◌*◌, ◌≤◌, ◌<◌}
use mathlib.Core.Bool.{true}
use mathlib.Core.List.{List}
use mathlib.Core.Path.{◌≡◌, sym, ap, ◌∙◌}
use native.Mathlib.Nat.{mul-le-mul_right}
use native.Mathlib.Omega.{arith}
use lib.ListN.{length, get_or}
use Rattle.terms.specs.Lists.{part}
use Rattle.terms.specs.Sets.{bit}
use Rattle.terms.proofs.Lists.{length_part, get_d_part}
use Rattle.geometry.proofs.Apart.{write_inside, write_apart, write_read_apart}
use Rattle.geometry.specs.Store.{write_at, read_at, work_size}
use Rattle.geometry.specs.declared.State.{State}
use Rattle.record.specs.Life.{units_of}
use Rattle.array.specs.Admission.{keep_units}
use Rattle.array.specs.Lent.{rank, unit_bytes}
use Rattle.array.proofs.Frames.{new_byte, got_byte}
use Rattle.array.proofs.Puts.{puts_length, puts_other, puts_same}
use Rattle.array.proofs.Rank.{rank_below}

module _ (st : State) (i : ℕ) (hi : i < st.records) (some : 0 < st.cards) (mask : ℕ) (payload : List ℕ)
    (paid : length payload ≡ unit_bytes st mask) (work : List ℕ) (large : length work ≡ work_size st.cards st.block st.records) where
  -- the place of unit u, and the payload's unit
  abbrev at : ℕ → ℕ
  at u = write_at st.cards st.block i u

  abbrev unit : ℕ → List ℕ
  unit u = part (rank mask u * st.block) st.block payload

  small : (u : ℕ) → u < units_of st → u < st.cards
  small u h = omega arith

  size : (u : ℕ) → u < units_of st → bit u mask ≡ true → length (unit u) ≡ st.block
  unfolding unit_bytes
  size u h e =
      length_part (rank mask u * st.block) st.block payload (omega (arith, paid, mul-le-mul_right st.block (rank_below mask u e)))

  room : (u : ℕ) → u < units_of st → bit u mask ≡ true → at u + st.block ≤ length work
  room u h e = omega (arith, write_inside st.cards st.block st.records i u hi (small u h))

  pub kept_length : length (keep_units st i mask payload work) ≡ length work
  unfolding keep_units
  kept_length = puts_length st.block mask (units_of st) at unit work size room (units_of st) (omega arith)

  pub kept_got : (j q b : ℕ) → q < st.cards → b < st.block
      → got_byte st.cards st.block (keep_units st i mask payload work) j q b ≡ got_byte st.cards st.block work j q b
  unfolding keep_units
  kept_got j q b hq hb =
      puts_other st.block mask (units_of st) at unit work size room (units_of st) (omega arith) (read_at st.cards st.block j q) b hb
      (λ u h e. write_read_apart st.cards st.block i u j q (small u h) hq)

  pub kept_other : (j q b : ℕ) → q < st.cards → b < st.block → (i ≡ j → q < units_of st → bit q mask ≡ true → ⊥)
      → new_byte st.cards st.block (keep_units st i mask payload work) j q b ≡ new_byte st.cards st.block work j q b
  unfolding keep_units
  kept_other j q b hq hb differ =
      puts_other st.block mask (units_of st) at unit work size room (units_of st) (omega arith) (write_at st.cards st.block j q) b hb
      (λ u h e. write_apart st.cards st.block i u j q (small u h) hq
      (λ d f. differ d (omega arith) (ap (λ (v : ℕ). bit v mask) (sym f) ∙ e)))

  pub kept_same : (u b : ℕ) → u < units_of st → bit u mask ≡ true → b < st.block
      → new_byte st.cards st.block (keep_units st i mask payload work) i u b ≡ get_or payload (rank mask u * st.block + b) 0
  unfolding keep_units
  kept_same u b h e hb =
      puts_same st.block mask (units_of st) at unit work size room
      (λ u v k l e f d. write_apart st.cards st.block i u i v (small u k) (small v l) (λ p q. d q))
      (units_of st) (omega arith) u b h e hb
      ∙ get_d_part (rank mask u * st.block) st.block payload b 0 hb
