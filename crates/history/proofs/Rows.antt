-- The account's row as a stripe's theory sees it: at a byte, a function of the position whose whole sum is nothing. And the row that a
-- request will leave.
-- Assumes nothing.
use Prim.Native.Nat.{ℕ, ◌+◌, ◌*◌, ◌<◌}
use mathlib.Core.Bool.{Bool, true, false, cond, not, ◌&&◌}
use mathlib.Core.List.{List}
use mathlib.Core.Path.{◌≡◌, refl, sym, ap, ap₂, ◌∙◌, fun_ext}
use native.Mathlib.Nat.{mul-le-mul_right}
use native.Mathlib.Omega.{arith}
use borrow.Author.Tests.{lt-ltb, le-ltb, ltb-true, eq-eqb, ne_eqb, not-true}
use lib.Bits.{bit_xor}
use lib.Dec.{ltb, eqb}
use lib.ListN.{length, get_or}
use Rattle.terms.specs.Lists.{part}
use Rattle.terms.specs.Sets.{bit, xor_to}
use Rattle.terms.proofs.Lists.{length_part, get_d_part}
use Rattle.terms.proofs.Rows.{and_left, and_right}
use Rattle.terms.proofs.Sets.{xor_to_cong}
use Rattle.block.proofs.Xor.{xor_self}
use Rattle.geometry.specs.Placement.{stripe_of, unit_of, block_of}
use Rattle.geometry.specs.declared.State.{State}
use Rattle.graph.specs.Steps.{masked, unmasked}
use Rattle.record.specs.Life.{units_of}
use Rattle.array.specs.Lent.{rank, unit_bytes}
use Rattle.array.proofs.Rank.{rank_below}
use Rattle.stripe.specs.Group.{sum_to}
use Rattle.stripe.specs.Invariant.{IsRow}
use Rattle.history.specs.Account.{Entry}
use Rattle.history.specs.Row.{unit_in, written_row}
use Rattle.stripe.proofs.Bytes.{bytes, sum_xor}
use Rattle.history.proofs.Places.{block_stripe, block_unit}

-- byte b of unit u of stripe s
abbrev pub unit_byte : State → (ℕ → List ℕ) → ℕ → ℕ → ℕ → ℕ
unit_byte st row s b u = get_or (row (block_of st.cards s u)) b 0

-- byte b of position p of stripe s: of a unit, and of their exclusive or, parity
unfoldable pub row_of : State → (ℕ → List ℕ) → ℕ → ℕ → ℕ → ℕ
row_of st row s b p = cond (ltb p (units_of st)) (unit_byte st row s b p) (xor_to (units_of st) (unit_byte st row s b))

-- the row that a request leaves: a write alters it
unfoldable pub after_row : State → (ℕ → List ℕ) → Entry → ℕ → List ℕ
after_row st row e = cond e.write (written_row st row e.stripe e.mask e.payload) row

module _ (st : State) (row : ℕ → List ℕ) (s b : ℕ) where
  pub row_unit : (p : ℕ) → p < units_of st → row_of st row s b p ≡ unit_byte st row s b p
  unfolding row_of
  row_unit p h = rw (lt-ltb p (units_of st) h)

  pub row_parity : row_of st row s b (units_of st) ≡ xor_to (units_of st) (unit_byte st row s b)
  unfolding row_of
  row_parity = rw (le-ltb (units_of st) (units_of st) (omega arith))

  -- its whole sum is nothing
  pub row_is_row : IsRow bytes (units_of st) (row_of st row s b)
  unfolding IsRow sum_to
  row_is_row =
      ap₂ bit_xor
      (sum_xor (units_of st) (row_of st row s b) ∙ xor_to_cong (units_of st) (row_of st row s b) (unit_byte st row s b) (λ p h. row_unit p h))
      row_parity
      ∙ xor_self (xor_to (units_of st) (unit_byte st row s b))

  -- it looks at its own stripe's units alone
  pub row_cong : (row' : ℕ → List ℕ)
      → ((u : ℕ) → u < units_of st → row' (block_of st.cards s u) ≡ row (block_of st.cards s u))
      → row_of st row' s b ≡ row_of st row s b
  unfolding row_of
  row_cong row' same = fun_ext (λ p. at p (ltb p (units_of st)) refl)
    where
      byte : (u : ℕ) → u < units_of st → unit_byte st row' s b u ≡ unit_byte st row s b u
      byte u h = ap (λ (l : List ℕ). get_or l b 0) (same u h)

      at : (p : ℕ) (t : Bool) → ltb p (units_of st) ≡ t
          → cond t (unit_byte st row' s b p) (xor_to (units_of st) (unit_byte st row' s b))
          ≡ cond t (unit_byte st row s b p) (xor_to (units_of st) (unit_byte st row s b))
      at p true e = byte p (ltb-true p (units_of st) e)
      at p false e = xor_to_cong (units_of st) (unit_byte st row' s b) (unit_byte st row s b) byte

module _ (st : State) (row : ℕ → List ℕ) (e : Entry) where
  -- what the request leaves at unit u of stripe s
  after_at : (s u : ℕ) → u < units_of st → e.write ≡ true
      → after_row st row e (block_of st.cards s u)
      ≡ cond (eqb s e.stripe && bit u e.mask) (unit_in st e.mask e.payload u) (row (block_of st.cards s u))
  unfolding after_row written_row
  after_at s u hu w = rw (w, block_stripe st.cards s u hu, block_unit st.cards s u hu)

  pub after_read : e.write ≡ false → after_row st row e ≡ row
  unfolding after_row
  after_read w = rw w

  -- it is of the row's blocks one by one
  pub after_cong : (row' : ℕ → List ℕ) (L : ℕ) → row' L ≡ row L → after_row st row' e L ≡ after_row st row e L
  unfolding after_row written_row
  after_cong row' L same = go e.write
    where
      go : (w : Bool) → cond w (written_row st row' e.stripe e.mask e.payload) row' L
          ≡ cond w (written_row st row e.stripe e.mask e.payload) row L
      go true = rw same
      go false = same

  -- at a unit of its mask, the payload's
  pub after_masked : (u b : ℕ) → e.write ≡ true → masked (units_of st) e.mask u ≡ true → b < st.block
      → row_of st (after_row st row e) e.stripe b u ≡ get_or e.payload (rank e.mask u * st.block + b) 0
  unfolding masked unit_in
  after_masked u b w m hb =
      let hu : u < units_of st = ltb-true u (units_of st) (and_left (ltb u (units_of st)) (bit u e.mask) m) in
      let new : after_row st row e (block_of st.cards e.stripe u) ≡ unit_in st e.mask e.payload u =
      after_at e.stripe u hu w ∙ rw (eq-eqb e.stripe e.stripe refl, and_right (ltb u (units_of st)) (bit u e.mask) m) in
      row_unit st (after_row st row e) e.stripe b u hu
      ∙ ap (λ (l : List ℕ). get_or l b 0) new
      ∙ get_d_part (rank e.mask u * st.block) st.block e.payload b 0 hb

  -- at a unit outside it, the row's
  pub after_unmasked : (u b : ℕ) → unmasked (units_of st) e.mask u ≡ true
      → row_of st (after_row st row e) e.stripe b u ≡ row_of st row e.stripe b u
  unfolding unmasked
  after_unmasked u b m =
      let hu : u < units_of st = ltb-true u (units_of st) (and_left (ltb u (units_of st)) (not (bit u e.mask)) m) in
      row_unit st (after_row st row e) e.stripe b u hu
      ∙ ap (λ (l : List ℕ). get_or l b 0) (go u hu (and_right (ltb u (units_of st)) (not (bit u e.mask)) m) e.write refl)
      ∙ sym (row_unit st row e.stripe b u hu)
    where
      go : (u : ℕ) → u < units_of st → not (bit u e.mask) ≡ true → (t : Bool) → e.write ≡ t
          → after_row st row e (block_of st.cards e.stripe u) ≡ row (block_of st.cards e.stripe u)
      go u hu m true w = after_at e.stripe u hu w ∙ rw (eq-eqb e.stripe e.stripe refl, not-true (bit u e.mask) m)
      go u hu m false w = ap (λ (f : ℕ → List ℕ). f (block_of st.cards e.stripe u)) (after_read w)

  -- in another stripe, the row's
  pub after_elsewhere : (t u : ℕ) → ¬ (e.stripe ≡ t) → u < units_of st
      → after_row st row e (block_of st.cards t u) ≡ row (block_of st.cards t u)
  after_elsewhere t u differ hu = go e.write refl
    where
      go : (w : Bool) → e.write ≡ w → after_row st row e (block_of st.cards t u) ≡ row (block_of st.cards t u)
      go true w = after_at t u hu w ∙ rw (ne_eqb t e.stripe (λ d. differ (sym d)))
      go false w = ap (λ (f : ℕ → List ℕ). f (block_of st.cards t u)) (after_read w)

  -- blocks of B bytes stay so
  pub after_size : (e.write ≡ true → length e.payload ≡ unit_bytes st e.mask) → (L : ℕ) → length (row L) ≡ st.block
      → length (after_row st row e L) ≡ st.block
  unfolding after_row written_row unit_in unit_bytes
  after_size paid L long = go e.write refl
    where
      unit : e.write ≡ true → (u : ℕ) → bit u e.mask ≡ true → length (part (rank e.mask u * st.block) st.block e.payload) ≡ st.block
      unit w u m =
          length_part (rank e.mask u * st.block) st.block e.payload
          (omega (arith, paid w, mul-le-mul_right st.block (rank_below e.mask u m)))

      pick : e.write ≡ true → (a : Bool) → (c : Bool) → bit (unit_of st.cards L) e.mask ≡ c
          → length (cond (a && c) (part (rank e.mask (unit_of st.cards L) * st.block) st.block e.payload) (row L)) ≡ st.block
      pick w true true m = unit w (unit_of st.cards L) m
      pick w true false m = long
      pick w false c m = long

      go : (w : Bool) → e.write ≡ w
          → length (cond w (written_row st row e.stripe e.mask e.payload) row L) ≡ st.block
      go true w = pick w (eqb (stripe_of st.cards L) e.stripe) (bit (unit_of st.cards L) e.mask) refl
      go false w = long
