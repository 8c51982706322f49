-- What a done step alters: its own record's blocks and its own stripe, and there just the block that document 01 names.
-- Assumes nothing.
use Prim.Native.Nat.{ℕ, ◌<◌}
use mathlib.Core.Bool.{Bool, true, false}
use mathlib.Core.List.{List}
use mathlib.Core.Path.{◌≡◌, refl, ap, ◌∙◌}
use native.Mathlib.Omega.{arith}
use lib.ListN.{length}
use Rattle.terms.specs.Lists.{put, part, tabulate}
use Rattle.terms.proofs.Lists.{length_part, get_d_part, length_tabulate, get_d_tabulate}
use Rattle.geometry.proofs.Apart.{cell_inside, write_inside}
use Rattle.geometry.proofs.Asked.{BoundsOf}
use Rattle.geometry.proofs.Bounds.{legal_bounds}
use Rattle.geometry.proofs.Placing.{placed_in}
use Rattle.geometry.specs.Placement.{card_of_position}
use Rattle.geometry.specs.Store.{write_at, read_at}
use Rattle.geometry.specs.declared.State.{State}
use Rattle.graph.specs.Steps.{Step, rd, xr, wr, nil}
use Rattle.graph.specs.Sums.{sums_to_read}
use Rattle.parity.specs.Parity.{byte_at}
use Rattle.record.specs.Life.{units_of, chosen_at}
use Rattle.record.specs.declared.Record.{Record}
pub use Rattle.array.specs.Premises.{Within, Standing}
use Rattle.array.specs.Stepping.{cell_of, sum_byte, sum_at, work_after, image_after}
use Rattle.array.proofs.Frames.{new_byte, got_byte, cell_put_length, cell_put_same, cell_put_other}
use Rattle.array.proofs.Frames.{got_put_length, got_put_same, got_put_other, got_put_new}
use Rattle.array.proofs.Frames.{new_put_length, new_put_same, new_put_other, new_put_got}

module _ (st : State) (work image : List ℕ) (i : ℕ) (r : Record) (at : Standing st work image i r) where
  bounds : BoundsOf st
  bounds = legal_bounds _ _ _ _ at.limits

  card_in_law : (p : ℕ) → p < st.cards → card_of_position st r.stripe p < st.cards
  card_in_law p hp = (placed_in st (omega (arith, bounds))).card_below r.stripe p hp

  -- a read's block, and a write's, are of B bytes
  cell_size : (p : ℕ) → p < st.cards → length (part (cell_of st r p) st.block image) ≡ st.block
  cell_size p hp =
      length_part (cell_of st r p) st.block image
      (omega (arith, at.image_right, cell_inside st.cards st.stripes st.block (card_of_position st r.stripe p) r.stripe (card_in_law p hp) at.stripe_below))

  new_size : (p : ℕ) → p < st.cards → length (part (write_at st.cards st.block i p) st.block work) ≡ st.block
  new_size p hp =
      length_part (write_at st.cards st.block i p) st.block work
      (omega (arith, at.work_right, write_inside st.cards st.block st.records i p at.record_below hp))

  -- ---- a read step: the read block of its position becomes its card's block

  pub read_got : (p b : ℕ) → p < st.cards → b < st.block
      → got_byte st.cards st.block (work_after st i r (rd p) work image) i p b
      ≡ byte_at st.stripes st.block image (card_of_position st r.stripe p) r.stripe b
  unfolding work_after byte_at
  read_got p b hp hb =
      got_put_same st.cards st.block st.records work at.work_right i p at.record_below hp _ (cell_size p hp) b hb
      ∙ get_d_part (cell_of st r p) st.block image b 0 hb

  pub read_got_other : (p j q b : ℕ) → p < st.cards → q < st.cards → b < st.block → (i ≡ j → p ≡ q → ⊥)
      → got_byte st.cards st.block (work_after st i r (rd p) work image) j q b ≡ got_byte st.cards st.block work j q b
  unfolding work_after
  read_got_other p j q b hp hq hb differ =
      got_put_other st.cards st.block st.records work at.work_right i p at.record_below hp _ (cell_size p hp) j q b hq hb differ

  pub read_new : (p j q b : ℕ) → p < st.cards → q < st.cards → b < st.block
      → new_byte st.cards st.block (work_after st i r (rd p) work image) j q b ≡ new_byte st.cards st.block work j q b
  unfolding work_after
  read_new p j q b hp hq hb = got_put_new st.cards st.block st.records work at.work_right i p at.record_below hp _ (cell_size p hp) j q b hq hb

  -- ---- the exclusive or, in graph 2: the read block of X becomes the sum

  sum_size : length (tabulate st.block (sum_byte st i r work)) ≡ st.block
  sum_size = length_tabulate st.block (sum_byte st i r work)

  module _ (two : sums_to_read r.graph ≡ true) where
    sum_at_read : work_after st i r xr work image ≡ put (read_at st.cards st.block i (chosen_at st r)) (tabulate st.block (sum_byte st i r work)) work
    unfolding work_after sum_at
    sum_at_read = rw two

    pub inferred_got : (b : ℕ) → b < st.block
        → got_byte st.cards st.block (work_after st i r xr work image) i (chosen_at st r) b ≡ sum_byte st i r work b
    inferred_got b hb =
        rw sum_at_read
        (got_put_same st.cards st.block st.records work at.work_right i (chosen_at st r) at.record_below (at.x_below two) _ sum_size b hb
        ∙ get_d_tabulate st.block (sum_byte st i r work) b 0 hb)

    pub inferred_got_other : (j q b : ℕ) → q < st.cards → b < st.block → (i ≡ j → chosen_at st r ≡ q → ⊥)
        → got_byte st.cards st.block (work_after st i r xr work image) j q b ≡ got_byte st.cards st.block work j q b
    inferred_got_other j q b hq hb differ =
        rw sum_at_read
        (got_put_other st.cards st.block st.records work at.work_right i (chosen_at st r) at.record_below (at.x_below two) _ sum_size j q b hq hb differ)

    pub inferred_new : (j q b : ℕ) → q < st.cards → b < st.block
        → new_byte st.cards st.block (work_after st i r xr work image) j q b ≡ new_byte st.cards st.block work j q b
    inferred_new j q b hq hb =
        rw sum_at_read (got_put_new st.cards st.block st.records work at.work_right i (chosen_at st r) at.record_below (at.x_below two) _ sum_size j q b hq hb)

  -- ---- in the other graphs: the last block to write becomes the sum

  last_below : units_of st < st.cards
  last_below = omega (arith, bounds)

  module _ (other : sums_to_read r.graph ≡ false) where
    sum_at_new : work_after st i r xr work image ≡ put (write_at st.cards st.block i (units_of st)) (tabulate st.block (sum_byte st i r work)) work
    unfolding work_after sum_at
    sum_at_new = rw other

    pub computed_new : (b : ℕ) → b < st.block
        → new_byte st.cards st.block (work_after st i r xr work image) i (units_of st) b ≡ sum_byte st i r work b
    computed_new b hb =
        rw sum_at_new
        (new_put_same st.cards st.block st.records work at.work_right i (units_of st) at.record_below last_below _ sum_size b hb
        ∙ get_d_tabulate st.block (sum_byte st i r work) b 0 hb)

    pub computed_new_other : (j q b : ℕ) → q < st.cards → b < st.block → (i ≡ j → units_of st ≡ q → ⊥)
        → new_byte st.cards st.block (work_after st i r xr work image) j q b ≡ new_byte st.cards st.block work j q b
    computed_new_other j q b hq hb differ =
        rw sum_at_new
        (new_put_other st.cards st.block st.records work at.work_right i (units_of st) at.record_below last_below _ sum_size j q b hq hb differ)

    pub computed_got : (j q b : ℕ) → q < st.cards → b < st.block
        → got_byte st.cards st.block (work_after st i r xr work image) j q b ≡ got_byte st.cards st.block work j q b
    computed_got j q b hq hb =
        rw sum_at_new (new_put_got st.cards st.block st.records work at.work_right i (units_of st) at.record_below last_below _ sum_size j q b hq hb)

  -- ---- a write step: its card's block becomes the block to write of its position

  pub write_cell : (p b : ℕ) → p < st.cards → b < st.block
      → byte_at st.stripes st.block (image_after st i r (wr p) work image) (card_of_position st r.stripe p) r.stripe b
      ≡ new_byte st.cards st.block work i p b
  unfolding image_after
  write_cell p b hp hb =
      cell_put_same st.cards st.stripes st.block image at.image_right (card_of_position st r.stripe p) r.stripe
      (card_in_law p hp) at.stripe_below _ (new_size p hp) b hb
      ∙ get_d_part (write_at st.cards st.block i p) st.block work b 0 hb

  pub write_cell_other : (p c t b : ℕ) → p < st.cards → t < st.stripes → b < st.block
      → (card_of_position st r.stripe p ≡ c → r.stripe ≡ t → ⊥)
      → byte_at st.stripes st.block (image_after st i r (wr p) work image) c t b ≡ byte_at st.stripes st.block image c t b
  unfolding image_after
  write_cell_other p c t b hp ht hb differ =
      cell_put_other st.cards st.stripes st.block image at.image_right (card_of_position st r.stripe p) r.stripe
      (card_in_law p hp) at.stripe_below _ (new_size p hp) c t b ht hb differ

  -- ---- any step: lengths stay, and so do other records' blocks and other stripes

  pub step_work_length : (s : Step) → Within st.cards s → length (work_after st i r s work image) ≡ length work
  unfolding work_after
  step_work_length (rd p) hp = got_put_length st.cards st.block st.records work at.work_right i p at.record_below hp _ (cell_size p hp)
  step_work_length xr h = by_place (sums_to_read r.graph) refl
    where
      by_place : (t : Bool) → sums_to_read r.graph ≡ t → length (put (sum_at st i r) (tabulate st.block (sum_byte st i r work)) work) ≡ length work
      by_place true e =
          ap length (sum_at_read e)
          ∙ got_put_length st.cards st.block st.records work at.work_right i (chosen_at st r) at.record_below (at.x_below e) _ sum_size
      by_place false e =
          ap length (sum_at_new e)
          ∙ new_put_length st.cards st.block st.records work at.work_right i (units_of st) at.record_below last_below _ sum_size
  step_work_length (wr p) hp = refl
  step_work_length nil h = refl

  pub step_image_length : (s : Step) → Within st.cards s → length (image_after st i r s work image) ≡ length image
  unfolding image_after
  step_image_length (rd p) hp = refl
  step_image_length xr h = refl
  step_image_length (wr p) hp =
      cell_put_length st.cards st.stripes st.block image at.image_right (card_of_position st r.stripe p) r.stripe
      (card_in_law p hp) at.stripe_below _ (new_size p hp)
  step_image_length nil h = refl

  pub step_got_other : (s : Step) → Within st.cards s → (j q b : ℕ) → ¬ (i ≡ j) → q < st.cards → b < st.block
      → got_byte st.cards st.block (work_after st i r s work image) j q b ≡ got_byte st.cards st.block work j q b
  step_got_other (rd p) hp j q b differ hq hb = read_got_other p j q b hp hq hb (λ e f. differ e)
  step_got_other xr h j q b differ hq hb = by_place (sums_to_read r.graph) refl
    where
      by_place : (t : Bool) → sums_to_read r.graph ≡ t
          → got_byte st.cards st.block (work_after st i r xr work image) j q b ≡ got_byte st.cards st.block work j q b
      by_place true e = inferred_got_other e j q b hq hb (λ d f. differ d)
      by_place false e = computed_got e j q b hq hb
  step_got_other (wr p) hp j q b differ hq hb = unfold work_after in refl
  step_got_other nil h j q b differ hq hb = unfold work_after in refl

  pub step_new_other : (s : Step) → Within st.cards s → (j q b : ℕ) → ¬ (i ≡ j) → q < st.cards → b < st.block
      → new_byte st.cards st.block (work_after st i r s work image) j q b ≡ new_byte st.cards st.block work j q b
  step_new_other (rd p) hp j q b differ hq hb = read_new p j q b hp hq hb
  step_new_other xr h j q b differ hq hb = by_place (sums_to_read r.graph) refl
    where
      by_place : (t : Bool) → sums_to_read r.graph ≡ t
          → new_byte st.cards st.block (work_after st i r xr work image) j q b ≡ new_byte st.cards st.block work j q b
      by_place true e = inferred_new e j q b hq hb
      by_place false e = computed_new_other e j q b hq hb (λ d f. differ d)
  step_new_other (wr p) hp j q b differ hq hb = unfold work_after in refl
  step_new_other nil h j q b differ hq hb = unfold work_after in refl

  pub step_cell_other : (s : Step) → Within st.cards s → (c t b : ℕ) → ¬ (r.stripe ≡ t) → t < st.stripes → b < st.block
      → byte_at st.stripes st.block (image_after st i r s work image) c t b ≡ byte_at st.stripes st.block image c t b
  step_cell_other (rd p) hp c t b differ ht hb = unfold image_after in refl
  step_cell_other xr h c t b differ ht hb = unfold image_after in refl
  step_cell_other (wr p) hp c t b differ ht hb = write_cell_other p c t b hp ht hb (λ d e. differ e)
  step_cell_other nil h c t b differ ht hb = unfold image_after in refl
