-- A done step on the image and the work store is, at every byte, the step that a stripe's theory performs.
-- Assumes nothing.
use Prim.Native.Nat.{ℕ, suc, ◌≤◌, ◌<◌}
use mathlib.Core.Bool.{Bool, true, false, cond}
use mathlib.Core.List.{List}
use mathlib.Core.Path.{◌≡◌, refl, sym, ap, ap₂, ◌∙◌}
use native.Mathlib.Omega.{arith}
use borrow.Author.Tests.{eqb-true, eqb-false}
use lib.Bits.{bit_xor}
use lib.Dec.{eqb}
use Rattle.terms.specs.Sets.{xor_to}
use Rattle.geometry.proofs.Bounds.{legal_bounds}
use Rattle.geometry.proofs.Placing.{placed_in, one_position}
use Rattle.geometry.specs.Placement.{card_of_position}
use Rattle.geometry.specs.declared.State.{State}
use Rattle.graph.specs.Steps.{Step, rd, xr, wr, nil}
use Rattle.graph.specs.Sums.{sums_to_read}
use Rattle.record.specs.Life.{units_of, chosen_at}
use Rattle.record.specs.declared.Record.{Record}
use Rattle.array.specs.Premises.{Standing, Within}
use Rattle.array.proofs.Steps.{read_got, read_got_other, read_new, inferred_got, inferred_got_other, inferred_new}
use Rattle.array.proofs.Steps.{computed_new, computed_new_other, computed_got, write_cell, write_cell_other}
use Rattle.array.specs.Stepping.{sum_byte, work_after, image_after}
use Rattle.stripe.proofs.Bytes.{bytes, sum_xor}
use Rattle.stripe.specs.Blocks.{Blocks, changed, total, performed}
use Rattle.stripe.specs.Group.{sum_to}
use Rattle.history.proofs.Invariant.{request_of, view_of}
use Rattle.history.proofs.Near.{Near}

-- f with v at p: at p it is v, and at another place f
at_place : (f g : ℕ → ℕ) (p : ℕ) (v : ℕ) (q : ℕ) → (q ≡ p → g q ≡ v) → (¬ (q ≡ p) → g q ≡ f q) → g q ≡ changed f p v q
unfolding changed
at_place f g p v q here there = go (eqb q p) refl
  where
    go : (t : Bool) → eqb q p ≡ t → g q ≡ cond t v (f q)
    go true e = here (eqb-true q p e)
    go false e = there (eqb-false q p e)

module _ (st : State) (work image : List ℕ) (i : ℕ) (r : Record) (at : Standing st work image i r) (b : ℕ) (hb : b < st.block) where
  abbrev before : Blocks ℕ
  before = view_of st work image i r.stripe b

  some_card : 0 < st.cards
  some_card = omega (arith, legal_bounds st.cards st.stripes st.block st.records at.limits)

  small : (q : ℕ) → q ≤ units_of st → q < st.cards
  small q l = omega (arith, some_card)

  -- the exclusive or is the same
  sum_same : sum_byte st i r work b ≡ total bytes (units_of st) (request_of st r) before
  unfolding sum_byte total
  sum_same = ap₂ bit_xor (over _) (over _)
    where
      over : (f : ℕ → ℕ) → xor_to st.cards f ≡ sum_to bytes (suc (units_of st)) f
      over f = ap (λ (k : ℕ). xor_to k f) (let e : st.cards ≡ suc (units_of st) = omega (arith, some_card) in e) ∙ sym (sum_xor (suc (units_of st)) f)

  -- the view after a step
  abbrev seen : Step → Blocks ℕ
  seen s = view_of st (work_after st i r s work image) (image_after st i r s work image) i r.stripe b

  read_near : (x p : ℕ) → p < st.cards → Near (units_of st) x (performed bytes (units_of st) (request_of st r) (rd p) before) (seen (rd p))
  unfolding performed
  read_near x p hp =
      record {
        same_cell = λ q l d. unfold image_after in refl;
        same_got = λ q l. at_place before.got (seen (rd p)).got p (before.cell p) q
            (λ e. rw e (read_got st work image i r at p b hp hb))
            (λ d. read_got_other st work image i r at p i q b hp (small q l) hb (λ f g. d (sym g)));
        same_new = λ q l. read_new st work image i r at p i q b hp (small q l) hb;
      }

  write_near : (x p : ℕ) → p < st.cards → Near (units_of st) x (performed bytes (units_of st) (request_of st r) (wr p) before) (seen (wr p))
  unfolding performed
  write_near x p hp =
      record {
        same_cell = λ q l d. at_place before.cell (seen (wr p)).cell p (before.new p) q
            (λ e. rw e (write_cell st work image i r at p b hp hb))
            (λ d. write_cell_other st work image i r at p (card_of_position st r.stripe q) r.stripe b hp at.stripe_below hb
            (λ f g. d (sym (one_position (placed_in st some_card) r.stripe p q hp (small q l) f))));
        same_got = λ q l. unfold work_after in refl;
        same_new = λ q l. unfold work_after in refl;
      }

  sum_near : (x : ℕ) → Near (units_of st) x (performed bytes (units_of st) (request_of st r) xr before) (seen xr)
  unfolding performed
  sum_near x = go (sums_to_read r.graph) refl
    where
      go : (t : Bool) → sums_to_read r.graph ≡ t
          → Near (units_of st) x
          (cond t
          (record { cell = before.cell; got = changed before.got (chosen_at st r) (total bytes (units_of st) (request_of st r) before); new = before.new })
          (record { cell = before.cell; got = before.got; new = changed before.new (units_of st) (total bytes (units_of st) (request_of st r) before) }))
          (seen xr)
      go true e =
          record {
            same_cell = λ q l d. unfold image_after in refl;
            same_got = λ q l. at_place before.got (seen xr).got (chosen_at st r) (total bytes (units_of st) (request_of st r) before) q
                (λ f. rw f (inferred_got st work image i r at e b hb ∙ sum_same))
                (λ d. inferred_got_other st work image i r at e i q b (small q l) hb (λ f g. d (sym g)));
            same_new = λ q l. inferred_new st work image i r at e i q b (small q l) hb;
          }
      go false e =
          record {
            same_cell = λ q l d. unfold image_after in refl;
            same_got = λ q l. computed_got st work image i r at e i q b (small q l) hb;
            same_new = λ q l. at_place before.new (seen xr).new (units_of st) (total bytes (units_of st) (request_of st r) before) q
                (λ f. rw f (computed_new st work image i r at e b hb ∙ sum_same))
                (λ d. computed_new_other st work image i r at e i q b (small q l) hb (λ f g. d (sym g)));
          }

  pub done_near : (x : ℕ) (s : Step) → Within st.cards s
      → Near (units_of st) x (performed bytes (units_of st) (request_of st r) s before)
      (view_of st (work_after st i r s work image) (image_after st i r s work image) i r.stripe b)
  done_near x (rd p) hp = read_near x p hp
  done_near x xr hp = sum_near x
  done_near x (wr p) hp = write_near x p hp
  done_near x nil hp =
      unfold performed in
      record {
        same_cell = λ q l d. unfold image_after in refl;
        same_got = λ q l. unfold work_after in refl;
        same_new = λ q l. unfold work_after in refl;
      }
