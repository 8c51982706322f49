-- The exclusive or of each graph, once its reads hold the old row R and the new units the new row R': X of the old row in graph 2, parity
-- of the new row in graphs 3, 4 and 5.
-- Assumes nothing.
use Prim.Native.Nat.{ℕ, suc, ◌-◌, ◌^◌, ◌≤◌}
use mathlib.Core.Bool.{Bool, true, false, cond, not}
use mathlib.Core.Logic.{◌⊎◌, inl, inr, ⊎_map}
use mathlib.Core.Path.{◌≡◌, refl, sym, ap, ap₂, ◌∙◌}
use native.Mathlib.Omega.{arith}
use lib.Dec.{eqb}
use borrow.Author.Tests.{eqb-true, ne_eqb, le-leb}
use Rattle.terms.proofs.Rows.{true≢false}
use Rattle.graph.specs.Steps.{by_graph, masked, unmasked, reads, sums}
use Rattle.graph.specs.Sums.{takes_new}
use Rattle.stripe.specs.Group.{Group, sum_to, others}
use Rattle.stripe.specs.Invariant.{IsRow}
use Rattle.stripe.proofs.Chosen.{Chosen, degraded_read, plain_read, parity_failed, large_write, reconstruct_out, small_out, small_none, reconstruct_none}
use Rattle.stripe.proofs.Places.{Place, at_parity, at_masked, at_unmasked, place, masked_below, unmasked_below, masked_not, all_masked}
use Rattle.stripe.proofs.Sums.{nought_add, sum_cong, sum_add, row_others}

-- the exclusive or as a sum of blocks: of the read blocks and the new units that it takes
abbrev pub summed : (G : Group) → ℕ → ℕ → ℕ → ℕ → (ℕ → G.carrier) → (ℕ → G.carrier) → G.carrier
summed G n g mask x got new =
    G.add
    (sum_to G (suc n) (λ p. cond (reads n g mask x p) (got p) G.nought))
    (sum_to G (suc n) (λ p. cond (takes_new n g mask p) (new p) G.nought))

-- the new units of a write are those in its mask
takes_new_law : (n mask x p : ℕ) {w : Bool} {g : ℕ} → Chosen n mask x w g → takes_new n g mask p ≡ true
    → (w ≡ true) × (masked n mask p ≡ true)
unfolding takes_new by_graph
takes_new_law n mask x p (degraded_read e) h = true≢false (sym h)
takes_new_law n mask x p (plain_read e) h = true≢false (sym h)
takes_new_law n mask x p (parity_failed e) h = true≢false (sym h)
takes_new_law n mask x p (large_write e f) h = (refl, h)
takes_new_law n mask x p (reconstruct_out e) h = (refl, h)
takes_new_law n mask x p (small_out e) h = (refl, h)
takes_new_law n mask x p (small_none e f) h = (refl, h)
takes_new_law n mask x p (reconstruct_none e) h = (refl, h)

module _ (G : Group) (n mask x : ℕ) (R R' : ℕ → G.carrier) where
  -- what the exclusive or takes at position p: of the old row where it is read, of the new row where it has the new unit
  abbrev part : Bool → Bool → ℕ → G.carrier
  part r t p = G.add (cond r (R p) G.nought) (cond t (R' p) G.nought)

  abbrev taken : ℕ → ℕ → G.carrier
  taken g p = part (reads n g mask x p) (takes_new n g mask p) p

  -- graph 2: all but X of the old row
  taken_degraded : (p : ℕ) → p ≤ n → taken 2 p ≡ others G x R p
  unfolding reads takes_new by_graph others
  taken_degraded p l = rw (le-leb p n l, taken) (go (eqb p x))
    where
      go : (t : Bool) → G.add (cond (not t) (R p) G.nought) G.nought ≡ cond t G.nought (R p)
      go true = G.add_nought G.nought
      go false = G.add_nought (R p)

  module _ (same : (p : ℕ) → unmasked n mask p ≡ true → R' p ≡ R p) where
    -- graph 3, X outside the mask or none: the whole old row, and the new units
    taken_small : ¬ (x ≡ n) → (masked n mask x ≡ true → ⊥) → (p : ℕ) → Place n mask p → taken 3 p ≡ G.add (R p) (others G n R' p)
    unfolding reads takes_new by_graph others
    taken_small h k p (at_parity a b c) = rw (a, b, ne_eqb p x (λ i. h (sym i ∙ eqb-true p n a)))
    taken_small h k p (at_masked a b c) = rw (a, b, ne_eqb p x (λ i. k (ap (masked n mask) (sym i) ∙ b)))
    taken_small h k p (at_unmasked a b c) =
        rw (a, b, same p c) (G.add_nought G.nought ∙ sym (G.add_self (R p)))

    -- graph 4, X in the mask or none: the new units
    taken_reconstruct : (unmasked n mask x ≡ true → ⊥) → (p : ℕ) → Place n mask p → taken 4 p ≡ others G n R' p
    unfolding reads takes_new by_graph others
    taken_reconstruct h p (at_parity a b c) = rw (a, b, c) (G.add_nought G.nought)
    taken_reconstruct h p (at_masked a b c) = rw (a, b, c) (nought_add G (R' p))
    taken_reconstruct h p (at_unmasked a b c) =
        rw (a, b, c, ne_eqb p x (λ i. h (ap (unmasked n mask) (sym i) ∙ c)), same p c) (G.add_nought (R p))

    -- graph 5: the new units
    taken_large : mask ≡ 2 ^ n - 1 → (p : ℕ) → Place n mask p → taken 5 p ≡ others G n R' p
    unfolding reads takes_new by_graph others
    taken_large h p (at_parity a b c) = rw (a, b) (G.add_nought G.nought)
    taken_large h p (at_masked a b c) = rw (a, b) (nought_add G (R' p))
    taken_large h p (at_unmasked a b c) = absurd (all_masked n mask p h c)

    module _ (old_row : IsRow G n R) (new_row : IsRow G n R') where
      -- the sum of the new units is the new parity
      units_parity : (f : ℕ → G.carrier) → ((p : ℕ) → Place n mask p → f p ≡ others G n R' p) → sum_to G (suc n) f ≡ R' n
      units_parity f h =
          sum_cong G (suc n) f (others G n R') (λ p l. h p (place n mask p (omega arith)))
          ∙ sym (row_others G n n R' (omega arith) new_row)

      total_small : ¬ (x ≡ n) → (masked n mask x ≡ true → ⊥) → sum_to G (suc n) (taken 3) ≡ R' n
      unfolding IsRow
      total_small h k =
          sum_cong G (suc n) (taken 3) (λ p. G.add (R p) (others G n R' p)) (λ p l. taken_small h k p (place n mask p (omega arith)))
          ∙ sum_add G (suc n) R (others G n R')
          ∙ ap₂ G.add old_row (sym (row_others G n n R' (omega arith) new_row))
          ∙ nought_add G (R' n)

      -- what the exclusive or gives: X of the old row in graph 2, the new parity in 3, 4 and 5
      total_taken : {w : Bool} {g : ℕ} → Chosen n mask x w g → sums g ≡ true
          → ((g ≡ 2) × (sum_to G (suc n) (taken g) ≡ R x)) ⊎ ((¬ (g ≡ 2)) × (sum_to G (suc n) (taken g) ≡ R' n))
      unfolding sums by_graph
      total_taken (degraded_read e) s =
          inl (
            refl,
            sum_cong G (suc n) (taken 2) (others G x R) (λ p l. taken_degraded p (omega arith))
                ∙ sym (row_others G n x R (omega (arith, masked_below n mask x e)) old_row),
          )
      total_taken (plain_read e) s = true≢false (sym s)
      total_taken (parity_failed e) s = true≢false (sym s)
      total_taken (large_write e f) s = inr (λ i. omega arith, units_parity (taken 5) (taken_large f))
      total_taken (reconstruct_out e) s =
          inr (λ i. omega arith, units_parity (taken 4) (taken_reconstruct (λ u. masked_not n mask x e u)))
      total_taken (small_out e) s =
          inr (λ i. omega arith, total_small (λ i. omega (arith, unmasked_below n mask x e)) (λ m. masked_not n mask x m e))
      total_taken (small_none e f) s =
          inr (λ i. omega arith, total_small (λ i. omega arith) (λ m. omega (arith, masked_below n mask x m)))
      total_taken (reconstruct_none e) s =
          inr (λ i. omega arith, units_parity (taken 4) (taken_reconstruct (λ u. omega (arith, unmasked_below n mask x u))))

      by_test : (t : Bool) (a b : G.carrier) → (t ≡ true → a ≡ b) → cond t a G.nought ≡ cond t b G.nought
      by_test true a b h = h refl
      by_test false a b h = refl

      -- the same of the blocks, once the done reads hold the old row and the new units are kept
      pub total_is : {w : Bool} {g : ℕ} → Chosen n mask x w g → sums g ≡ true → (got new : ℕ → G.carrier)
          → ((p : ℕ) → p ≤ n → reads n g mask x p ≡ true → got p ≡ R p)
          → (w ≡ true → (p : ℕ) → masked n mask p ≡ true → new p ≡ R' p)
          → ((g ≡ 2) × (summed G n g mask x got new ≡ R x)) ⊎ ((¬ (g ≡ 2)) × (summed G n g mask x got new ≡ R' n))
      total_is {w} {g} c s got new held kept =
          ⊎_map (λ a. (a.0, rows ∙ a.1)) (λ a. (a.0, rows ∙ a.1)) (total_taken c s)
        where
          rows : summed G n g mask x got new ≡ sum_to G (suc n) (taken g)
          rows =
              ap₂ G.add
              (sum_cong G (suc n) _ (λ p. cond (reads n g mask x p) (R p) G.nought)
              (λ p l. by_test (reads n g mask x p) (got p) (R p) (held p (omega arith))))
              (sum_cong G (suc n) _ (λ p. cond (takes_new n g mask p) (R' p) G.nought)
              (λ p l. by_test (takes_new n g mask p) (new p) (R' p) (λ h. let k = takes_new_law n mask x p c h in kept k.0 p k.1)))
              ∙ sym (sum_add G (suc n) (λ p. cond (reads n g mask x p) (R p) G.nought) (λ p. cond (takes_new n g mask p) (R' p) G.nought))
