-- How many steps a graph has: at most n+2 where none is missing; at most n+1 where a position is, but for graph 3.
-- Assumes nothing.
use Prim.Native.Nat.{ℕ, ◌+◌, ◌*◌, ◌^◌, ◌≤◌, ◌<◌}
use mathlib.Core.Bool.{Bool, true, false, cond, not, ◌||◌, or-false}
use mathlib.Core.Logic.{◌⊎◌, inl, inr}
use mathlib.Core.Path.{◌≡◌, refl, sym, ap, ap₂, ◌∙◌}
use native.Mathlib.Omega.{arith}
use lib.Count.{ones}
use lib.Dec.{ltb, eqb}
use borrow.Author.Tests.{eqb-true, eqb-false, ne_eqb}
use Rattle.terms.specs.Sets.{bit}
use Rattle.terms.proofs.Rows.{true≢false, and_left, and_right, truth}
use Rattle.graph.specs.Steps.{step_of, step_numbers, by_graph, masked, unmasked, reads, sums, writes, member}
use Rattle.graph.proofs.Numbers.{step_of_read, step_of_sum, step_of_write}
use Rattle.stripe.specs.Invariant.{tally}
use Rattle.stripe.proofs.Chosen.{Chosen, degraded_read, plain_read, parity_failed, large_write, reconstruct_out, small_out, small_none, reconstruct_none}
use Rattle.stripe.proofs.Places.{unmasked_below, reads_what, writes_what, writes_inside, reads_not_missing, writes_not_missing}
use Rattle.stripe.proofs.Tally.{unit_bound, tally_cong, tally_next, tally_le, tally_bound, tally_lacks, tally_split, tally_disjoint, tally_ones}

-- the step numbers are the reads of 0 to n, the exclusive or, and the writes of 0 to n
pub tally_steps : (n : ℕ) (f : ℕ → Bool)
    → tally (step_numbers n) f ≡ tally (n + 1) f + cond (f (n + 1)) 1 0 + tally (n + 1) (λ p. f (n + 2 + p))
tally_steps n f =
    let e : step_numbers n ≡ (n + 1) + 1 + (n + 1) = omega arith in
    ap (λ (m : ℕ). tally m f) e
    ∙ tally_split ((n + 1) + 1) (n + 1) f
    ∙ ap₂ ◌+◌ (tally_next (n + 1) f)
    (tally_cong (n + 1) _ (λ p. f (n + 2 + p)) (λ p l. ap f (let d : n + 1 + 1 + p ≡ n + 2 + p = omega arith in d)))

module _ (n g mask x : ℕ) where
  -- the steps of a graph
  abbrev pub size : ℕ
  size = tally (step_numbers n) (λ k. member n g mask x (step_of n k))

  pub size_is : size ≡ tally (n + 1) (reads n g mask x) + cond (sums g) 1 0 + tally (n + 1) (writes n g mask x)
  unfolding member
  size_is =
      tally_steps n (λ k. member n g mask x (step_of n k))
      ∙ ap₂ ◌+◌
      (ap₂ ◌+◌
      (tally_cong (n + 1) _ (reads n g mask x) (λ p l. rw (step_of_read n p (omega arith))))
      (rw (step_of_sum n)))
      (tally_cong (n + 1) _ (writes n g mask x) (λ p l. rw (step_of_write n p (omega arith))))

-- graph 3 with none missing: few units
few_units_law : (n mask x : ℕ) {w : Bool} {g : ℕ} → Chosen n mask x w g → g ≡ 3 → n < x → 2 * ones mask < n
few_units_law n mask x (degraded_read e) i l = absurd (omega arith)
few_units_law n mask x (plain_read e) i l = absurd (omega arith)
few_units_law n mask x (parity_failed e) i l = absurd (omega arith)
few_units_law n mask x (large_write e f) i l = absurd (omega arith)
few_units_law n mask x (reconstruct_out e) i l = absurd (omega arith)
few_units_law n mask x (small_out e) i l = absurd (omega (arith, unmasked_below n mask x e))
few_units_law n mask x (small_none e f) i l = f
few_units_law n mask x (reconstruct_none e) i l = absurd (omega arith)

module _ (n mask x : ℕ) where
  -- the units in the mask, and parity
  unfoldable pub fresh : ℕ
  fresh = tally (n + 1) (λ p. masked n mask p || eqb p n)

  fresh_ones : mask < 2 ^ n → fresh ≤ ones mask + 1
  unfolding fresh masked
  fresh_ones h =
      omega (
        arith,
        tally_next n (λ p. masked n mask p || eqb p n),
        tally_le n (λ p. masked n mask p || eqb p n) (λ i. bit i mask) inside,
        unit_bound (masked n mask n || eqb n n),
        tally_ones n mask h,
      )
    where
      inside : (p : ℕ) → p < n → (masked n mask p || eqb p n) ≡ true → bit p mask ≡ true
      inside p l e = and_right (ltb p n) (bit p mask) (rw (ne_eqb p n (λ i. omega arith), or-false) at e)

  -- graph 3 reads and writes these, and has an exclusive or
  pub size_small : size n 3 mask x ≤ 2 * fresh + 1
  unfolding fresh reads writes sums by_graph
  size_small =
      omega (
        arith,
        size_is n 3 mask x,
        tally_le (n + 1) (reads n 3 mask x) (λ p. masked n mask p || eqb p n) (λ p l e. and_left (masked n mask p || eqb p n) (not (eqb p x)) e),
        tally_le (n + 1) (writes n 3 mask x) (λ p. masked n mask p || eqb p n) (λ p l e. and_left (masked n mask p || eqb p n) (not (eqb p x)) e),
      )

  module _ {w : Bool} {g : ℕ} (c : Chosen n mask x w g) (not_small : ¬ (g ≡ 3)) where
    -- any other graph reads no position that it writes
    never_both : (p : ℕ) → reads n g mask x p ≡ true → writes n g mask x p ≡ false
    never_both p r = go (truth (writes n g mask x p)) (reads_what n mask x p c r)
      where
        go : (writes n g mask x p ≡ true) ⊎ (writes n g mask x p ≡ false)
            → (w ≡ false) ⊎ ((unmasked n mask p ≡ true) ⊎ (g ≡ 3)) → writes n g mask x p ≡ false
        go (inr e) y = e
        go (inl e) (inl f) = true≢false (sym (writes_what n mask x p c e).0 ∙ f)
        go (inl e) (inr (inl u)) = absurd (writes_inside n mask x p c e u)
        go (inl e) (inr (inr i)) = absurd (not_small i)

    -- so it has at most a step a position, and the exclusive or
    size_touched : size n g mask x ≤ tally (n + 1) (λ p. reads n g mask x p || writes n g mask x p) + 1
    size_touched =
        omega
        (arith, size_is n g mask x, unit_bound (sums g), tally_disjoint (n + 1) (reads n g mask x) (writes n g mask x) (λ p l. never_both p))

    pub size_other : size n g mask x ≤ n + 2
    size_other = omega (arith, size_touched, tally_bound (n + 1) (λ p. reads n g mask x p || writes n g mask x p))

    -- and none on the missing position
    pub size_missing : x ≤ n → size n g mask x ≤ n + 1
    size_missing l =
        omega (
          arith,
          size_touched,
          tally_lacks (n + 1) (λ p. reads n g mask x p || writes n g mask x p) x (omega arith)
              (rw (
                none (reads n g mask x x) (λ e. reads_not_missing n mask x x g e refl),
                none (writes n g mask x x) (λ e. writes_not_missing n mask x x g e refl),
              )),
        )
      where
        none : (t : Bool) → ¬ (t ≡ true) → t ≡ false
        none true h = absurd (h refl)
        none false h = refl

  -- where none is missing every graph has at most n+2 steps
  pub size_none : {w : Bool} {g : ℕ} → Chosen n mask x w g → mask < 2 ^ n → n < x → size n g mask x ≤ n + 2
  size_none {g = g} c h l = go (truth (eqb g 3))
    where
      go : (eqb g 3 ≡ true) ⊎ (eqb g 3 ≡ false) → size n g mask x ≤ n + 2
      go (inl e) =
          let f : g ≡ 3 = eqb-true g 3 e in
          let s : size n g mask x ≤ 2 * fresh + 1 = rw f size_small in
          omega (arith, s, fresh_ones h, few_units_law n mask x c f l)
      go (inr e) = size_other c (eqb-false g 3 e)
