-- The positions of a stripe as a request sees them: parity, a unit in the mask, a unit outside it; and what each graph does at them.
-- Assumes nothing.
use Prim.Native.Nat.{ℕ, ◌-◌, ◌^◌, ◌≤◌, ◌<◌}
use mathlib.Core.Bool.{Bool, true, false, not, ◌&&◌, ◌||◌}
use mathlib.Core.Logic.{◌⊎◌, inl, inr, ⊎_map}
use mathlib.Core.Path.{◌≡◌, refl, sym, ap, ◌∙◌}
use native.Mathlib.Omega.{arith}
use lib.Dec.{leb, ltb, eqb}
use borrow.Author.Tests.{ltb-true, ltb-false, eqb-true, eqb-false, eq-eqb, ne_eqb, le-leb, not-true}
use Rattle.terms.specs.Sets.{bit}
use Rattle.terms.proofs.Bits.{bit_full}
use Rattle.terms.proofs.Rows.{true≢false, and_left, and_right, or_cases}
use Rattle.graph.specs.Steps.{by_graph, masked, unmasked, reads, writes}
use Rattle.stripe.proofs.Chosen.{Chosen, degraded_read, plain_read, parity_failed, large_write, reconstruct_out, small_out, small_none, reconstruct_none}

-- position p of a stripe of n units
pub data Place (n mask p : ℕ) : Type 0 where
  at_parity : eqb p n ≡ true → masked n mask p ≡ false → unmasked n mask p ≡ false → Place n mask p
  at_masked : eqb p n ≡ false → masked n mask p ≡ true → unmasked n mask p ≡ false → Place n mask p
  at_unmasked : eqb p n ≡ false → masked n mask p ≡ false → unmasked n mask p ≡ true → Place n mask p

pub place : (n mask p : ℕ) → p ≤ n → Place n mask p
unfolding masked unmasked
place n mask p l = go (ltb p n) refl (bit p mask) refl
  where
    go : (t : Bool) → ltb p n ≡ t → (s : Bool) → bit p mask ≡ s → Place n mask p
    go true e true f = at_masked (ne_eqb p n (λ i. omega (arith, ltb-true p n e))) (rw (e, f)) (rw (e, f))
    go true e false f = at_unmasked (ne_eqb p n (λ i. omega (arith, ltb-true p n e))) (rw (e, f)) (rw (e, f))
    go false e s f = at_parity (eq-eqb p n (omega (arith, ltb-false p n e))) (rw e) (rw e)

pub masked_below : (n mask p : ℕ) → masked n mask p ≡ true → p < n
unfolding masked
masked_below n mask p e = ltb-true p n (and_left (ltb p n) (bit p mask) e)

pub unmasked_below : (n mask p : ℕ) → unmasked n mask p ≡ true → p < n
unfolding unmasked
unmasked_below n mask p e = ltb-true p n (and_left (ltb p n) (not (bit p mask)) e)

-- a unit is in the mask or outside it, and not both
pub masked_not : (n mask p : ℕ) → masked n mask p ≡ true → unmasked n mask p ≡ true → ⊥
masked_not n mask p e u = go (place n mask p (omega (arith, masked_below n mask p e)))
  where
    go : Place n mask p → ⊥
    go (at_parity a b c) = true≢false (sym e ∙ b)
    go (at_masked a b c) = true≢false (sym u ∙ c)
    go (at_unmasked a b c) = true≢false (sym e ∙ b)

-- where all units are in the mask none is outside
pub all_masked : (n mask p : ℕ) → mask ≡ 2 ^ n - 1 → unmasked n mask p ≡ true → ⊥
unfolding unmasked
all_masked n mask p e u =
    let l : p < n = unmasked_below n mask p u in
    let f : bit p mask ≡ true = ap (bit p) e ∙ bit_full n p l in
    true≢false (sym f ∙ not-true (bit p mask) (and_right (ltb p n) (not (bit p mask)) u))

module _ (n mask x p : ℕ) where
  -- the graph has no step on the missing position
  pub reads_not_missing : (g : ℕ) → reads n g mask x p ≡ true → ¬ (p ≡ x)
  unfolding reads
  reads_not_missing g e = eqb-false p x (not-true (eqb p x) (and_right (by_graph g _ _ _ _ _ _ _) (not (eqb p x)) e))

  pub writes_not_missing : (g : ℕ) → writes n g mask x p ≡ true → ¬ (p ≡ x)
  unfolding writes
  writes_not_missing g e = eqb-false p x (not-true (eqb p x) (and_right (by_graph g _ _ _ _ _ _ _) (not (eqb p x)) e))

  -- a unit in the mask or parity, and not the missing position
  new_part : {A : Type 0} → A → ((masked n mask p || eqb p n) && not (eqb p x)) ≡ true → (masked n mask p ≡ true) ⊎ ((p ≡ n) × A)
  new_part a e =
      ⊎_map (λ m. m) (λ f. (eqb-true p n f, a))
      (or_cases (masked n mask p) (eqb p n) (and_left (masked n mask p || eqb p n) (not (eqb p x)) e))

  not_new : unmasked n mask p ≡ true → ((masked n mask p || eqb p n) && not (eqb p x)) ≡ true → ⊥
  not_new u e = go (new_part tt e)
    where
      go : (masked n mask p ≡ true) ⊎ ((p ≡ n) × Unit {0}) → ⊥
      go (inl m) = masked_not n mask p m u
      go (inr f) = omega (arith, unmasked_below n mask p u, f.0)

  -- only a write writes: a unit in the mask, or parity where there is an exclusive or
  pub writes_what : {w : Bool} {g : ℕ} → Chosen n mask x w g → writes n g mask x p ≡ true
      → (w ≡ true) × ((masked n mask p ≡ true) ⊎ ((p ≡ n) × (¬ (g ≡ 2))))
  unfolding writes by_graph
  writes_what (degraded_read e) h = true≢false (sym h)
  writes_what (plain_read e) h = true≢false (sym h)
  writes_what (parity_failed e) h = (refl, inl (and_left (masked n mask p) (not (eqb p x)) h))
  writes_what (large_write e f) h = (refl, new_part (λ i. omega arith) h)
  writes_what (reconstruct_out e) h = (refl, new_part (λ i. omega arith) h)
  writes_what (small_out e) h = (refl, new_part (λ i. omega arith) h)
  writes_what (small_none e f) h = (refl, new_part (λ i. omega arith) h)
  writes_what (reconstruct_none e) h = (refl, new_part (λ i. omega arith) h)

  -- nothing is written outside the mask
  pub writes_inside : {w : Bool} {g : ℕ} → Chosen n mask x w g → writes n g mask x p ≡ true → unmasked n mask p ≡ true → ⊥
  writes_inside {g = g} c h u = outside (writes_what c h).1
    where
      outside : (masked n mask p ≡ true) ⊎ ((p ≡ n) × (¬ (g ≡ 2))) → ⊥
      outside (inl m) = masked_not n mask p m u
      outside (inr f) = omega (arith, unmasked_below n mask p u, f.0)

  -- a write writes every unit in the mask, and parity, but for the missing position
  pub writes_all : {w : Bool} {g : ℕ} → Chosen n mask x w g → w ≡ true → p ≤ n → ¬ (p ≡ x)
      → (writes n g mask x p ≡ true) ⊎ (unmasked n mask p ≡ true)
  unfolding writes by_graph
  writes_all c wr l h = go c wr (place n mask p l)
    where
      away : not (eqb p x) ≡ true
      away = ap not (ne_eqb p x h)

      both : Place n mask p → (((masked n mask p || eqb p n) && not (eqb p x)) ≡ true) ⊎ (unmasked n mask p ≡ true)
      both (at_parity a b c) = inl (rw (b, a) away)
      both (at_masked a b c) = inl (rw b away)
      both (at_unmasked a b c) = inr c

      units : x ≡ n → Place n mask p → ((masked n mask p && not (eqb p x)) ≡ true) ⊎ (unmasked n mask p ≡ true)
      units e (at_parity a b c) = absurd (h (eqb-true p n a ∙ sym e))
      units e (at_masked a b c) = inl (rw b away)
      units e (at_unmasked a b c) = inr c

      go : {w : Bool} {g : ℕ} → Chosen n mask x w g → w ≡ true → Place n mask p
          → (writes n g mask x p ≡ true) ⊎ (unmasked n mask p ≡ true)
      go (degraded_read e) t q = true≢false (sym t)
      go (plain_read e) t q = true≢false (sym t)
      go (parity_failed e) t q = units e q
      go (large_write e f) t q = both q
      go (reconstruct_out e) t q = both q
      go (small_out e) t q = both q
      go (small_none e f) t q = both q
      go (reconstruct_none e) t q = both q

  -- what is read: by a read request, or outside the mask, or by graph 3, which writes it too
  pub reads_what : {w : Bool} {g : ℕ} → Chosen n mask x w g → reads n g mask x p ≡ true
      → (w ≡ false) ⊎ ((unmasked n mask p ≡ true) ⊎ (g ≡ 3))
  unfolding reads by_graph
  reads_what (degraded_read e) h = inl refl
  reads_what (plain_read e) h = inl refl
  reads_what (parity_failed e) h = true≢false (sym h)
  reads_what (large_write e f) h = true≢false (sym h)
  reads_what (reconstruct_out e) h = inr (inl (and_left (unmasked n mask p) (not (eqb p x)) h))
  reads_what (small_out e) h = inr (inr refl)
  reads_what (small_none e f) h = inr (inr refl)
  reads_what (reconstruct_none e) h = inr (inl (and_left (unmasked n mask p) (not (eqb p x)) h))

  -- a read's unit is read, or is X and inferred
  pub reads_all : {w : Bool} {g : ℕ} → Chosen n mask x w g → w ≡ false → masked n mask p ≡ true
      → (reads n g mask x p ≡ true) ⊎ ((p ≡ x) × (g ≡ 2))
  unfolding reads by_graph
  reads_all (degraded_read e) f m = go (eqb p x) refl
    where
      go : (t : Bool) → eqb p x ≡ t → ((leb p n && not (eqb p x)) ≡ true) ⊎ ((p ≡ x) × (◌≡◌ {A = ℕ} 2 2))
      go true q = inr (eqb-true p x q, refl)
      go false q = inl (rw (q, le-leb p n (omega (arith, masked_below n mask p m))))
  reads_all (plain_read e) f m = inl (rw (m, ne_eqb p x (λ i. true≢false (sym m ∙ ap (masked n mask) i ∙ e))))
  reads_all (parity_failed e) f m = true≢false f
  reads_all (large_write e e') f m = true≢false f
  reads_all (reconstruct_out e) f m = true≢false f
  reads_all (small_out e) f m = true≢false f
  reads_all (small_none e e') f m = true≢false f
  reads_all (reconstruct_none e) f m = true≢false f

  -- a write reads outside the mask in graph 4 alone
  pub unmasked_read : {w : Bool} {g : ℕ} → Chosen n mask x w g → w ≡ true → reads n g mask x p ≡ true → unmasked n mask p ≡ true → g ≡ 4
  unfolding reads by_graph
  unmasked_read (degraded_read e) f h u = true≢false (sym f)
  unmasked_read (plain_read e) f h u = true≢false (sym f)
  unmasked_read (parity_failed e) f h u = true≢false (sym h)
  unmasked_read (large_write e e') f h u = true≢false (sym h)
  unmasked_read (reconstruct_out e) f h u = refl
  unmasked_read (small_out e) f h u = absurd (not_new u h)
  unmasked_read (small_none e e') f h u = absurd (not_new u h)
  unmasked_read (reconstruct_none e) f h u = refl

-- graph 3 with a position missing: of a write, and a unit outside the mask
pub small_missing : (n mask x : ℕ) {w : Bool} {g : ℕ} → Chosen n mask x w g → g ≡ 3 → x ≤ n
    → (w ≡ true) × (unmasked n mask x ≡ true)
small_missing n mask x (degraded_read e) g l = absurd (omega arith)
small_missing n mask x (plain_read e) g l = absurd (omega arith)
small_missing n mask x (parity_failed e) g l = absurd (omega arith)
small_missing n mask x (large_write e f) g l = absurd (omega arith)
small_missing n mask x (reconstruct_out e) g l = absurd (omega arith)
small_missing n mask x (small_out e) g l = (refl, e)
small_missing n mask x (small_none e f) g l = absurd (omega arith)
small_missing n mask x (reconstruct_none e) g l = absurd (omega arith)
