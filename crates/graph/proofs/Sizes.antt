-- How many steps each graph has, by its mask.
-- Assumes nothing.
use Prim.Native.Nat.{ℕ, zero, suc, ◌+◌, ◌-◌, ◌*◌, ◌/◌, ◌%◌, ◌^◌, ◌≤◌, ◌<◌}
use mathlib.Core.Bool.{Bool, true, false, cond, not, ◌&&◌, ◌||◌, and-true, and-false}
use mathlib.Core.Logic.{⊎_elim}
use mathlib.Core.Path.{◌≡◌, refl, sym, ap, ap₂, ◌∙◌}
use native.Mathlib.Nat.{add-zero, mod-eq_of_lt, add_comm}
use native.Mathlib.Omega.{arith}
use borrow.Author.Tests.{eqb-true, eqb-false, eq-eqb, ne_eqb, ltb-true, ltb-false, lt-leb, le-ltb}
use lib.Bits.{and_mask}
use lib.Count.{ones, ones_step, ones_cat, ones-ones}
use lib.Dec.{ltb, leb, eqb}
use lib.Pow.{pow_pos}
use Rattle.terms.proofs.Bits.{bit_zero, bit_suc, bit_set_of, bit_beyond, bit_add_same, bit_add_other, add_bound, set_of_bound, is_set_of}
use Rattle.terms.proofs.Rows.{truth, true≢false}
use Rattle.terms.specs.Sets.{bit, set_of}
use Rattle.graph.specs.Asked.{step_set}
use Rattle.graph.specs.Steps.{by_graph, masked, unmasked, read_base, reads, sums, write_base, writes}
use Rattle.graph.proofs.Graphs.{Graph, plain, degraded, small, reconstruct, large, failed, nought, above, graph, by_graph_above, by_graph_same}
use Rattle.graph.proofs.Positions.{masked_is, unmasked_is, masked_and_parity_is, all_positions, low, low_bound, steps_are}
use Rattle.graph.proofs.Rules.{set_of_cong, set_of_none}

-- ---- the ones of a set

one_one : ones 1 ≡ 1
unfolding ones
one_one = refl

-- one more member
ones_add : (k d : ℕ) → bit k d ≡ false → ones (d + 2 ^ k) ≡ ones d + 1
ones_add zero d e =
    let h = eqb-false (d % 2) 1 (sym (bit_zero d) ∙ e) in
    let a : (d + 1) / 2 ≡ d / 2 = omega arith in
    let b : (d + 1) % 2 ≡ d % 2 + 1 = omega arith in
    ones_step (d + 1) ∙ ap₂ (λ (x y : ℕ). x + ones y) b a ∙ omega (arith, ones_step d)
ones_add (suc k) d e =
    let a : (d + 2 ^ suc k) / 2 ≡ d / 2 + 2 ^ k = omega arith in
    let b : (d + 2 ^ suc k) % 2 ≡ d % 2 = omega arith in
    ones_step (d + 2 ^ suc k) ∙ ap₂ (λ (x y : ℕ). x + ones y) b a
    ∙ omega (arith, ones_step d, ones_add k (d / 2) (sym (bit_suc k d) ∙ e))

-- a set and the rest of the numbers below n
ones_rest : (n m : ℕ) → m < 2 ^ n → ones (2 ^ n - 1 - m) + ones m ≡ n
unfolding ones
ones_rest zero m h = let e : m ≡ 0 = omega arith in rw e
ones_rest (suc n) m h =
    let a : (2 ^ suc n - 1 - m) / 2 ≡ 2 ^ n - 1 - m / 2 = omega (arith, pow_pos n) in
    let b : (2 ^ suc n - 1 - m) % 2 + m % 2 ≡ 1 = omega (arith, pow_pos n) in
    let c : ones (2 ^ suc n - 1 - m) ≡ (2 ^ suc n - 1 - m) % 2 + ones (2 ^ n - 1 - m / 2) = ones_step (2 ^ suc n - 1 - m) ∙ rw a in
    omega (arith, c, ones_step m, ones_rest n (m / 2) (omega arith))

-- a rule without x: one member less, where x was one
but : ℕ → (ℕ → Bool) → ℕ → Bool
but x p i = p i && not (eqb i x)

but_same : (x i : ℕ) (p : ℕ → Bool) → i ≡ x → but x p i ≡ false
unfolding but
but_same x i p e = rw (eq-eqb i x e) (and-false (p i))

but_other : (x i : ℕ) (p : ℕ → Bool) → ¬ (i ≡ x) → but x p i ≡ p i
unfolding but
but_other x i p n = rw (ne_eqb i x n) (and-true (p i))

module _ (n x : ℕ) (p : ℕ → Bool) where
  put_back : x < n → p x ≡ true → set_of n (but x p) + 2 ^ x ≡ set_of n p
  put_back h e =
      let clear : bit x (set_of n (but x p)) ≡ false = bit_set_of n (but x p) x h ∙ but_same x x p refl in
      is_set_of n (set_of n (but x p) + 2 ^ x) p (add_bound n x (set_of n (but x p)) (set_of_bound n (but x p)) h clear)
      (λ i l.
      ⊎_elim
      (λ a.
      let q = eqb-true i x a in rw q (bit_add_same x (set_of n (but x p)) clear ∙ sym e))
      (λ a.
      let q = eqb-false i x a in
      bit_add_other x (set_of n (but x p)) i clear q ∙ bit_set_of n (but x p) i l ∙ but_other x i p q)
      (truth (eqb i x)))

  leave_out : p x ≡ false → set_of n (but x p) ≡ set_of n p
  leave_out e =
      set_of_cong n (but x p) p
      (λ i l.
      ⊎_elim (λ a. let q = eqb-true i x a in but_same x i p q ∙ sym (ap p q ∙ e)) (λ a. but_other x i p (eqb-false i x a))
      (truth (eqb i x)))

  ones_without : (n ≤ x → p x ≡ false) → ones (set_of n (but x p)) + cond (p x) 1 0 ≡ ones (set_of n p)
  ones_without f = ⊎_elim inside outside (truth (p x))
    where
      inside : p x ≡ true → ones (set_of n (but x p)) + cond (p x) 1 0 ≡ ones (set_of n p)
      inside e =
          ⊎_elim
          (λ a.
          let h = ltb-true x n a in
          let clear : bit x (set_of n (but x p)) ≡ false = bit_set_of n (but x p) x h ∙ but_same x x p refl in
          rw e (sym (ones_add x (set_of n (but x p)) clear) ∙ ap ones (put_back h e)))
          (λ a. true≢false (sym e ∙ f (ltb-false x n a)))
          (truth (ltb x n))

      outside : p x ≡ false → ones (set_of n (but x p)) + cond (p x) 1 0 ≡ ones (set_of n p)
      outside e = rw e (add-zero (ones (set_of n (but x p))) ∙ ap ones (leave_out e))

-- ---- the steps of a graph: its reads, its exclusive or, its writes

flag_ones : (k r : ℕ) (b : Bool) → r < 2 ^ k → ones (r + cond b (2 ^ k) 0) ≡ ones r + cond b 1 0
flag_ones k r true h = ones_add k r (bit_beyond k r k h (omega arith))
flag_ones k r false h = ap ones (add-zero r) ∙ sym (add-zero (ones r))

module _ (n g mask x : ℕ) where
  pub size_parts : ones (step_set n g mask x)
      ≡ ones (set_of (n + 1) (reads n g mask x)) + cond (sums g) 1 0 + ones (set_of (n + 1) (writes n g mask x))
  size_parts =
      ap ones (sym (steps_are n g mask x))
      ∙ ones_cat (n + 2) (set_of (n + 1) (writes n g mask x)) (low n g mask x) (low_bound n g mask x)
      ∙ ap (λ (k : ℕ). ones (set_of (n + 1) (writes n g mask x)) + k)
      (flag_ones (n + 1) (set_of (n + 1) (reads n g mask x)) (sums g) (set_of_bound (n + 1) (reads n g mask x)))
      ∙ add_comm (ones (set_of (n + 1) (writes n g mask x))) (ones (set_of (n + 1) (reads n g mask x)) + cond (sums g) 1 0)

-- ---- the positions that are to be read and written, by graph

module _ (n mask : ℕ) (h : mask < 2 ^ n) where
  masked_whole : set_of (n + 1) (masked n mask) ≡ mask
  masked_whole = sym (masked_is n mask) ∙ and_mask mask n ∙ mod-eq_of_lt h

  parity_ones : ones (set_of (n + 1) (λ p. masked n mask p || eqb p n)) ≡ ones mask + 1
  parity_ones =
      ap ones (sym (masked_and_parity_is n mask)) ∙ ap (λ (m : ℕ). ones (m + 2 ^ n)) masked_whole
      ∙ ones_add n mask (bit_beyond n mask n h (omega arith))

  unmasked_ones : ones (set_of (n + 1) (unmasked n mask)) + ones mask ≡ n
  unmasked_ones =
      ap (λ (m : ℕ). ones m + ones mask) (sym (unmasked_is n mask) ∙ ap (λ (m : ℕ). 2 ^ n - 1 - m) masked_whole) ∙ ones_rest n mask h

  all_ones : ones (set_of (n + 1) (λ p. leb p n)) ≡ n + 1
  all_ones = ap ones (sym (all_positions n)) ∙ ones-ones (n + 1)

  none_ones : (p : ℕ → Bool) → ((i : ℕ) → p i ≡ false) → ones (set_of (n + 1) p) ≡ 0
  unfolding ones
  none_ones p f = ap ones (set_of_none (n + 1) p (λ i l. f i))

  -- reads, exclusive or and writes together, the missing position's among them
  base_size : (g : ℕ) → Graph g
      → ones (set_of (n + 1) (read_base n g mask)) + cond (sums g) 1 0 + ones (set_of (n + 1) (write_base n g mask))
      ≡ by_graph g (ones mask) (n + 2) (2 * ones mask + 3) (n + 2) (ones mask + 2) (ones mask) 0
  unfolding sums by_graph
  base_size _ plain = omega (arith, ap ones masked_whole, none_ones (λ p. false) (λ i. refl))
  base_size _ degraded = omega (arith, all_ones, none_ones (λ p. false) (λ i. refl))
  base_size _ small = omega (arith, parity_ones)
  base_size _ reconstruct = omega (arith, unmasked_ones, parity_ones)
  base_size _ large = omega (arith, parity_ones, none_ones (λ p. false) (λ i. refl))
  base_size _ failed = omega (arith, ap ones masked_whole, none_ones (λ p. false) (λ i. refl))
  base_size _ nought = omega (arith, none_ones (λ p. false) (λ i. refl))
  base_size g (above l) =
      omega (
        arith,
        none_ones (read_base n g mask) (λ i. by_graph_above g _ _ _ _ _ _ _ l),
        none_ones (write_base n g mask) (λ i. by_graph_above g _ _ _ _ _ _ _ l),
        ap {B = ℕ} (λ (b : Bool). cond b 1 0) (by_graph_above g false true true true true false false l),
        by_graph_above g (ones mask) (n + 2) (2 * ones mask + 3) (n + 2) (ones mask + 2) (ones mask) 0 l,
      )

-- no graph is to read or write beyond parity
masked_beyond : (n mask p : ℕ) → n < p → masked n mask p ≡ false
unfolding masked
masked_beyond n mask p h = rw (le-ltb p n (omega arith))

unmasked_beyond : (n mask p : ℕ) → n < p → unmasked n mask p ≡ false
unfolding unmasked
unmasked_beyond n mask p h = rw (le-ltb p n (omega arith))

read_beyond : (n g mask p : ℕ) → n < p → read_base n g mask p ≡ false
read_beyond n g mask p h =
    rw (masked_beyond n mask p h, unmasked_beyond n mask p h, lt-leb p n h, ne_eqb p n (λ q. omega arith)) (by_graph_same g false (graph g))

write_beyond : (n g mask p : ℕ) → n < p → write_base n g mask p ≡ false
write_beyond n g mask p h =
    rw (masked_beyond n mask p h, ne_eqb p n (λ q. omega arith)) (by_graph_same g false (graph g))

-- a graph's size, with what the missing position would add: nothing where the graph does not want it
pub size_of : (n g mask x : ℕ) → mask < 2 ^ n
    → ones (step_set n g mask x) + cond (read_base n g mask x) 1 0 + cond (write_base n g mask x) 1 0
    ≡ by_graph g (ones mask) (n + 2) (2 * ones mask + 3) (n + 2) (ones mask + 2) (ones mask) 0
unfolding reads writes but
size_of n g mask x h =
    let r = ones_without (n + 1) x (read_base n g mask) (λ l. read_beyond n g mask x (omega arith)) in
    let w = ones_without (n + 1) x (write_base n g mask) (λ l. write_beyond n g mask x (omega arith)) in
    omega (arith, size_parts n g mask x, r, w, base_size n mask h g (graph g))
