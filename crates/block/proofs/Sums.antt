-- The laws of `xor_to`, the exclusive or of a function at the numbers below a bound: sums added, swapped and reordered, one term left out,
-- and that a sum is zero exactly when any one term is the sum of the others.
-- Assumes nothing.
use Prim.Native.Nat.{ℕ, zero, suc, ◌^◌, ◌<◌}
use mathlib.Core.Bool.{Bool, true, false, cond}
use mathlib.Core.Path.{◌≡◌, refl, sym, ap, ap₂, ◌∙◌}
use native.Mathlib.Omega.{arith}
use borrow.Author.Tests.{eq-eqb, ne_eqb, eqb-true, eqb-false}
use lib.Bits.{bit_xor, xor_lt}
use lib.Dec.{eqb}
use lib.Pow.{pow_pos}
use Rattle.terms.specs.Sets.{xor_to}
use Rattle.terms.proofs.Sets.{xor_to_cong}
use Rattle.block.proofs.Xor.{xor_zero, zero_xor, xor_four, xor_zero_eq, eq_xor_zero}

-- f with v at k
abbrev pub changed_to : ℕ → ℕ → (ℕ → ℕ) → ℕ → ℕ
changed_to k v f i = cond (eqb i k) v (f i)

-- f without its term at k, which counts as zero
abbrev pub others : ℕ → (ℕ → ℕ) → ℕ → ℕ
others k f = changed_to k 0 f

-- ---- terms that are zero, or bounded

pub sum_zero : (n : ℕ) (f : ℕ → ℕ) → ((i : ℕ) → i < n → f i ≡ 0) → xor_to n f ≡ 0
unfolding xor_to
sum_zero zero f h = refl
sum_zero (suc n) f h = ap₂ bit_xor (sum_zero n f (λ i l. h i (omega arith))) (h n (omega arith))

-- a sum of bytes is a byte (k is 8), and so for any number of bits
pub sum_lt : (k n : ℕ) (f : ℕ → ℕ) → ((i : ℕ) → i < n → f i < 2 ^ k) → xor_to n f < 2 ^ k
unfolding xor_to
sum_lt k zero f h = pow_pos k
sum_lt k (suc n) f h = xor_lt k (xor_to n f) (f n) (sum_lt k n f (λ i l. h i (omega arith))) (h n (omega arith))

-- ---- sums added and swapped

pub sum_add : (n : ℕ) (f g : ℕ → ℕ) → xor_to n (λ i. bit_xor (f i) (g i)) ≡ bit_xor (xor_to n f) (xor_to n g)
unfolding xor_to
sum_add zero f g = refl
sum_add (suc n) f g = ap (λ (x : ℕ). bit_xor x (bit_xor (f n) (g n))) (sum_add n f g) ∙ xor_four (xor_to n f) (xor_to n g) (f n) (g n)

-- the sum of the rows is the sum of the columns
pub sum_swap : (n m : ℕ) (f : ℕ → ℕ → ℕ) → xor_to n (λ i. xor_to m (f i)) ≡ xor_to m (λ j. xor_to n (λ i. f i j))
unfolding xor_to
sum_swap zero m f = sym (sum_zero m (λ j. 0) (λ j l. refl))
sum_swap (suc n) m f = ap (λ (x : ℕ). bit_xor x (xor_to m (f n))) (sum_swap n m f) ∙ sym (sum_add m (λ j. xor_to n (λ i. f i j)) (f n))

-- ---- one term

-- a sum whose only term is at k
pub sum_single : (n k : ℕ) (f : ℕ → ℕ) → k < n → ((i : ℕ) → i < n → (i ≡ k → ⊥) → f i ≡ 0) → xor_to n f ≡ f k
unfolding xor_to
sum_single zero k f h z = absurd (omega arith)
sum_single (suc n) k f h z = last (λ l. sum_single n k f l (λ i m. z i (omega arith))) (eqb k n) refl
  where
    last : (k < n → xor_to n f ≡ f k) → (b : Bool) → eqb k n ≡ b → bit_xor (xor_to n f) (f n) ≡ f k
    last ih true e =
        let at : k ≡ n = eqb-true k n e in
        ap (λ (x : ℕ). bit_xor x (f n)) (sum_zero n f (λ i l. z i (omega arith) (omega arith))) ∙ zero_xor (f n) ∙ ap f (sym at)
    last ih false e =
        let off : k ≡ n → ⊥ = eqb-false k n e in
        ap₂ bit_xor (ih (omega arith)) (z n (omega arith) (λ q. off (sym q))) ∙ xor_zero (f k)

-- the term at k and the others
pub sum_split : (n k : ℕ) (f : ℕ → ℕ) → k < n → xor_to n f ≡ bit_xor (f k) (xor_to n (others k f))
sum_split n k f h =
    xor_to_cong n f (λ i. bit_xor (only i) (others k f i)) (λ i l. parts i (eqb i k) refl) ∙ sum_add n only (others k f)
    ∙ ap (λ (x : ℕ). bit_xor x (xor_to n (others k f))) one
  where
    only : ℕ → ℕ
    only i = cond (eqb i k) (f i) 0

    one : xor_to n only ≡ f k
    one = sum_single n k only h (λ i l e. rw (ne_eqb i k e)) ∙ rw (eq-eqb k k refl)

    parts : (i : ℕ) (b : Bool) → eqb i k ≡ b → f i ≡ bit_xor (cond (eqb i k) (f i) 0) (cond (eqb i k) 0 (f i))
    parts i true e = rw e (sym (xor_zero (f i)))
    parts i false e = rw e (sym (zero_xor (f i)))

-- all terms sum to zero exactly when any one is the sum of the others
pub sum_zero_term : (n k : ℕ) (f : ℕ → ℕ) → k < n → xor_to n f ≡ 0 → f k ≡ xor_to n (others k f)
sum_zero_term n k f h z = xor_zero_eq (f k) (xor_to n (others k f)) (sym (sum_split n k f h) ∙ z)

pub term_sum_zero : (n k : ℕ) (f : ℕ → ℕ) → k < n → f k ≡ xor_to n (others k f) → xor_to n f ≡ 0
term_sum_zero n k f h e = sum_split n k f h ∙ eq_xor_zero (f k) (xor_to n (others k f)) e

-- ---- the terms in another order: p and q undo one another below n

module _ (n : ℕ) (p q : ℕ → ℕ) (p_lt : (i : ℕ) → i < n → p i < n) (q_lt : (i : ℕ) → i < n → q i < n) where
  pub sum_reorder : ((i : ℕ) → i < n → q (p i) ≡ i) → ((i : ℕ) → i < n → p (q i) ≡ i) → (f : ℕ → ℕ)
      → xor_to n (λ i. f (p i)) ≡ xor_to n f
  sum_reorder qp pq f =
      xor_to_cong n (λ i. f (p i)) (λ i. xor_to n (cell i)) (λ i l. sym (row i l))
      ∙ sum_swap n n cell
      ∙ xor_to_cong n (λ j. xor_to n (λ i. cell i j)) f (λ j l. column j l)
    where
      -- f at j where j is the place of i, and nothing anywhere else
      cell : ℕ → ℕ → ℕ
      cell i j = cond (eqb j (p i)) (f j) 0

      row : (i : ℕ) → i < n → xor_to n (cell i) ≡ f (p i)
      row i l = sum_single n (p i) (cell i) (p_lt i l) (λ j m e. rw (ne_eqb j (p i) e)) ∙ rw (eq-eqb (p i) (p i) refl)

      column : (j : ℕ) → j < n → xor_to n (λ i. cell i j) ≡ f j
      column j l =
          sum_single n (q j) (λ i. cell i j) (q_lt j l)
          (λ i m e. rw (ne_eqb j (p i) (λ r. e (sym (qp i m) ∙ ap q (sym r)))))
          ∙ rw (eq-eqb j (p (q j)) (sym (pq j l)))
