-- Laws of what holds of all numbers below a bound, and of the lowest of them.
-- Assumes nothing.
use Prim.Native.Nat.{ℕ, zero, suc, ◌≤◌, ◌<◌}
use mathlib.Core.Bool.{Bool, true, false, cond}
use mathlib.Core.Logic.{◌⊎◌, inl, inr}
use mathlib.Core.Path.{◌≡◌, refl, sym, ap, ◌∙◌}
use native.Mathlib.Decide.{dec_le}
use native.Mathlib.Nat.{not-suc-le-zero, le_of_suc-le-suc}
use native.Mathlib.Omega.{arith}
use Rattle.terms.specs.Sets.{all_below, lowest, xor_to}
use Rattle.terms.proofs.Rows.{and_left, and_right, and_both, and_false_cases, true≢false}

-- a number below n + 1 is below n, or is n
pub below_suc : (k n : ℕ) → k < suc n → (k < n) ⊎ (k ≡ n)
below_suc k n h = go (dec_le (suc k) n)
  where
    go : Dec (suc k ≤ n) → (k < n) ⊎ (k ≡ n)
    go (yes p) = inl p
    go (no p) = inr (omega arith)

pub all_below_elim : (n : ℕ) (p : ℕ → Bool) → all_below n p ≡ true → (k : ℕ) → k < n → p k ≡ true
unfolding all_below
all_below_elim zero p e k h = absurd (not-suc-le-zero h)
all_below_elim (suc n) p e k h = go (below_suc k n h) (all_below_elim n p (and_left (all_below n p) (p n) e) k)
  where
    go : (k < n) ⊎ (k ≡ n) → (k < n → p k ≡ true) → p k ≡ true
    go (inl q) f = f q
    go (inr q) f = ap p q ∙ and_right (all_below n p) (p n) e

pub all_below_intro : (n : ℕ) (p : ℕ → Bool) → ((k : ℕ) → k < n → p k ≡ true) → all_below n p ≡ true
unfolding all_below
all_below_intro zero p h = refl
all_below_intro (suc n) p h =
    and_both (all_below n p) (p n) (all_below_intro n p (λ k q. h k (omega arith))) (h n (omega arith))

-- what does not hold of all fails of one
pub all_below_fails : (n : ℕ) (p : ℕ → Bool) → all_below n p ≡ false → (k : ℕ) × (k < n) × (p k ≡ false)
unfolding all_below
all_below_fails zero p e = true≢false e
all_below_fails (suc n) p e = go (and_false_cases (all_below n p) (p n) e) (all_below_fails n p)
  where
    go : (all_below n p ≡ false) ⊎ (p n ≡ false) → (all_below n p ≡ false → (k : ℕ) × (k < n) × (p k ≡ false))
        → (k : ℕ) × (k < suc n) × (p k ≡ false)
    go (inl q) f = let r = f q in (r.0, omega (arith, r.1), r.2)
    go (inr q) f = (n, omega arith, q)

-- what fails of one does not hold of all
pub all_below_fail : (n : ℕ) (p : ℕ → Bool) (k : ℕ) → k < n → p k ≡ false → all_below n p ≡ false
all_below_fail n p k h e = go (all_below n p) refl
  where
    go : (b : Bool) → all_below n p ≡ b → b ≡ false
    go true q = true≢false (sym (all_below_elim n p q k h) ∙ e)
    go false q = refl

-- two tests that agree below n agree of all
pub all_below_cong : (n : ℕ) (p q : ℕ → Bool) → ((k : ℕ) → k < n → p k ≡ q k) → all_below n p ≡ all_below n q
unfolding all_below
all_below_cong zero p q h = refl
all_below_cong (suc n) p q h = rw (all_below_cong n p q (λ k r. h k (omega arith)), h n (omega arith))

pub lowest_le : (n : ℕ) (p : ℕ → Bool) → lowest n p ≤ n
unfolding lowest
lowest_le zero p = omega arith
lowest_le (suc n) p = go (p zero) (lowest_le n (λ i. p (suc i)))
  where
    go : (b : Bool) → lowest n (λ i. p (suc i)) ≤ n → cond b zero (suc (lowest n (λ i. p (suc i)))) ≤ suc n
    go true h = omega arith
    go false h = omega arith

-- k is the lowest where p holds of k and of none below
pub lowest_is : (n : ℕ) (p : ℕ → Bool) (k : ℕ) → k < n → p k ≡ true → ((j : ℕ) → j < k → p j ≡ false) → lowest n p ≡ k
unfolding lowest
lowest_is zero p k h e b = absurd (not-suc-le-zero h)
lowest_is (suc n) p zero h e b = rw e
lowest_is (suc n) p (suc k) h e b =
    rw (b zero (omega arith))
    (ap suc (lowest_is n (λ i. p (suc i)) k (le_of_suc-le-suc h) e (λ j q. b (suc j) (omega arith))))

-- there is none where p holds of no number below n
pub lowest_none : (n : ℕ) (p : ℕ → Bool) → ((j : ℕ) → j < n → p j ≡ false) → lowest n p ≡ n
unfolding lowest
lowest_none zero p b = refl
lowest_none (suc n) p b =
    rw (b zero (omega arith)) (ap suc (lowest_none n (λ i. p (suc i)) (λ j q. b (suc j) (omega arith))))

-- p holds of the lowest, where there is one
pub lowest_holds : (n : ℕ) (p : ℕ → Bool) → lowest n p < n → p (lowest n p) ≡ true
unfolding lowest
lowest_holds zero p h = absurd (not-suc-le-zero h)
lowest_holds (suc n) p h = go (p zero) refl h (lowest_holds n (λ i. p (suc i)))
  where
    go : (b : Bool) → p zero ≡ b → cond b zero (suc (lowest n (λ i. p (suc i)))) < suc n
        → (lowest n (λ i. p (suc i)) < n → p (suc (lowest n (λ i. p (suc i)))) ≡ true)
        → p (cond b zero (suc (lowest n (λ i. p (suc i))))) ≡ true
    go true e q f = e
    go false e q f = f (le_of_suc-le-suc q)

-- p fails of each number below the lowest
pub lowest_before : (n : ℕ) (p : ℕ → Bool) (j : ℕ) → j < lowest n p → p j ≡ false
unfolding lowest
lowest_before zero p j h = absurd (not-suc-le-zero h)
lowest_before (suc n) p j h = go (p zero) refl j h (lowest_before n (λ i. p (suc i)))
  where
    go : (b : Bool) → p zero ≡ b → (j : ℕ) → j < cond b zero (suc (lowest n (λ i. p (suc i))))
        → ((i : ℕ) → i < lowest n (λ i. p (suc i)) → p (suc i) ≡ false) → p j ≡ false
    go true e j q f = absurd (not-suc-le-zero q)
    go false e zero q f = e
    go false e (suc j) q f = f j (le_of_suc-le-suc q)

-- two tests that agree below n have the same lowest
pub lowest_cong : (n : ℕ) (p q : ℕ → Bool) → ((k : ℕ) → k < n → p k ≡ q k) → lowest n p ≡ lowest n q
unfolding lowest
lowest_cong zero p q h = refl
lowest_cong (suc n) p q h =
    rw (h zero (omega arith), lowest_cong n (λ i. p (suc i)) (λ i. q (suc i)) (λ k r. h (suc k) (omega arith)))

-- two rules that agree below n have the same exclusive or
pub xor_to_cong : (n : ℕ) (f g : ℕ → ℕ) → ((k : ℕ) → k < n → f k ≡ g k) → xor_to n f ≡ xor_to n g
unfolding xor_to
xor_to_cong zero f g h = refl
xor_to_cong (suc n) f g h = rw (xor_to_cong n f g (λ k r. h k (omega arith)), h n (omega arith))
