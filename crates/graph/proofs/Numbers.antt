-- Step numbers: each number up to 2n+2 is one step's, and no other number is a step.
-- Assumes nothing.
use Prim.Native.Nat.{ℕ, ◌+◌, ◌-◌, ◌*◌, ◌≤◌, ◌<◌}
use mathlib.Core.Bool.{true, false}
use mathlib.Core.Logic.{◌⊎◌, inl, inr}
use mathlib.Core.Path.{◌≡◌, refl}
use native.Mathlib.Omega.{arith}
use borrow.Author.Tests.{leb-true, leb-false, le-leb, lt-leb, eqb-true, eqb-false, eq-eqb, ne_eqb}
use lib.Dec.{leb, eqb}
use Rattle.terms.proofs.Rows.{truth}
use Rattle.graph.specs.Steps.{rd, xr, wr, nil, step_of, step_numbers}

pub step_of_read : (n p : ℕ) → p ≤ n → step_of n p ≡ rd p
unfolding step_of
step_of_read n p h = rw (le-leb p n h)

pub step_of_sum : (n : ℕ) → step_of n (n + 1) ≡ xr
unfolding step_of
step_of_sum n = rw (lt-leb (n + 1) n (omega arith), eq-eqb (n + 1) (n + 1) refl)

pub step_of_write : (n p : ℕ) → p ≤ n → step_of n (n + 2 + p) ≡ wr p
unfolding step_of
step_of_write n p h =
    let e : n + 2 + p - (n + 2) ≡ p = omega arith in
    rw (
      lt-leb (n + 2 + p) n (omega arith),
      ne_eqb (n + 2 + p) (n + 1) (λ q. omega arith),
      le-leb (n + 2 + p) (2 * n + 2) (omega arith),
      e,
    )

pub step_of_above : (n k : ℕ) → step_numbers n ≤ k → step_of n k ≡ nil
unfolding step_of
step_of_above n k h =
    rw (lt-leb k n (omega arith), ne_eqb k (n + 1) (λ q. omega arith), lt-leb k (2 * n + 2) (omega arith))

-- a number below 2n+3 reads a position, is the exclusive or, or writes a position
pub data Numbered (n : ℕ) : ℕ → Type 0 where
  reading : {k : ℕ} (p : ℕ) → p ≤ n → k ≡ p → Numbered n k
  summing : {k : ℕ} → k ≡ n + 1 → Numbered n k
  writing : {k : ℕ} (p : ℕ) → p ≤ n → k ≡ n + 2 + p → Numbered n k

pub numbered : (n k : ℕ) → k < step_numbers n → Numbered n k
numbered n k h = by_read (truth (leb k n))
  where
    by_sum : n < k → (eqb k (n + 1) ≡ true) ⊎ (eqb k (n + 1) ≡ false) → Numbered n k
    by_sum l (inl e) = summing (eqb-true k (n + 1) e)
    by_sum l (inr e) = let f = eqb-false k (n + 1) e in writing {k = k} (k - (n + 2)) (omega arith) (omega arith)

    by_read : (leb k n ≡ true) ⊎ (leb k n ≡ false) → Numbered n k
    by_read (inl e) = reading k (leb-true k n e) refl
    by_read (inr e) = by_sum (leb-false k n e) (truth (eqb k (n + 1)))
