-- Laws of counting the numbers below a bound of which a test holds.
-- Assumes nothing.
use Prim.Native.Nat.{ℕ, zero, suc, ◌+◌, ◌/◌, ◌%◌, ◌^◌, ◌≤◌, ◌<◌}
use mathlib.Core.Bool.{Bool, true, false, cond, ◌||◌}
use mathlib.Core.Logic.{◌⊎◌, inl, inr}
use mathlib.Core.Path.{◌≡◌, refl, sym, ap, ap₂, ◌∙◌}
use native.Mathlib.Nat.{add-zero, add-suc, not-suc-le-zero}
use native.Mathlib.Numerals.{add-one}
use native.Mathlib.Omega.{arith}
use lib.Count.{ones, ones_step}
use lib.Dec.{eqb}
use borrow.Author.Tests.{eqb-true, eqb-false}
use Rattle.terms.specs.Sets.{bit}
use Rattle.terms.proofs.Bits.{bit_zero, bit_suc}
use Rattle.terms.proofs.Sets.{below_suc}
use Rattle.stripe.specs.Invariant.{tally}

-- one for a test that holds
abbrev unit : Bool → ℕ
unit t = cond t 1 0

pub unit_bound : (t : Bool) → cond t 1 0 ≤ 1
unit_bound true = omega arith
unit_bound false = omega arith

unit_le : (s t : Bool) → (s ≡ true → t ≡ true) → unit s ≤ unit t
unit_le true t h = rw (h refl) (omega arith)
unit_le false t h = omega arith

pub tally_cong : (m : ℕ) (p q : ℕ → Bool) → ((k : ℕ) → k < m → p k ≡ q k) → tally m p ≡ tally m q
unfolding tally
tally_cong zero p q h = refl
tally_cong (suc m) p q h = ap₂ ◌+◌ (tally_cong m p q (λ k l. h k (omega arith))) (ap (λ (t : Bool). unit t) (h m (omega arith)))

pub tally_next : (m : ℕ) (p : ℕ → Bool) → tally (m + 1) p ≡ tally m p + cond (p m) 1 0
unfolding tally
tally_next m p = rw (add-one m)

-- a test that holds wherever another does counts no less
pub tally_le : (m : ℕ) (p q : ℕ → Bool) → ((k : ℕ) → k < m → p k ≡ true → q k ≡ true) → tally m p ≤ tally m q
unfolding tally
tally_le zero p q h = omega arith
tally_le (suc m) p q h =
    omega (arith, tally_le m p q (λ k l. h k (omega arith)), unit_le (p m) (q m) (h m (omega arith)))

-- and more where it holds at one more number
pub tally_lt : (m : ℕ) (p q : ℕ → Bool) (x : ℕ) → x < m → p x ≡ false → q x ≡ true
    → ((k : ℕ) → k < m → p k ≡ true → q k ≡ true) → tally m p < tally m q
unfolding tally
tally_lt zero p q x l f t h = absurd (not-suc-le-zero l)
tally_lt (suc m) p q x l f t h =
    go (below_suc x m l) (λ k. tally_lt m p q x k f t (λ i r. h i (omega arith))) (tally_le m p q (λ i r. h i (omega arith)))
  where
    go : (x < m) ⊎ (x ≡ m) → (x < m → tally m p < tally m q) → tally m p ≤ tally m q
        → tally m p + unit (p m) < tally m q + unit (q m)
    go (inl k) ih le = omega (arith, ih k, unit_le (p m) (q m) (h m (omega arith)))
    go (inr e) ih le =
        let a : p m ≡ false = rw e at f in
        let b : q m ≡ true = rw e at t in
        rw (a, b) (omega arith)

-- of a test that holds everywhere and nowhere
pub tally_all : (m : ℕ) → tally m (λ k. true) ≡ m
unfolding tally
tally_all zero = refl
tally_all (suc m) = omega (arith, tally_all m)

pub tally_none : (m : ℕ) (p : ℕ → Bool) → ((k : ℕ) → k < m → p k ≡ false) → tally m p ≡ 0
unfolding tally
tally_none zero p h = refl
tally_none (suc m) p h = rw (tally_none m p (λ k l. h k (omega arith)), h m (omega arith))

pub tally_bound : (m : ℕ) (p : ℕ → Bool) → tally m p ≤ m
tally_bound m p = omega (arith, tally_le m p (λ k. true) (λ k l e. refl), tally_all m)

-- a test that fails at one number counts fewer than all
pub tally_lacks : (m : ℕ) (p : ℕ → Bool) (x : ℕ) → x < m → p x ≡ false → tally m p < m
tally_lacks m p x l f = omega (arith, tally_lt m p (λ k. true) x l f refl (λ k r e. refl), tally_all m)

-- the numbers from a bound on are counted apart
pub tally_split : (a b : ℕ) (p : ℕ → Bool) → tally (a + b) p ≡ tally a p + tally b (λ i. p (a + i))
unfolding tally
tally_split a zero p = rw (add-zero a) (sym (add-zero (tally a p)))
tally_split a (suc b) p = rw (add-suc a b) (omega (arith, tally_split a b p))

-- two tests that never hold together
pub tally_disjoint : (m : ℕ) (p q : ℕ → Bool) → ((k : ℕ) → k < m → p k ≡ true → q k ≡ false)
    → tally m (λ k. p k || q k) ≡ tally m p + tally m q
unfolding tally
tally_disjoint zero p q h = refl
tally_disjoint (suc m) p q h =
    omega (arith, tally_disjoint m p q (λ k l. h k (omega arith)), both (p m) (q m) (h m (omega arith)))
  where
    both : (s t : Bool) → (s ≡ true → t ≡ false) → unit (s || t) ≡ unit s + unit t
    both true t f = rw (f refl)
    both false t f = omega arith

-- one more number
pub tally_more : (m : ℕ) (p q : ℕ → Bool) (x : ℕ) → x < m → p x ≡ false → q x ≡ true
    → ((k : ℕ) → k < m → ¬ (k ≡ x) → q k ≡ p k) → tally m q ≡ tally m p + 1
unfolding tally
tally_more zero p q x l f t h = absurd (not-suc-le-zero l)
tally_more (suc m) p q x l f t h = go (below_suc x m l) (λ k. tally_more m p q x k f t (λ i r. h i (omega arith)))
  where
    go : (x < m) ⊎ (x ≡ m) → (x < m → tally m q ≡ tally m p + 1) → tally m q + unit (q m) ≡ tally m p + unit (p m) + 1
    go (inl k) ih = rw (h m (omega arith) (λ e. omega arith)) (omega (arith, ih k))
    go (inr e) ih =
        let a : p m ≡ false = rw e at f in
        let b : q m ≡ true = rw e at t in
        rw (a, b, tally_cong m q p (λ k r. h k (omega arith) (λ i. omega arith))) (omega arith)

-- the lowest number apart
pub tally_low : (m : ℕ) (p : ℕ → Bool) → tally (suc m) p ≡ unit (p zero) + tally m (λ i. p (suc i))
unfolding tally
tally_low zero p = omega arith
tally_low (suc m) p = omega (arith, tally_low m p)

odd_unit : (m : ℕ) → unit (eqb (m % 2) 1) ≡ m % 2
odd_unit m = go (eqb (m % 2) 1) refl
  where
    go : (t : Bool) → eqb (m % 2) 1 ≡ t → unit t ≡ m % 2
    go true e = sym (eqb-true (m % 2) 1 e)
    go false e = let h : ¬ (m % 2 ≡ 1) = eqb-false (m % 2) 1 e in omega arith

-- the ones of a number are its bits
pub tally_ones : (n m : ℕ) → m < 2 ^ n → tally n (λ i. bit i m) ≡ ones m
unfolding tally ones
tally_ones zero m h = let e : m ≡ 0 = omega arith in rw e
tally_ones (suc n) m h =
    tally_low n (λ i. bit i m)
    ∙ ap₂ ◌+◌ (ap (λ (t : Bool). unit t) (bit_zero m) ∙ odd_unit m)
    (tally_cong n (λ i. bit (suc i) m) (λ i. bit i (m / 2)) (λ i l. bit_suc i m) ∙ tally_ones n (m / 2) (omega arith))
    ∙ sym (ones_step m)
