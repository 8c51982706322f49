-- Laws of sets as bits: membership in a set made by a rule, after one more member, in a part of a number; when two sets are equal, and
-- when one is in the other.
-- Assumes nothing.
use Prim.Native.Nat.{ℕ, zero, suc, ◌+◌, ◌-◌, ◌*◌, ◌/◌, ◌%◌, ◌^◌, ◌≤◌, ◌<◌, min}
use mathlib.Core.Bool.{Bool, true, false, cond, not, ◌&&◌}
use mathlib.Core.Logic.{◌⊎◌, inl, inr}
use mathlib.Core.Path.{◌≡◌, refl, sym, ap, ◌∙◌}
use native.Mathlib.Nat.{div-one, div-div-eq-div-mul, pow-succ', div-eq_of_lt, not-suc-le-zero, le_of_suc-le-suc, lt_of_lt_of_le, lt_of_le_of_lt, add-zero}
use native.Mathlib.Omega.{arith}
use lib.Bits.{bit_and, and_step, and_le_l, and_shr}
use lib.Dec.{eqb}
use lib.Pow.{pow_pos, pow_mono, high, shr-shr}
use borrow.Author.Tests.{eqb-true, eqb-false, eq-eqb, ne_eqb}
use Rattle.terms.specs.Sets.{bit, set_of}
use Rattle.terms.proofs.Rows.{true≢false}
use Rattle.terms.proofs.Sets.{below_suc}

-- bit 0 is the remainder by two, and the bits above it are those of the half
pub bit_zero : (m : ℕ) → bit zero m ≡ eqb (m % 2) 1
unfolding bit
bit_zero m = ap (λ (k : ℕ). eqb (k % 2) 1) (div-one m)

pub bit_suc : (i m : ℕ) → bit (suc i) m ≡ bit i (m / 2)
unfolding bit
bit_suc i m = ap (λ (k : ℕ). eqb (k % 2) 1) (ap (λ (p : ℕ). m / p) (pow-succ' 2 i) ∙ sym (div-div-eq-div-mul m 2 (2 ^ i)))

-- no member of 0
pub bit_none : (i : ℕ) → bit i 0 ≡ false
bit_none zero = bit_zero 0
bit_none (suc i) = bit_suc i 0 ∙ bit_none i

-- no member at or above the bound
pub bit_beyond : (n m i : ℕ) → m < 2 ^ n → n ≤ i → bit i m ≡ false
unfolding bit
bit_beyond n m i h q =
    ap (λ (k : ℕ). eqb (k % 2) 1) (div-eq_of_lt (lt_of_lt_of_le h (pow_mono q)))

parity_of : (a b : ℕ) → eqb (a % 2) 1 ≡ eqb (b % 2) 1 → a % 2 ≡ b % 2
parity_of a b e = go (eqb (a % 2) 1) refl
  where
    go : (t : Bool) → eqb (a % 2) 1 ≡ t → a % 2 ≡ b % 2
    go true q = omega (arith, eqb-true (a % 2) 1 q, eqb-true (b % 2) 1 (sym e ∙ q))
    go false q =
        let x : ¬ (a % 2 ≡ 1) = eqb-false (a % 2) 1 q in
        let y : ¬ (b % 2 ≡ 1) = eqb-false (b % 2) 1 (sym e ∙ q) in
        omega arith

-- two sets with the same members are equal
pub bit_ext : (n a b : ℕ) → a < 2 ^ n → b < 2 ^ n → ((i : ℕ) → i < n → bit i a ≡ bit i b) → a ≡ b
bit_ext zero a b ha hb h = omega arith
bit_ext (suc n) a b ha hb h =
    let low : a % 2 ≡ b % 2 = parity_of a b (sym (bit_zero a) ∙ h zero (omega arith) ∙ bit_zero b) in
    let rest : a / 2 ≡ b / 2 =
    bit_ext n (a / 2) (b / 2) (omega arith) (omega arith)
    (λ i q. sym (bit_suc i a) ∙ h (suc i) (omega arith) ∙ bit_suc i b) in
    omega arith

-- the members after k, which was none, is put in: k, and what was in before
pub bit_add_same : (k d : ℕ) → bit k d ≡ false → bit k (d + 2 ^ k) ≡ true
bit_add_same zero d h =
    let e : ¬ (d % 2 ≡ 1) = eqb-false (d % 2) 1 (sym (bit_zero d) ∙ h) in
    bit_zero (d + 1) ∙ eq-eqb ((d + 1) % 2) 1 (omega arith)
bit_add_same (suc k) d h =
    bit_suc k (d + 2 ^ suc k)
    ∙ ap (bit k) (let e : (d + 2 ^ suc k) / 2 ≡ d / 2 + 2 ^ k = omega arith in e)
    ∙ bit_add_same k (d / 2) (sym (bit_suc k d) ∙ h)

pub bit_add_other : (k d j : ℕ) → bit k d ≡ false → ¬ (j ≡ k) → bit j (d + 2 ^ k) ≡ bit j d
bit_add_other zero d zero h n = absurd (n refl)
bit_add_other zero d (suc j) h n =
    let e : ¬ (d % 2 ≡ 1) = eqb-false (d % 2) 1 (sym (bit_zero d) ∙ h) in
    bit_suc j (d + 1) ∙ ap (bit j) (let f : (d + 1) / 2 ≡ d / 2 = omega arith in f) ∙ sym (bit_suc j d)
bit_add_other (suc k) d zero h n =
    bit_zero (d + 2 ^ suc k)
    ∙ ap (λ (r : ℕ). eqb r 1) (let e : (d + 2 ^ suc k) % 2 ≡ d % 2 = omega arith in e)
    ∙ sym (bit_zero d)
bit_add_other (suc k) d (suc j) h n =
    bit_suc j (d + 2 ^ suc k)
    ∙ ap (bit j) (let e : (d + 2 ^ suc k) / 2 ≡ d / 2 + 2 ^ k = omega arith in e)
    ∙ bit_add_other k (d / 2) j (sym (bit_suc k d) ∙ h) (λ q. n (ap suc q))
    ∙ sym (bit_suc j d)

-- a set within a bound stays so with one more member below it
pub add_bound : (n k d : ℕ) → d < 2 ^ n → k < n → bit k d ≡ false → d + 2 ^ k < 2 ^ n
add_bound zero k d hd hk h = absurd (not-suc-le-zero hk)
add_bound (suc n) zero d hd hk h =
    let e : ¬ (d % 2 ≡ 1) = eqb-false (d % 2) 1 (sym (bit_zero d) ∙ h) in
    omega arith
add_bound (suc n) (suc k) d hd hk h =
    let r : d / 2 + 2 ^ k < 2 ^ n = add_bound n k (d / 2) (omega arith) (le_of_suc-le-suc hk) (sym (bit_suc k d) ∙ h) in
    omega arith

pub set_of_bound : (n : ℕ) (p : ℕ → Bool) → set_of n p < 2 ^ n
unfolding set_of
set_of_bound zero p = omega arith
set_of_bound (suc n) p = go (p n) (set_of_bound n p)
  where
    go : (b : Bool) → set_of n p < 2 ^ n → set_of n p + cond b (2 ^ n) 0 < 2 ^ suc n
    go true h = omega arith
    go false h = omega arith

-- the members of a set made by a rule are those of which the rule holds
pub bit_set_of : (n : ℕ) (p : ℕ → Bool) (i : ℕ) → i < n → bit i (set_of n p) ≡ p i
unfolding set_of
bit_set_of zero p i h = absurd (not-suc-le-zero h)
bit_set_of (suc n) p i h = go (p n) refl (below_suc i n h) (bit_set_of n p i)
  where
    fresh : bit n (set_of n p) ≡ false
    fresh = bit_beyond n (set_of n p) n (set_of_bound n p) (omega arith)

    go : (b : Bool) → p n ≡ b → (i < n) ⊎ (i ≡ n) → (i < n → bit i (set_of n p) ≡ p i) → bit i (set_of n p + cond b (2 ^ n) 0) ≡ p i
    go true e (inl q) f = bit_add_other n (set_of n p) i fresh (λ r. omega arith) ∙ f q
    go true e (inr q) f = ap (λ (k : ℕ). bit k (set_of n p + 2 ^ n)) q ∙ bit_add_same n (set_of n p) fresh ∙ sym (ap p q ∙ e)
    go false e (inl q) f = ap (bit i) (add-zero (set_of n p)) ∙ f q
    go false e (inr q) f = ap (bit i) (add-zero (set_of n p)) ∙ ap (λ (k : ℕ). bit k (set_of n p)) q ∙ fresh ∙ sym (ap p q ∙ e)

-- a number whose bits a rule describes is the set that the rule makes
pub is_set_of : (n m : ℕ) (p : ℕ → Bool) → m < 2 ^ n → ((i : ℕ) → i < n → bit i m ≡ p i) → m ≡ set_of n p
is_set_of n m p h e = bit_ext n m (set_of n p) h (set_of_bound n p) (λ i q. e i q ∙ sym (bit_set_of n p i q))

-- the low part of a number and the part above it
pub bit_low : (k hi lo i : ℕ) → i < k → bit i (hi * 2 ^ k + lo) ≡ bit i lo
bit_low zero hi lo i h = absurd (not-suc-le-zero h)
bit_low (suc k) hi lo zero h =
    bit_zero (hi * 2 ^ suc k + lo)
    ∙ ap (λ (r : ℕ). eqb r 1) (let e : (hi * 2 ^ suc k + lo) % 2 ≡ lo % 2 = omega (arith, ap (λ (q : ℕ). hi * q) (pow-succ' 2 k)) in e)
    ∙ sym (bit_zero lo)
bit_low (suc k) hi lo (suc i) h =
    bit_suc i (hi * 2 ^ suc k + lo)
    ∙ ap (bit i)
    (let e : (hi * 2 ^ suc k + lo) / 2 ≡ hi * 2 ^ k + lo / 2 = omega (arith, ap (λ (q : ℕ). hi * q) (pow-succ' 2 k)) in e)
    ∙ bit_low k hi (lo / 2) i (le_of_suc-le-suc h)
    ∙ sym (bit_suc i lo)

pub bit_high : (k hi lo i : ℕ) → lo < 2 ^ k → bit (k + i) (hi * 2 ^ k + lo) ≡ bit i hi
unfolding bit
bit_high k hi lo i h =
    ap (λ (m : ℕ). eqb (m % 2) 1) (sym (shr-shr (hi * 2 ^ k + lo) k i) ∙ ap (λ (m : ℕ). m / 2 ^ i) (high hi k h))

-- all numbers below n
pub bit_full : (n i : ℕ) → i < n → bit i (2 ^ n - 1) ≡ true
bit_full zero i h = absurd (not-suc-le-zero h)
bit_full (suc n) zero h =
    bit_zero (2 ^ suc n - 1) ∙ eq-eqb ((2 ^ suc n - 1) % 2) 1 (omega (arith, pow_pos n))
bit_full (suc n) (suc i) h =
    bit_suc i (2 ^ suc n - 1)
    ∙ ap (bit i) (let e : (2 ^ suc n - 1) / 2 ≡ 2 ^ n - 1 = omega (arith, pow_pos n) in e)
    ∙ bit_full n i (le_of_suc-le-suc h)

-- the numbers below n that are not in m
pub bit_rest : (n m i : ℕ) → m < 2 ^ n → i < n → bit i (2 ^ n - 1 - m) ≡ not (bit i m)
bit_rest zero m i hm h = absurd (not-suc-le-zero h)
bit_rest (suc n) m zero hm h = go (eqb (m % 2) 1) refl
  where
    go : (t : Bool) → eqb (m % 2) 1 ≡ t → bit zero (2 ^ suc n - 1 - m) ≡ not (bit zero m)
    go true e =
        bit_zero (2 ^ suc n - 1 - m)
        ∙ ne_eqb ((2 ^ suc n - 1 - m) % 2) 1 (λ q. let r : m % 2 ≡ 1 = eqb-true (m % 2) 1 e in omega (arith, pow_pos n))
        ∙ sym (ap not (bit_zero m ∙ e))
    go false e =
        bit_zero (2 ^ suc n - 1 - m)
        ∙ eq-eqb ((2 ^ suc n - 1 - m) % 2) 1 (let r : ¬ (m % 2 ≡ 1) = eqb-false (m % 2) 1 e in omega (arith, pow_pos n))
        ∙ sym (ap not (bit_zero m ∙ e))
bit_rest (suc n) m (suc i) hm h =
    bit_suc i (2 ^ suc n - 1 - m)
    ∙ ap (bit i) (let e : (2 ^ suc n - 1 - m) / 2 ≡ 2 ^ n - 1 - m / 2 = omega (arith, pow_pos n) in e)
    ∙ bit_rest n (m / 2) i (omega arith) (le_of_suc-le-suc h)
    ∙ sym (ap not (bit_suc i m))

both_odd : (a b : ℕ) → eqb (min (a % 2) (b % 2)) 1 ≡ (eqb (a % 2) 1 && eqb (b % 2) 1)
both_odd a b = go (eqb (a % 2) 1) refl (eqb (b % 2) 1) refl
  where
    go : (s : Bool) → eqb (a % 2) 1 ≡ s → (t : Bool) → eqb (b % 2) 1 ≡ t → eqb (min (a % 2) (b % 2)) 1 ≡ (s && t)
    go true p true q = eq-eqb (min (a % 2) (b % 2)) 1 (omega (arith, eqb-true (a % 2) 1 p, eqb-true (b % 2) 1 q))
    go true p false q = ne_eqb (min (a % 2) (b % 2)) 1 (λ r. let x : ¬ (b % 2 ≡ 1) = eqb-false (b % 2) 1 q in omega arith)
    go false p t q = ne_eqb (min (a % 2) (b % 2)) 1 (λ r. let x : ¬ (a % 2 ≡ 1) = eqb-false (a % 2) 1 p in omega arith)

-- the members of both
pub bit_of_and : (i a b : ℕ) → bit i (bit_and a b) ≡ (bit i a && bit i b)
unfolding bit
bit_of_and i a b =
    ap (λ (m : ℕ). eqb (m % 2) 1) (and_shr a b i)
    ∙ ap (λ (m : ℕ). eqb m 1)
    (let e : bit_and (a / 2 ^ i) (b / 2 ^ i) % 2 ≡ min (a / 2 ^ i % 2) (b / 2 ^ i % 2) =
    omega (arith, and_step (a / 2 ^ i) (b / 2 ^ i)) in e)
    ∙ both_odd (a / 2 ^ i) (b / 2 ^ i)

-- a is in b where their common members are all of a
pub subset_elim : (a b : ℕ) → bit_and a b ≡ a → (i : ℕ) → bit i a ≡ true → bit i b ≡ true
subset_elim a b e i h =
    go (bit i b) (sym (bit_of_and i a b) ∙ ap (bit i) e ∙ h)
  where
    go : (t : Bool) → (bit i a && t) ≡ true → t ≡ true
    go true q = refl
    go false q = true≢false (sym q ∙ ap (λ (s : Bool). s && false) h)

pub subset_intro : (n a b : ℕ) → a < 2 ^ n → ((i : ℕ) → i < n → bit i a ≡ true → bit i b ≡ true) → bit_and a b ≡ a
subset_intro n a b ha h =
    bit_ext n (bit_and a b) a (lt_of_le_of_lt (and_le_l a b) ha) ha
    (λ i q. bit_of_and i a b ∙ go (bit i a) (bit i b) (h i q))
  where
    go : (s t : Bool) → (s ≡ true → t ≡ true) → (s && t) ≡ s
    go true t f = f refl
    go false t f = refl

-- membership as code tests it
pub bit_odd : (i m : ℕ) → m / 2 ^ i % 2 ≡ 1 → bit i m ≡ true
unfolding bit
bit_odd i m e = eq-eqb (m / 2 ^ i % 2) 1 e

pub bit_even : (i m : ℕ) → ¬ (m / 2 ^ i % 2 ≡ 1) → bit i m ≡ false
unfolding bit
bit_even i m e = ne_eqb (m / 2 ^ i % 2) 1 e
