-- Sets made by rules: equal rules, both of two rules, a rule that holds of nothing or of one number, and the test that one set is in another.
-- Assumes nothing.
use Prim.Native.Nat.{ℕ, ◌+◌, ◌*◌, ◌^◌, ◌≤◌, ◌<◌}
use mathlib.Core.Bool.{Bool, true, false, cond, not, ◌&&◌, ◌||◌}
use mathlib.Core.Logic.{⊎_elim}
use mathlib.Core.Path.{◌≡◌, refl, sym, ap, ◌∙◌}
use native.Mathlib.Nat.{lt_of_le_of_lt, lt_of_lt_of_le, zero-add, add-zero, mul_comm}
use native.Mathlib.Omega.{arith}
use lib.Bits.{bit_and, and_le_l}
use lib.Dec.{leb, eqb}
use lib.Pow.{pow_pos, pow_mono, pow-lt, pow-add}
use borrow.Author.Tests.{eqb-true, eqb-false, eq-eqb, leb-true, leb-false, not-true, not-false}
use Rattle.terms.proofs.Bits.{bit_none, bit_ext, bit_beyond, bit_add_same, bit_add_other, bit_set_of, set_of_bound, is_set_of, bit_of_and, subset_elim, subset_intro}
use Rattle.terms.proofs.Rows.{truth, or_not_elim, or_not_intro}
use Rattle.terms.proofs.Sets.{all_below_elim, all_below_intro, all_below_fails}
use Rattle.terms.specs.Sets.{bit, set_of, all_below}

pub pow_next : (n : ℕ) → 2 ^ (n + 1) ≡ 2 * 2 ^ n
pow_next n = pow-add 2 n 1 ∙ mul_comm (2 ^ n) 2

-- two tests that hold together are equal
pub both_ways : (a b : Bool) → (a ≡ true → b ≡ true) → (b ≡ true → a ≡ true) → a ≡ b
both_ways true b f h = sym (f refl)
both_ways false true f h = h refl
both_ways false false f h = refl

pub set_of_cong : (n : ℕ) (p q : ℕ → Bool) → ((i : ℕ) → i < n → p i ≡ q i) → set_of n p ≡ set_of n q
set_of_cong n p q h = is_set_of n (set_of n p) q (set_of_bound n p) (λ i l. bit_set_of n p i l ∙ h i l)

pub set_of_none : (n : ℕ) (p : ℕ → Bool) → ((i : ℕ) → i < n → p i ≡ false) → set_of n p ≡ 0
set_of_none n p h = sym (is_set_of n 0 p (pow_pos n) (λ i l. bit_none i ∙ sym (h i l)))

-- a rule that holds of no number at n or above
pub set_of_widen : (n m : ℕ) (p q : ℕ → Bool) → n ≤ m → ((i : ℕ) → i < n → p i ≡ q i) → ((i : ℕ) → n ≤ i → i < m → q i ≡ false)
    → set_of n p ≡ set_of m q
set_of_widen n m p q l h f =
    is_set_of m (set_of n p) q (lt_of_lt_of_le (set_of_bound n p) (pow_mono l))
    (λ i k.
    ⊎_elim (λ e. let b = leb-true n i e in bit_beyond n (set_of n p) i (set_of_bound n p) b ∙ sym (f i b k))
    (λ e. let b = leb-false n i e in bit_set_of n p i b ∙ h i b)
    (truth (leb n i)))

-- the set of one number
pub bit_one : (k i : ℕ) → bit i (2 ^ k) ≡ eqb i k
bit_one k i =
    ap (bit i) (sym (zero-add (2 ^ k)))
    ∙ ⊎_elim (λ e. rw (eqb-true i k e) (bit_add_same k 0 (bit_none k) ∙ sym (eq-eqb k k refl)))
    (λ e. bit_add_other k 0 i (bit_none k) (eqb-false i k e) ∙ bit_none i ∙ sym e)
    (truth (eqb i k))

pub set_of_one : (n k : ℕ) (p : ℕ → Bool) → k < n → ((i : ℕ) → i < n → p i ≡ eqb i k) → set_of n p ≡ 2 ^ k
set_of_one n k p l h = sym (is_set_of n (2 ^ k) p (pow-lt l) (λ i q. bit_one k i ∙ sym (h i q)))

-- the numbers of which both rules hold
pub set_of_and : (n : ℕ) (p q : ℕ → Bool) → bit_and (set_of n p) (set_of n q) ≡ set_of n (λ i. p i && q i)
set_of_and n p q =
    is_set_of n (bit_and (set_of n p) (set_of n q)) (λ i. p i && q i)
    (lt_of_le_of_lt (and_le_l (set_of n p) (set_of n q)) (set_of_bound n p))
    (λ i l. bit_of_and i (set_of n p) (set_of n q) ∙ rw (bit_set_of n p i l, bit_set_of n q i l))

-- the test that a set made by a rule is in d: each number of which the rule holds is in d
pub subset_test : (n : ℕ) (p : ℕ → Bool) (d : ℕ)
    → eqb (bit_and (set_of n p) d) (set_of n p) ≡ all_below n (λ i. not (p i) || bit i d)
subset_test n p d =
    both_ways (eqb (bit_and (set_of n p) d) (set_of n p)) (all_below n (λ i. not (p i) || bit i d))
    (λ e.
    all_below_intro n (λ i. not (p i) || bit i d)
    (λ i l.
    or_not_intro (p i) (bit i d)
    (λ h. subset_elim (set_of n p) d (eqb-true (bit_and (set_of n p) d) (set_of n p) e) i (bit_set_of n p i l ∙ h))))
    (λ e.
    eq-eqb (bit_and (set_of n p) d) (set_of n p)
    (subset_intro n (set_of n p) d (set_of_bound n p)
    (λ i l h. or_not_elim (p i) (bit i d) (all_below_elim n (λ j. not (p j) || bit j d) e i l) (sym (bit_set_of n p i l) ∙ h))))

-- ---- a set below k, with k itself where b says so

pub flag_bound : (k r : ℕ) (b : Bool) → r < 2 ^ k → r + cond b (2 ^ k) 0 < 2 ^ (k + 1)
flag_bound k r true h = omega (arith, pow_next k)
flag_bound k r false h = omega (arith, pow_next k)

pub flag_below : (k r i : ℕ) (b : Bool) → r < 2 ^ k → i < k → bit i (r + cond b (2 ^ k) 0) ≡ bit i r
flag_below k r i true h l = bit_add_other k r i (bit_beyond k r k h (omega arith)) (λ q. omega arith)
flag_below k r i false h l = ap (bit i) (add-zero r)

pub flag_at : (k r : ℕ) (b : Bool) → r < 2 ^ k → bit k (r + cond b (2 ^ k) 0) ≡ b
flag_at k r true h = bit_add_same k r (bit_beyond k r k h (omega arith))
flag_at k r false h = ap (bit k) (add-zero r) ∙ bit_beyond k r k h (omega arith)

-- ---- a set that is not empty has a member

pub some_bit : (n m : ℕ) → m < 2 ^ n → ¬ (m ≡ 0) → (p : ℕ) × (p < n) × (bit p m ≡ true)
some_bit n m h z =
    ⊎_elim
    (λ e.
    absurd
    (z
    (bit_ext n m 0 h (pow_pos n)
    (λ i l. not-true (bit i m) (all_below_elim n (λ i. not (bit i m)) e i l) ∙ sym (bit_none i)))))
    (λ e. let (p, l, f) = all_below_fails n (λ i. not (bit i m)) e in (p, l, not-false (bit p m) f))
    (truth (all_below n (λ i. not (bit i m))))
