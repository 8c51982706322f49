-- The sets of positions that a graph reads and writes, as the code makes them from the mask.
-- Assumes nothing.
use Prim.Native.Nat.{ℕ, ◌+◌, ◌-◌, ◌*◌, ◌%◌, ◌^◌, ◌≤◌, ◌<◌}
use mathlib.Core.Bool.{Bool, cond, false, not, ◌||◌, and-true, or-true, or-false}
use mathlib.Core.Logic.{⊎_elim}
use mathlib.Core.Path.{◌≡◌, refl, sym, ap, ◌∙◌}
use native.Mathlib.Nat.{lt_of_le_of_lt, lt_of_lt_of_le}
use native.Mathlib.Omega.{arith}
use lib.Arith.{digits_lt}
use lib.Bits.{bit_and, and_le_r}
use lib.Dec.{leb, eqb}
use lib.Pow.{pow_pos, pow-lt, pow_mono, pow-add, shl_exact, ones_lt}
use borrow.Author.Tests.{eq-eqb, ne_eqb, le-leb, lt-ltb, le-ltb}
use Rattle.terms.proofs.Bits.{bit_beyond, bit_full, bit_rest, bit_low, bit_high, bit_of_and, bit_add_same, bit_add_other, bit_set_of, set_of_bound, is_set_of}
use Rattle.terms.proofs.Sets.{below_suc}
use Rattle.terms.specs.Sets.{bit, set_of}
use Rattle.graph.specs.Asked.{step_set}
use Rattle.graph.specs.Steps.{masked, unmasked, reads, sums, writes, member, step_of, step_numbers}
use Rattle.graph.proofs.Numbers.{Numbered, reading, summing, writing, numbered, step_of_read, step_of_sum, step_of_write}
use Rattle.graph.proofs.Rules.{pow_next, bit_one, flag_bound, flag_below, flag_at}

-- a position is a unit or is n, parity
pub position : {X : Type 0} (n i : ℕ) → i < n + 1 → (i < n → X) → (i ≡ n → X) → X
position n i h f g = ⊎_elim f g (below_suc i n (omega arith))

module _ (n mask : ℕ) where
  pub masked_unit : (i : ℕ) → i < n → masked n mask i ≡ bit i mask
  unfolding masked
  masked_unit i h = rw (lt-ltb i n h)

  pub masked_parity : masked n mask n ≡ false
  unfolding masked
  masked_parity = rw (le-ltb n n (omega arith))

  pub unmasked_unit : (i : ℕ) → i < n → unmasked n mask i ≡ not (bit i mask)
  unfolding unmasked
  unmasked_unit i h = rw (lt-ltb i n h)

  pub unmasked_parity : unmasked n mask n ≡ false
  unfolding unmasked
  unmasked_parity = rw (le-ltb n n (omega arith))

  -- the masked units
  masked_low : bit_and mask (2 ^ n - 1) < 2 ^ n
  masked_low = lt_of_le_of_lt (and_le_r mask (2 ^ n - 1)) (ones_lt n)

  pub masked_is : bit_and mask (2 ^ n - 1) ≡ set_of (n + 1) (masked n mask)
  masked_is =
      is_set_of (n + 1) (bit_and mask (2 ^ n - 1)) (masked n mask) (omega (arith, masked_low, pow_next n))
      (λ i h.
      position n i h
      (λ l. bit_of_and i mask (2 ^ n - 1) ∙ rw (bit_full n i l, masked_unit i l) (and-true (bit i mask)))
      (λ e. rw e (bit_beyond n (bit_and mask (2 ^ n - 1)) n masked_low (omega arith) ∙ sym masked_parity)))

  pub masked_bound : set_of (n + 1) (masked n mask) < 2 ^ n
  masked_bound = rw (← masked_is) masked_low

  -- the units outside the mask
  pub unmasked_is : 2 ^ n - 1 - set_of (n + 1) (masked n mask) ≡ set_of (n + 1) (unmasked n mask)
  unmasked_is =
      let low : 2 ^ n - 1 - set_of (n + 1) (masked n mask) < 2 ^ n = omega (arith, pow_pos n) in
      is_set_of (n + 1) (2 ^ n - 1 - set_of (n + 1) (masked n mask)) (unmasked n mask) (omega (arith, pow_next n))
      (λ i h.
      position n i h
      (λ l.
      bit_rest n (set_of (n + 1) (masked n mask)) i masked_bound l
      ∙ ap not (bit_set_of (n + 1) (masked n mask) i h ∙ masked_unit i l)
      ∙ sym (unmasked_unit i l))
      (λ e. rw e (bit_beyond n (2 ^ n - 1 - set_of (n + 1) (masked n mask)) n low (omega arith) ∙ sym unmasked_parity)))

  -- the masked units and parity
  pub masked_and_parity_is : set_of (n + 1) (masked n mask) + 2 ^ n ≡ set_of (n + 1) (λ p. masked n mask p || eqb p n)
  masked_and_parity_is =
      let clear : bit n (set_of (n + 1) (masked n mask)) ≡ false =
      bit_beyond n (set_of (n + 1) (masked n mask)) n masked_bound (omega arith) in
      is_set_of (n + 1) (set_of (n + 1) (masked n mask) + 2 ^ n) (λ p. masked n mask p || eqb p n)
      (omega (arith, pow_next n, masked_bound))
      (λ i h.
      position n i h
      (λ l.
      bit_add_other n (set_of (n + 1) (masked n mask)) i clear (λ q. omega arith)
      ∙ bit_set_of (n + 1) (masked n mask) i h
      ∙ rw (ne_eqb i n (λ q. omega arith)) (sym (or-false (masked n mask i))))
      (λ e. rw (e, eq-eqb n n refl) (bit_add_same n (set_of (n + 1) (masked n mask)) clear ∙ sym (or-true (masked n mask n)))))

-- every position but x
pub present_is : (n x : ℕ) → x ≤ n → 2 ^ (n + 1) - 1 - 2 ^ x ≡ set_of (n + 1) (λ p. not (eqb p x))
present_is n x h =
    is_set_of (n + 1) (2 ^ (n + 1) - 1 - 2 ^ x) (λ p. not (eqb p x)) (omega (arith, pow_pos (n + 1)))
    (λ i l. bit_rest (n + 1) (2 ^ x) i (pow-lt (omega arith)) l ∙ ap not (bit_one x i))

pub present_all : (n x : ℕ) → n < x → 2 ^ (n + 1) - 1 ≡ set_of (n + 1) (λ p. not (eqb p x))
present_all n x h =
    is_set_of (n + 1) (2 ^ (n + 1) - 1) (λ p. not (eqb p x)) (ones_lt (n + 1))
    (λ i l. bit_full (n + 1) i l ∙ sym (ap not (ne_eqb i x (λ q. omega arith))))

-- every position
pub all_positions : (n : ℕ) → 2 ^ (n + 1) - 1 ≡ set_of (n + 1) (λ p. leb p n)
all_positions n =
    is_set_of (n + 1) (2 ^ (n + 1) - 1) (λ p. leb p n) (ones_lt (n + 1))
    (λ i l. bit_full (n + 1) i l ∙ sym (le-leb i n (omega arith)))

-- ---- the steps of a graph, from its three sets

-- the reads and the exclusive or
abbrev pub low : ℕ → ℕ → ℕ → ℕ → ℕ
low n g mask x = set_of (n + 1) (reads n g mask x) + cond (sums g) (2 ^ (n + 1)) 0

module _ (n g mask x : ℕ) where
  pub low_bound : low n g mask x < 2 ^ (n + 2)
  low_bound =
      let e : n + 1 + 1 ≡ n + 2 = omega arith in
      rw e at (flag_bound (n + 1) (set_of (n + 1) (reads n g mask x)) (sums g) (set_of_bound (n + 1) (reads n g mask x)))

  -- all three, the writes above
  all : ℕ
  all = set_of (n + 1) (writes n g mask x) * 2 ^ (n + 2) + low n g mask x

  all_bound : all < 2 ^ step_numbers n
  unfolding all
  all_bound =
      let e : n + 1 + (n + 2) ≡ step_numbers n = omega arith in
      rw (← e, pow-add 2 (n + 1) (n + 2)) (digits_lt (set_of_bound (n + 1) (writes n g mask x)) low_bound)

  all_at : (k : ℕ) → Numbered n k → bit k all ≡ member n g mask x (step_of n k)
  unfolding all member
  all_at k (reading p h e) =
      rw (e, step_of_read n p h)
      (bit_low (n + 2) (set_of (n + 1) (writes n g mask x)) (low n g mask x) p (omega arith)
      ∙ flag_below (n + 1) (set_of (n + 1) (reads n g mask x)) p (sums g) (set_of_bound (n + 1) (reads n g mask x)) (omega arith)
      ∙ bit_set_of (n + 1) (reads n g mask x) p (omega arith))
  all_at k (summing e) =
      rw (e, step_of_sum n)
      (bit_low (n + 2) (set_of (n + 1) (writes n g mask x)) (low n g mask x) (n + 1) (omega arith)
      ∙ flag_at (n + 1) (set_of (n + 1) (reads n g mask x)) (sums g) (set_of_bound (n + 1) (reads n g mask x)))
  all_at k (writing p h e) =
      rw (e, step_of_write n p h)
      (bit_high (n + 2) (set_of (n + 1) (writes n g mask x)) (low n g mask x) p low_bound
      ∙ bit_set_of (n + 1) (writes n g mask x) p (omega arith))

  pub steps_are : set_of (n + 1) (writes n g mask x) * 2 ^ (n + 2) + low n g mask x ≡ step_set n g mask x
  unfolding all step_set
  steps_are =
      is_set_of (step_numbers n) all (λ k. member n g mask x (step_of n k)) all_bound (λ k h. all_at k (numbered n k h))

-- ---- with at most 7 units all fit a word

module _ (n r w : ℕ) (b : Bool) (few : n ≤ 7) where
  pub joined_low : r < 2 ^ (n + 1) → r + cond b (2 ^ (n + 1)) 0 < 2 ^ 9
  joined_low h =
      lt_of_lt_of_le (flag_bound (n + 1) r b h) (pow_mono {i = n + 1 + 1} {j = 9} (omega arith))

  pub joined_fits : r < 2 ^ (n + 1) → w < 2 ^ (n + 1) → w * 2 ^ (n + 2) + (r + cond b (2 ^ (n + 1)) 0) < 2 ^ 17
  joined_fits h k =
      let e : n + 1 + 1 ≡ n + 2 = omega arith in
      lt_of_lt_of_le (rw (← pow-add 2 (n + 1) (n + 2)) at (digits_lt k (rw e at (flag_bound (n + 1) r b h))))
      (pow_mono {i = n + 1 + (n + 2)} {j = 17} (omega arith))

  pub joined_shift : w < 2 ^ (n + 1) → w * 2 ^ (n + 2) % 18446744073709551616 ≡ w * 2 ^ (n + 2)
  joined_shift k = shl_exact (n + 1) (n + 2) 64 k (omega arith)
