-- Laws of blocks: a whole copy, how long a sum is and what stands at each place, and sums of several blocks.
-- Assumes nothing.
use Prim.Native.Nat.{ℕ, zero, suc, ◌+◌, ◌≤◌, ◌<◌}
use mathlib.Core.Bool.{Bool, true, false, cond}
use mathlib.Core.List.{List}
use mathlib.Core.Path.{◌≡◌, refl, sym, ap, ap₂, ◌∙◌}
use native.Mathlib.Numerals.{add-one}
use native.Mathlib.Omega.{arith}
use borrow.Author.Tests.{lt-ltb, ltb-true, ltb-false}
use lib.Bits.{bit_xor}
use lib.Dec.{ltb}
use lib.ListN.{length, get_or, length-replicate, get_or-replicate, get_or-eq_default}
use Rattle.terms.specs.Lists.{changes}
use Rattle.terms.specs.Sets.{xor_to}
use Rattle.terms.proofs.Lists.{length_tabulate, get_d_tabulate, is_tabulate}
use Rattle.block.specs.Blocks.{copied, added, summed, zeros}
use Rattle.block.proofs.Xor.{xor_assoc, xor_zero, zero_xor}

-- ---- a copy

-- a block copied over one of its length is that block
pub copied_whole : (a b : List ℕ) → length a ≡ length b → copied a b ≡ b
unfolding copied
copied_whole a b e =
    sym (is_tabulate b (length a) (λ i. cond (ltb i (length b)) (get_or b i 0) (get_or a i 0)) 0 (sym e)
    (λ i h. rw (lt-ltb i (length b) (omega arith))))

-- ---- a sum

pub length_added : (a b : List ℕ) → length (added a b) ≡ length a
unfolding added
length_added a b = length_tabulate (length a) (λ i. bit_xor (get_or a i 0) (get_or b i 0))

pub get_d_added : (a b : List ℕ) (i : ℕ) → i < length a → get_or (added a b) i 0 ≡ bit_xor (get_or a i 0) (get_or b i 0)
unfolding added
get_d_added a b i h = get_d_tabulate (length a) (λ j. bit_xor (get_or a j 0) (get_or b j 0)) i 0 h

-- a sum is known by its bytes
sum_is : (a b r : List ℕ) → length r ≡ length a → ((i : ℕ) → i < length a → get_or r i 0 ≡ bit_xor (get_or a i 0) (get_or b i 0))
    → added a b ≡ r
unfolding added
sum_is a b r e h = sym (is_tabulate r (length a) (λ i. bit_xor (get_or a i 0) (get_or b i 0)) 0 e h)

pub length_zeros : (n : ℕ) → length (zeros n) ≡ n
length_zeros n = length-replicate n zero

-- a byte of a block of zeros
pub get_d_zeros : (n i : ℕ) → get_or (zeros n) i 0 ≡ 0
get_d_zeros n i = go (ltb i n) refl
  where
    go : (b : Bool) → ltb i n ≡ b → get_or (zeros n) i 0 ≡ 0
    go true e = get_or-replicate n i 0 0 (ltb-true i n e)
    go false e =
        let l : n ≤ i = ltb-false i n e in
        get_or-eq_default (zeros n) 0 (omega (arith, length_zeros n))

-- nothing added: a block of zeros, of any length
pub added_zeros : (a : List ℕ) (n : ℕ) → added a (zeros n) ≡ a
added_zeros a n = sum_is a (zeros n) a refl (λ i h. sym (ap (λ (x : ℕ). bit_xor (get_or a i 0) x) (get_d_zeros n i) ∙ xor_zero (get_or a i 0)))

-- ---- several blocks

-- with no block the sum is as it was
pub summed_none : (f : ℕ → List ℕ) (a : List ℕ) → summed 0 f a ≡ a
unfolding summed changes
summed_none f a = refl

-- one block more
pub summed_more : (n : ℕ) (f : ℕ → List ℕ) (a : List ℕ) → summed (n + 1) f a ≡ added (summed n f a) (f n)
unfolding summed changes
summed_more n f a = rw add-one

pub length_summed : (n : ℕ) (f : ℕ → List ℕ) (a : List ℕ) → length (summed n f a) ≡ length a
unfolding summed changes
length_summed zero f a = refl
length_summed (suc n) f a = length_added (summed n f a) (f n) ∙ length_summed n f a

-- a byte of a sum, the blocks' bytes added in their order
unfoldable pub xored : ℕ → (ℕ → List ℕ) → List ℕ → ℕ → ℕ
xored zero f a i = get_or a i 0
xored (suc n) f a i = bit_xor (xored n f a i) (get_or (f n) i 0)

pub xored_none : (f : ℕ → List ℕ) (a : List ℕ) (i : ℕ) → get_or a i 0 ≡ xored 0 f a i
unfolding xored
xored_none f a i = refl

-- one block more, of which b is what the loop has
pub xored_next : (n : ℕ) (f : ℕ → List ℕ) (a : List ℕ) (i : ℕ) {b : List ℕ} {x : ℕ} → b ≡ f n → x ≡ xored n f a i
    → bit_xor x (get_or b i 0) ≡ xored (n + 1) f a i
unfolding xored
xored_next n f a i e q = rw (add-one, e, q)

-- it depends on no other byte
pub xored_cong : (n : ℕ) (f : ℕ → List ℕ) (a b : List ℕ) (i : ℕ) → get_or a i 0 ≡ get_or b i 0 → xored n f a i ≡ xored n f b i
unfolding xored
xored_cong zero f a b i e = e
xored_cong (suc n) f a b i e = ap (λ (x : ℕ). bit_xor x (get_or (f n) i 0)) (xored_cong n f a b i e)

pub get_d_summed_in_order : (n : ℕ) (f : ℕ → List ℕ) (a : List ℕ) (i : ℕ) → i < length a → get_or (summed n f a) i 0 ≡ xored n f a i
unfolding summed changes xored
get_d_summed_in_order zero f a i h = refl
get_d_summed_in_order (suc n) f a i h =
    get_d_added (summed n f a) (f n) i (omega (arith, length_summed n f a))
    ∙ ap (λ (x : ℕ). bit_xor x (get_or (f n) i 0)) (get_d_summed_in_order n f a i h)

-- beyond all the blocks the sum is as it was
pub get_d_summed_beyond : (n : ℕ) (f : ℕ → List ℕ) (a : List ℕ) (i : ℕ) → i < length a → ((k : ℕ) → k < n → length (f k) ≤ i)
    → get_or (summed n f a) i 0 ≡ get_or a i 0
unfolding summed changes
get_d_summed_beyond zero f a i h z = refl
get_d_summed_beyond (suc n) f a i h z =
    get_d_added (summed n f a) (f n) i (omega (arith, length_summed n f a))
    ∙ ap (λ (x : ℕ). bit_xor (get_or (summed n f a) i 0) x) (get_or-eq_default (f n) 0 (z n (omega arith)))
    ∙ xor_zero (get_or (summed n f a) i 0) ∙ get_d_summed_beyond n f a i h (λ k l. z k (omega arith))

-- the same blocks
pub summed_cong : (n : ℕ) (f g : ℕ → List ℕ) (a : List ℕ) → ((k : ℕ) → k < n → f k ≡ g k) → summed n f a ≡ summed n g a
unfolding summed changes
summed_cong zero f g a e = refl
summed_cong (suc n) f g a e = ap₂ added (summed_cong n f g a (λ k l. e k (omega arith))) (e n (omega arith))

-- each byte is the exclusive or of the blocks' bytes there
pub get_d_summed : (n : ℕ) (f : ℕ → List ℕ) (a : List ℕ) (i : ℕ) → i < length a
    → get_or (summed n f a) i 0 ≡ bit_xor (get_or a i 0) (xor_to n (λ k. get_or (f k) i 0))
unfolding summed changes xor_to
get_d_summed zero f a i h = sym (xor_zero (get_or a i 0))
get_d_summed (suc n) f a i h =
    get_d_added (summed n f a) (f n) i (omega (arith, length_summed n f a))
    ∙ ap (λ (x : ℕ). bit_xor x (get_or (f n) i 0)) (get_d_summed n f a i h)
    ∙ xor_assoc (get_or a i 0) (xor_to n (λ k. get_or (f k) i 0)) (get_or (f n) i 0)

-- the sum of blocks from zero bytes
pub get_d_summed_zeros : (n : ℕ) (f : ℕ → List ℕ) (size i : ℕ) → i < size
    → get_or (summed n f (zeros size)) i 0 ≡ xor_to n (λ k. get_or (f k) i 0)
get_d_summed_zeros n f size i h =
    get_d_summed n f (zeros size) i (omega (arith, length_zeros size))
    ∙ ap (λ (x : ℕ). bit_xor x (xor_to n (λ k. get_or (f k) i 0))) (get_d_zeros size i) ∙ zero_xor (xor_to n (λ k. get_or (f k) i 0))
