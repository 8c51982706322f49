-- A list filled by a loop, element by element: the first i elements are by the rule, the others as they were.
-- Assumes nothing.
use Prim.Native.Nat.{ℕ, ◌+◌, ◌≤◌, ◌<◌}
use mathlib.Core.Bool.{Bool, true, false, cond}
use mathlib.Core.List.{List}
use mathlib.Core.Path.{◌≡◌, refl, sym, ap, ◌∙◌}
use native.Mathlib.Omega.{arith}
use borrow.Author.Tests.{lt-ltb, le-ltb, ltb-true, ltb-false, eqb-true, eqb-false}
use lib.Dec.{ltb, eqb}
use lib.ListN.{length, get_or, set, length-set}
use lib.Seq.{ext_get_or, get_or-set_same, get_or-set_other}
use Rattle.terms.specs.Lists.{tabulate}
use Rattle.terms.proofs.Lists.{length_tabulate, get_d_tabulate, tabulate_cong}

-- l with its first i elements by the rule f
pub filled : (ℕ → ℕ) → ℕ → List ℕ → List ℕ
filled f i l = tabulate (length l) (λ k. cond (ltb k i) (f k) (get_or l k 0))

module _ (f : ℕ → ℕ) (l : List ℕ) where
  pub length_filled : (i : ℕ) → length (filled f i l) ≡ length l
  unfolding filled
  length_filled i = length_tabulate (length l) (λ k. cond (ltb k i) (f k) (get_or l k 0))

  -- an element that is filled in, and one that is not yet
  pub get_d_filled_done : (i k : ℕ) → k < length l → k < i → get_or (filled f i l) k 0 ≡ f k
  unfolding filled
  get_d_filled_done i k h d = get_d_tabulate (length l) (λ j. cond (ltb j i) (f j) (get_or l j 0)) k 0 h ∙ rw (lt-ltb k i d)

  pub get_d_filled_left : (i k : ℕ) → k < length l → i ≤ k → get_or (filled f i l) k 0 ≡ get_or l k 0
  unfolding filled
  get_d_filled_left i k h d = get_d_tabulate (length l) (λ j. cond (ltb j i) (f j) (get_or l j 0)) k 0 h ∙ rw (le-ltb k i d)

  -- with none filled in it is l
  pub filled_none : l ≡ filled f 0 l
  filled_none = ext_get_or 0 l (filled f 0 l) (sym (length_filled 0)) (λ k h. sym (get_d_filled_left 0 k h (omega arith)))

  -- one more element
  pub filled_more : (i : ℕ) → i < length l → set (filled f i l) i (f i) ≡ filled f (i + 1) l
  filled_more i h =
      ext_get_or 0 (set (filled f i l) i (f i)) (filled f (i + 1) l)
      (length-set (filled f i l) i (f i) ∙ length_filled i ∙ sym (length_filled (i + 1)))
      (λ k m. at k (omega (arith, length-set (filled f i l) i (f i), length_filled i)) (eqb k i) refl)
    where
      -- a place other than i is filled in already, or still waits
      apart : (k : ℕ) → k < length l → (k ≡ i → ⊥) → (b : Bool) → ltb k i ≡ b → get_or (filled f i l) k 0 ≡ get_or (filled f (i + 1) l) k 0
      apart k m off true q =
          let low : k < i = ltb-true k i q in
          get_d_filled_done i k m low ∙ sym (get_d_filled_done (i + 1) k m (omega arith))
      apart k m off false q =
          let high : i ≤ k = ltb-false k i q in
          get_d_filled_left i k m high ∙ sym (get_d_filled_left (i + 1) k m (omega arith))

      at : (k : ℕ) → k < length l → (b : Bool) → eqb k i ≡ b → get_or (set (filled f i l) i (f i)) k 0 ≡ get_or (filled f (i + 1) l) k 0
      at k m true e =
          let here : k ≡ i = eqb-true k i e in
          rw here
          (get_or-set_same (filled f i l) i (f i) 0 (omega (arith, length_filled i)) ∙ sym (get_d_filled_done (i + 1) i h (omega arith)))
      at k m false e = get_or-set_other (filled f i l) i k (f i) 0 (eqb-false k i e) ∙ apart k m (eqb-false k i e) (ltb k i) refl

  -- the next element stands as it was
  pub filled_next : (s : List ℕ) (i : ℕ) → s ≡ filled f i l → i < length l → get_or s i 0 ≡ get_or l i 0
  filled_next s i e h = ap (λ (t : List ℕ). get_or t i 0) e ∙ get_d_filled_left i i h (omega arith)

  -- a turn of the loop stores what the rule says
  pub filled_store : (s : List ℕ) (i v : ℕ) → s ≡ filled f i l → i < length l → v ≡ f i → set s i v ≡ filled f (i + 1) l
  filled_store s i v e h w = ap (λ (t : List ℕ). set t i v) e ∙ ap (λ (x : ℕ). set (filled f i l) i x) w ∙ filled_more i h

  -- the loop is over, and the rule says of the elements that are left what they are
  pub filled_all : (i : ℕ) → ((k : ℕ) → i ≤ k → k < length l → get_or l k 0 ≡ f k) → filled f i l ≡ tabulate (length l) f
  unfolding filled
  filled_all i h = tabulate_cong (length l) (λ k. cond (ltb k i) (f k) (get_or l k 0)) f (λ k m. pick k m (ltb k i) refl)
    where
      pick : (k : ℕ) → k < length l → (b : Bool) → ltb k i ≡ b → cond (ltb k i) (f k) (get_or l k 0) ≡ f k
      pick k m true e = rw e
      pick k m false e = rw e (h k (omega (arith, ltb-false)) m)
