-- Laws of the sum of a stripe's positions, in any group in which every element is its own inverse.
-- Assumes nothing.
use Prim.Native.Nat.{ℕ, zero, suc, ◌≤◌, ◌<◌}
use mathlib.Core.Bool.{Bool, true, false, cond}
use mathlib.Core.Logic.{◌⊎◌, inl, inr}
use mathlib.Core.Path.{◌≡◌, refl, sym, ap, ap₂, ◌∙◌}
use native.Mathlib.Nat.{not-suc-le-zero, eq-or-lt_of_le, le_of_suc-le-suc}
use native.Mathlib.Omega.{arith}
use lib.Dec.{eqb}
use borrow.Author.Tests.{eqb-true, eq-eqb, ne_eqb}
use Rattle.stripe.specs.Blocks.{changed}
use Rattle.stripe.specs.Group.{Group, sum_to, others}
use Rattle.stripe.specs.Invariant.{IsRow}

-- a function changed at p is the new thing there, and what it was anywhere else
pub changed_same : {A : Type 0} (f : ℕ → A) (p : ℕ) (a : A) (i : ℕ) → i ≡ p → changed f p a i ≡ a
unfolding changed
changed_same f p a i e = ap (λ (t : Bool). cond t a (f i)) (eq-eqb i p e)

pub changed_other : {A : Type 0} (f : ℕ → A) (p : ℕ) (a : A) (i : ℕ) → ¬ (i ≡ p) → changed f p a i ≡ f i
unfolding changed
changed_other f p a i h = ap (λ (t : Bool). cond t a (f i)) (ne_eqb i p h)

module _ (G : Group) where
  pub nought_add : (a : G.carrier) → G.add G.nought a ≡ a
  nought_add a = G.add_comm G.nought a ∙ G.add_nought a

  -- two sums of two, taken crosswise
  pub add_cross : (a b c d : G.carrier) → G.add (G.add a b) (G.add c d) ≡ G.add (G.add a c) (G.add b d)
  add_cross a b c d =
      G.add_assoc a b (G.add c d)
      ∙ ap (λ (t : G.carrier). G.add a t) (sym (G.add_assoc b c d) ∙ ap (λ (t : G.carrier). G.add t d) (G.add_comm b c) ∙ G.add_assoc c b d)
      ∙ sym (G.add_assoc a c (G.add b d))

  -- what is added twice is gone
  pub add_twice : (a b : G.carrier) → G.add (G.add a b) b ≡ a
  add_twice a b = G.add_assoc a b b ∙ ap (λ (t : G.carrier). G.add a t) (G.add_self b) ∙ G.add_nought a

  -- two things whose sum is nothing are equal
  pub equal_of_nought : (a b : G.carrier) → G.add a b ≡ G.nought → a ≡ b
  equal_of_nought a b e = sym (add_twice a b) ∙ ap (λ (t : G.carrier). G.add t b) e ∙ nought_add b

  pub sum_cong : (m : ℕ) (f g : ℕ → G.carrier) → ((p : ℕ) → p < m → f p ≡ g p) → sum_to G m f ≡ sum_to G m g
  unfolding sum_to
  sum_cong zero f g h = refl
  sum_cong (suc m) f g h = ap₂ G.add (sum_cong m f g (λ p l. h p (omega arith))) (h m (omega arith))

  pub sum_nought : (m : ℕ) (f : ℕ → G.carrier) → ((p : ℕ) → p < m → f p ≡ G.nought) → sum_to G m f ≡ G.nought
  unfolding sum_to
  sum_nought zero f h = refl
  sum_nought (suc m) f h =
      ap₂ G.add (sum_nought m f (λ p l. h p (omega arith))) (h m (omega arith)) ∙ G.add_nought G.nought

  -- the sum of two functions, split
  pub sum_add : (m : ℕ) (f g : ℕ → G.carrier) → sum_to G m (λ p. G.add (f p) (g p)) ≡ G.add (sum_to G m f) (sum_to G m g)
  unfolding sum_to
  sum_add zero f g = sym (G.add_nought G.nought)
  sum_add (suc m) f g =
      ap (λ (t : G.carrier). G.add t (G.add (f m) (g m))) (sum_add m f g)
      ∙ add_cross (sum_to G m f) (sum_to G m g) (f m) (g m)

  -- one position alone
  unfoldable pub alone : ℕ → G.carrier → ℕ → G.carrier
  alone x a p = cond (eqb p x) a G.nought

  sum_alone_step : (m x : ℕ) (a : G.carrier) → (x < m → sum_to G m (alone x a) ≡ a) → (x ≡ m) ⊎ (x < m)
      → G.add (sum_to G m (alone x a)) (alone x a m) ≡ a
  unfolding alone
  sum_alone_step m x a ih (inl e) =
      ap₂ G.add
      (sum_nought m (alone x a) (λ p l. ap (λ (t : Bool). cond t a G.nought) (ne_eqb p x (λ i. omega arith))))
      (ap (λ (t : Bool). cond t a G.nought) (eq-eqb m x (sym e)))
      ∙ nought_add a
  sum_alone_step m x a ih (inr l) =
      ap₂ G.add (ih l) (ap (λ (t : Bool). cond t a G.nought) (ne_eqb m x (λ i. omega arith)))
      ∙ G.add_nought a

  pub sum_alone : (m x : ℕ) (a : G.carrier) → x < m → sum_to G m (alone x a) ≡ a
  unfolding sum_to
  sum_alone zero x a l = absurd (not-suc-le-zero l)
  sum_alone (suc m) x a l = sum_alone_step m x a (λ k. sum_alone m x a k) (eq-or-lt_of_le (le_of_suc-le-suc l))

  -- a sum is what stands at one position and the sum of the others
  pub sum_others : (m x : ℕ) (f : ℕ → G.carrier) → x < m → sum_to G m f ≡ G.add (sum_to G m (others G x f)) (f x)
  unfolding others alone
  sum_others m x f l =
      sum_cong m f (λ p. G.add (others G x f p) (alone x (f x) p)) (λ p k. apart p (eqb p x) refl)
      ∙ sum_add m (others G x f) (alone x (f x))
      ∙ ap (λ (t : G.carrier). G.add (sum_to G m (others G x f)) t) (sum_alone m x (f x) l)
    where
      apart : (p : ℕ) (t : Bool) → eqb p x ≡ t → f p ≡ G.add (others G x f p) (alone x (f x) p)
      apart p true e = rw e (ap f (eqb-true p x e) ∙ sym (nought_add (f x)))
      apart p false e = rw e (sym (G.add_nought (f p)))

  -- a change of one position changes the sum by what was there and what is there now
  pub sum_changed : (m x : ℕ) (f : ℕ → G.carrier) (a : G.carrier) → x < m
      → sum_to G m (changed f x a) ≡ G.add (sum_to G m f) (G.add (f x) a)
  unfolding changed alone
  sum_changed m x f a l =
      sum_cong m (changed f x a) (λ p. G.add (f p) (alone x (G.add (f x) a) p)) (λ p k. apart p (eqb p x) refl)
      ∙ sum_add m f (alone x (G.add (f x) a))
      ∙ ap (λ (t : G.carrier). G.add (sum_to G m f) t) (sum_alone m x (G.add (f x) a) l)
    where
      apart : (p : ℕ) (t : Bool) → eqb p x ≡ t → changed f x a p ≡ G.add (f p) (alone x (G.add (f x) a) p)
      apart p true e =
          rw e
          (sym (nought_add a) ∙ ap (λ (t : G.carrier). G.add t a) (sym (G.add_self (f x)))
          ∙ G.add_assoc (f x) (f x) a ∙ ap (λ (i : ℕ). G.add (f i) (G.add (f x) a)) (sym (eqb-true p x e)))
      apart p false e = rw e (sym (G.add_nought (f p)))

  -- of a row any one position is the sum of the others
  pub row_others : (n x : ℕ) (R : ℕ → G.carrier) → x ≤ n → IsRow G n R → R x ≡ sum_to G (suc n) (others G x R)
  unfolding IsRow
  row_others n x R l e =
      sym (equal_of_nought (sum_to G (suc n) (others G x R)) (R x) (sym (sum_others (suc n) x R (omega arith)) ∙ e))

  -- and a function of which one position is the sum of the others is a row
  pub others_row : (n x : ℕ) (R : ℕ → G.carrier) → x ≤ n → R x ≡ sum_to G (suc n) (others G x R) → IsRow G n R
  unfolding IsRow
  others_row n x R l e =
      sum_others (suc n) x R (omega arith)
      ∙ ap (λ (t : G.carrier). G.add (sum_to G (suc n) (others G x R)) t) e
      ∙ G.add_self (sum_to G (suc n) (others G x R))

  -- parity is the sum of the units
  pub row_parity : (n : ℕ) (R : ℕ → G.carrier) → IsRow G n R → sum_to G n R ≡ R n
  unfolding IsRow sum_to
  row_parity n R e = equal_of_nought (sum_to G n R) (R n) e

  pub parity_row : (n : ℕ) (R : ℕ → G.carrier) → sum_to G n R ≡ R n → IsRow G n R
  unfolding IsRow sum_to
  parity_row n R e = ap (λ (t : G.carrier). G.add t (R n)) e ∙ G.add_self (R n)
