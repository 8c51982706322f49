-- An array that a loop fills in, place by place.
-- Assumes nothing.
use Prim.Native.Nat.{ℕ, ◌+◌, ◌≤◌, ◌<◌}
use mathlib.Core.Bool.{cond}
use mathlib.Core.List.{List}
use mathlib.Core.Logic.{⊎_elim}
use mathlib.Core.Path.{◌≡◌, sym, ap, ◌∙◌}
use native.Mathlib.Omega.{arith}
use borrow.Author.Tests.{ltb-true, ltb-false, lt-ltb, le-ltb, eqb-true, eqb-false}
use lib.Dec.{ltb, eqb}
use lib.ListN.{get_or, set, length-set}
use lib.Seq.{get_or-set_same, get_or-set_other}
use Rattle.terms.proofs.Lists.{length_tabulate, get_d_tabulate, is_tabulate, tabulate_cong}
use Rattle.terms.proofs.Rows.{truth}
use Rattle.terms.specs.Lists.{tabulate}

module _ {ℓ} {A : Type ℓ} where
  -- the element at k, with those below i filled in by f and the others d
  unfoldable pub entry : (ℕ → A) → A → ℕ → ℕ → A
  entry f d i k = cond (ltb k i) (f k) d

  pub entry_at : (f : ℕ → A) (d : A) (i k : ℕ) → k < i → entry f d i k ≡ f k
  unfolding entry
  entry_at f d i k h = rw (lt-ltb k i h)

  pub entry_past : (f : ℕ → A) (d : A) (i k : ℕ) → i ≤ k → entry f d i k ≡ d
  unfolding entry
  entry_past f d i k h = rw (le-ltb k i h)

  -- an array of n places, of which the first i are filled in
  unfoldable pub filling : ℕ → (ℕ → A) → A → ℕ → List A
  filling n f d i = tabulate n (entry f d i)

  -- one more
  pub filling_more : (n : ℕ) (f : ℕ → A) (d : A) (i : ℕ) → i < n → set (filling n f d i) i (f i) ≡ filling n f d (i + 1)
  unfolding filling
  filling_more n f d i h =
      is_tabulate (set (tabulate n (entry f d i)) i (f i)) n (entry f d (i + 1)) d
      (length-set (tabulate n (entry f d i)) i (f i) ∙ length_tabulate n (entry f d i))
      (λ k l. ⊎_elim (λ e. here k (eqb-true k i e)) (λ e. other k l (eqb-false k i e)) (truth (eqb k i)))
    where
      at : ℕ → A
      at k = get_or (set (tabulate n (entry f d i)) i (f i)) k d

      here : (k : ℕ) → k ≡ i → at k ≡ entry f d (i + 1) k
      here k q =
          ap at q
          ∙ get_or-set_same (tabulate n (entry f d i)) i (f i) d (rw (length_tabulate n (entry f d i)) h)
          ∙ sym (ap (entry f d (i + 1)) q ∙ entry_at f d (i + 1) i (omega arith))

      other : (k : ℕ) → k < n → ¬ (k ≡ i) → at k ≡ entry f d (i + 1) k
      other k l m =
          get_or-set_other (tabulate n (entry f d i)) i k (f i) d m
          ∙ get_d_tabulate n (entry f d i) k d l
          ∙ ⊎_elim (λ a. let b = ltb-true k i a in entry_at f d i k b ∙ sym (entry_at f d (i + 1) k (omega arith)))
          (λ a. let b = ltb-false k i a in entry_past f d i k b ∙ sym (entry_past f d (i + 1) k (omega arith)))
          (truth (ltb k i))

  -- one that is the same in any case
  pub filling_same : (n : ℕ) (f : ℕ → A) (d : A) (i : ℕ) → f i ≡ d → filling n f d i ≡ filling n f d (i + 1)
  unfolding filling entry
  filling_same n f d i e =
      tabulate_cong n (entry f d i) (entry f d (i + 1))
      (λ k l.
      ⊎_elim (λ a. let b = ltb-true k i a in entry_at f d i k b ∙ sym (entry_at f d (i + 1) k (omega arith)))
      (λ a.
      let b = ltb-false k i a in
      entry_past f d i k b
      ∙ ⊎_elim (λ q. let s = eqb-true k i q in sym (entry_at f d (i + 1) k (omega arith) ∙ ap f s ∙ e))
      (λ q. let s = eqb-false k i q in sym (entry_past f d (i + 1) k (omega arith)))
      (truth (eqb k i)))
      (truth (ltb k i)))

  -- what is filled in is the list of a rule
  pub filling_is : (n i : ℕ) (f : ℕ → A) (d : A) (g : ℕ → A) → ((k : ℕ) → k < n → k < i → f k ≡ g k)
      → ((k : ℕ) → k < n → i ≤ k → d ≡ g k) → filling n f d i ≡ tabulate n g
  unfolding filling
  filling_is n i f d g below past =
      tabulate_cong n (entry f d i) g
      (λ k l.
      ⊎_elim (λ a. let b = ltb-true k i a in entry_at f d i k b ∙ below k l b)
      (λ a. let b = ltb-false k i a in entry_past f d i k b ∙ past k l b)
      (truth (ltb k i)))
