-- Laws of lists of rows: accepted means that every test failed, which row gives the number, and what comes behind rows that all failed.
-- Assumes nothing.
use Prim.Native.Nat.{ℕ}
use mathlib.Core.Bool.{Bool, true, false, cond, not}
use mathlib.Core.List.{List, [], ◌∷◌, ◌++◌}
use mathlib.Core.Logic.{◌⊎◌, inl, inr}
use mathlib.Core.Path.{◌≡◌, refl, ◌∙◌}
use borrow.Author.Tests.{eqb-false, not-true}
use lib.Dec.{eqb}
use Rattle.terms.specs.Lists.{every}
use Rattle.terms.specs.Reply.{Row, row, first_row}
use Rattle.terms.proofs.Rows.{and_left, and_right}

-- every test of the rows failed
unfoldable pub Failed : List Row → Type 0
Failed [] = Unit {0}
Failed (r ∷ rs) = (r.test ≡ false) × Failed rs

-- every row gives a number that p holds of
unfoldable pub giving : (ℕ → Bool) → List Row → Bool
giving p rs = every (λ r. p r.gives) rs

-- no row gives 0, which means accepted
abbrev pub numbered : List Row → Bool
numbered rs = giving (λ k. not (eqb k 0)) rs

-- where every test failed nothing is given
pub failed_zero : (rs : List Row) → Failed rs → first_row rs ≡ 0
unfolding Failed first_row
failed_zero [] f = refl
failed_zero (r ∷ rs) f = rw f.0 (failed_zero rs f.1)

-- and accepted means that every test failed
pub zero_failed : (rs : List Row) → numbered rs ≡ true → first_row rs ≡ 0 → Failed rs
unfolding Failed first_row giving every
zero_failed [] n e = tt
zero_failed (r ∷ rs) n e = go r.test refl (λ h. zero_failed rs (and_right (not (eqb r.gives 0)) _ n) h)
  where
    go : (t : Bool) → r.test ≡ t → (first_row rs ≡ 0 → Failed rs) → (r.test ≡ false) × Failed rs
    go true h rest = absurd (eqb-false r.gives 0 (not-true _ (and_left (not (eqb r.gives 0)) _ n)) (rw h at e))
    go false h rest = (h, rest (rw h at e))

-- the rows behind those that all failed, and the number of the first ones where these give one
pub first_row_behind : (xs ys : List Row) → Failed xs → first_row (xs ++ ys) ≡ first_row ys
unfolding Failed first_row
first_row_behind [] ys f = refl
first_row_behind (r ∷ xs) ys f = rw f.0 (first_row_behind xs ys f.1)

pub first_row_before : (xs ys : List Row) → ¬ (first_row xs ≡ 0) → first_row (xs ++ ys) ≡ first_row xs
unfolding first_row
first_row_before [] ys d = absurd (d refl)
first_row_before (r ∷ xs) ys d = go r.test d (λ h. first_row_before xs ys h)
  where
    go : (t : Bool) → ¬ (cond t r.gives (first_row xs) ≡ 0) → (¬ (first_row xs ≡ 0) → first_row (xs ++ ys) ≡ first_row xs)
        → cond t r.gives (first_row (xs ++ ys)) ≡ cond t r.gives (first_row xs)
    go true h rest = refl
    go false h rest = rest h

-- the row behind those that all failed, whose test holds, gives the number
pub first_row_at : (xs : List Row) (t : Bool) (k : ℕ) (ys : List Row) → Failed xs → t ≡ true → first_row (xs ++ (row t k ∷ ys)) ≡ k
unfolding first_row
first_row_at xs t k ys f e = first_row_behind xs (row t k ∷ ys) f ∙ rw e

-- two lists of rows that all failed
pub failed_both : (xs ys : List Row) → Failed xs → Failed ys → Failed (xs ++ ys)
unfolding Failed
failed_both [] ys f g = g
failed_both (r ∷ xs) ys f g = (f.0, failed_both xs ys f.1 g)

pub failed_first : (xs ys : List Row) → Failed (xs ++ ys) → Failed xs
unfolding Failed
failed_first [] ys f = tt
failed_first (r ∷ xs) ys f = (f.0, failed_first xs ys f.1)

pub failed_second : (xs ys : List Row) → Failed (xs ++ ys) → Failed ys
unfolding Failed
failed_second [] ys f = f
failed_second (r ∷ xs) ys f = failed_second xs ys f.1

-- what is given is nothing, or a number of one of the rows
pub given : (p : ℕ → Bool) (rs : List Row) → giving p rs ≡ true → (first_row rs ≡ 0) ⊎ (p (first_row rs) ≡ true)
unfolding first_row giving every
given p [] n = inl refl
given p (r ∷ rs) n = go r.test (given p rs (and_right (p r.gives) _ n))
  where
    go : (t : Bool) → (first_row rs ≡ 0) ⊎ (p (first_row rs) ≡ true)
        → (cond t r.gives (first_row rs) ≡ 0) ⊎ (p (cond t r.gives (first_row rs)) ≡ true)
    go true rest = inr (and_left (p r.gives) _ n)
    go false rest = rest
