-- Laws of tests and of tables of rows: a conjunction taken apart and put together, and which row gives the number.
-- Assumes nothing.
use Prim.Native.Nat.{ℕ}
use mathlib.Core.Bool.{Bool, true, false, cond, not, ◌&&◌, ◌||◌}
use mathlib.Core.List.{List, ◌∷◌}
use mathlib.Core.Logic.{◌⊎◌, inl, inr}
use mathlib.Core.Path.{◌≡◌, refl, sym, ap}
use native.Mathlib.Omega.{arith}
use Rattle.terms.specs.Reply.{Row, row, first_row}

pub true≢false : {X : Type 0} → true ≡ false → X
true≢false e = absurd (let z : ◌≡◌ {A = ℕ} 0 1 = cc in omega arith)

pub and_left : (a b : Bool) → (a && b) ≡ true → a ≡ true
and_left true b e = refl
and_left false b e = e

pub and_right : (a b : Bool) → (a && b) ≡ true → b ≡ true
and_right true b e = e
and_right false b e = true≢false (sym e)

pub and_both : (a b : Bool) → a ≡ true → b ≡ true → (a && b) ≡ true
and_both a b p q = rw (p, q)

-- a conjunction that fails: one of the two fails
pub and_false_cases : (a b : Bool) → (a && b) ≡ false → (a ≡ false) ⊎ (b ≡ false)
and_false_cases true b e = inr e
and_false_cases false b e = inl refl

pub or_cases : (a b : Bool) → (a || b) ≡ true → (a ≡ true) ⊎ (b ≡ true)
or_cases true b e = inl refl
or_cases false b e = inr e

pub or_false_left : (a b : Bool) → (a || b) ≡ false → a ≡ false
or_false_left true b e = e
or_false_left false b e = refl

pub or_false_right : (a b : Bool) → (a || b) ≡ false → b ≡ false
or_false_right true b e = true≢false e
or_false_right false b e = e

-- an implication as a disjunction
pub or_not_elim : (a b : Bool) → (not a || b) ≡ true → a ≡ true → b ≡ true
or_not_elim true b e p = e
or_not_elim false b e p = true≢false (sym p)

pub or_not_intro : (a b : Bool) → (a ≡ true → b ≡ true) → (not a || b) ≡ true
or_not_intro true b h = h refl
or_not_intro false b h = refl

-- a test either holds or fails
pub truth : (a : Bool) → (a ≡ true) ⊎ (a ≡ false)
truth true = inl refl
truth false = inr refl

-- a row whose test fails is passed over
pub first_row_skip : (t : Bool) (k : ℕ) (rs : List Row) → t ≡ false → first_row (row t k ∷ rs) ≡ first_row rs
unfolding first_row
first_row_skip t k rs e = ap (λ (u : Bool). cond u k (first_row rs)) e
