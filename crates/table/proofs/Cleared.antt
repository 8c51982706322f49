-- A table whose first records are free.
-- Assumes nothing.
use Prim.Native.Nat.{ℕ, zero, suc, ◌≤◌}
use mathlib.Core.List.{List, [], ◌∷◌}
use mathlib.Core.Path.{◌≡◌, refl, ap, ◌∙◌}
use native.Mathlib.Nat.{le_antisymm}
use lib.ListN.{length, set, replicate}
use Rattle.record.specs.Life.{free}
use Rattle.record.specs.declared.Record.{Record}

-- the list with its first records free
pub cleared : ℕ → List Record → List Record
cleared zero l = l
cleared (suc k) [] = []
cleared (suc k) (r ∷ l) = free ∷ cleared k l

pub cleared_zero : (l : List Record) → cleared zero l ≡ l
unfolding cleared
cleared_zero l = refl

cleared_nil : (k : ℕ) → cleared k [] ≡ []
unfolding cleared
cleared_nil zero = refl
cleared_nil (suc k) = refl

pub cleared_length : (k : ℕ) (l : List Record) → length (cleared k l) ≡ length l
unfolding cleared
cleared_length zero l = refl
cleared_length (suc k) [] = refl
cleared_length (suc k) (r ∷ l) = ap suc (cleared_length k l)

pub cleared_set : (k : ℕ) (l : List Record) → set (cleared k l) k free ≡ cleared (suc k) l
unfolding cleared
cleared_set k [] = ap (λ (l : List Record). set l k free) (cleared_nil k)
cleared_set zero (r ∷ l) = refl
cleared_set (suc k) (r ∷ l) = ap (λ (t : List Record). free ∷ t) (cleared_set k l)

cleared_all : (l : List Record) → cleared (length l) l ≡ replicate (length l) free
unfolding cleared
cleared_all [] = refl
cleared_all (r ∷ l) = ap (λ (t : List Record). free ∷ t) (cleared_all l)

pub cleared_end : (k : ℕ) (l : List Record) → k ≤ length l → length l ≤ k → cleared k l ≡ replicate (length l) free
cleared_end k l below above = ap (λ (j : ℕ). cleared j l) (le_antisymm below above) ∙ cleared_all l
