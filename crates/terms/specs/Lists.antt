-- Parts of a list: a list made by a rule, the part that starts at a place, and the list with a part put in.
-- Assumes nothing.
use Rattle.std.specs.Prelude.{ℕ, zero, suc, ◌+◌, Bool, true, not, ◌&&◌, List, [], ◌∷◌, ◌++◌, eqb, length, take, drop}

module _ {ℓ} {A : Type ℓ} where
  -- the n elements f 0, f 1, ..
  unfoldable pub tabulate : ℕ → (ℕ → A) → List A
  tabulate zero f = []
  tabulate (suc n) f = f zero ∷ tabulate n (λ i. f (suc i))

  -- the part of l that starts at a place, of this many elements
  unfoldable pub part : ℕ → ℕ → List A → List A
  part at size l = take size (drop at l)

  -- l with the elements of b in the place of those from a place on
  unfoldable pub put : ℕ → List A → List A → List A
  put at b l = take at l ++ (b ++ drop (at + length b) l)

  -- whether p holds of every element
  unfoldable pub every : (A → Bool) → List A → Bool
  every p [] = true
  every p (a ∷ l) = p a && every p l

-- whether x is one of the numbers
unfoldable pub among : List ℕ → ℕ → Bool
among l x = not (every (λ a. not (eqb a x)) l)

-- the list after the changes of f 0, f 1, .. f (n - 1), in this order
unfoldable pub changes : ℕ → (ℕ → List ℕ → List ℕ) → List ℕ → List ℕ
changes zero f l = l
changes (suc n) f l = f n (changes n f l)
