-- What is added in a stripe: any group in which every element is its own inverse. Bytes under exclusive or are one.
-- Assumes nothing.
use Rattle.std.specs.Prelude.{ℕ, zero, suc, cond, ◌≡◌, eqb}

pub record Group : Type 1 where
  pub carrier : Type 0
  pub nought : carrier
  pub add : carrier → carrier → carrier
  pub add_assoc : (a b c : carrier) → add (add a b) c ≡ add a (add b c)
  pub add_comm : (a b : carrier) → add a b ≡ add b a
  pub add_nought : (a : carrier) → add a nought ≡ a
  pub add_self : (a : carrier) → add a a ≡ nought

-- the sum of f at the numbers below n
unfoldable pub sum_to : (G : Group) → ℕ → (ℕ → G.carrier) → G.carrier
sum_to G zero f = G.nought
sum_to G (suc n) f = G.add (sum_to G n f) (f n)

-- f at all numbers but x
unfoldable pub others : (G : Group) → ℕ → (ℕ → G.carrier) → ℕ → G.carrier
others G x f p = cond (eqb p x) G.nought (f p)
