-- The decimal text of a number, without leading zeros. A text is a list of ASCII codes.
-- Assumes nothing.
use Rattle.std.specs.Prelude.{ℕ, zero, suc, ◌+◌, ◌/◌, ◌%◌, ◌<◌, ◌≡◌, Bool, true, false, Option, Some, cond, ◌&&◌, List, [], ◌∷◌, ◌++◌, ltb, eqb}

-- the code of the digit d, from `0` to `9`
abbrev pub digit : ℕ → ℕ
digit d = 48 + d

-- the decimal text of n, where n is at most k: below ten its digit, and otherwise the text of its tenth and then its last digit
unfoldable pub decimal_to : ℕ → ℕ → List ℕ
decimal_to zero n = digit n ∷ []
decimal_to (suc k) n = cond (ltb n 10) (digit n ∷ []) (decimal_to k (n / 10) ++ (digit (n % 10) ∷ []))

-- the decimal text of n
unfoldable pub decimal : ℕ → List ℕ
decimal n = decimal_to n n

-- whether two texts are the same
unfoldable pub same : List ℕ → List ℕ → Bool
same [] [] = true
same [] (b ∷ m) = false
same (a ∷ l) [] = false
same (a ∷ l) (b ∷ m) = eqb a b && same l m

-- what a reader of numbers answers of a text: the number from 1 to 9,999 of which it is the decimal text, if it is of one
pub record Reads (l : List ℕ) (r : Option ℕ) : Type 0 where
  pub some : (n : ℕ) → r ≡ Some n → 0 < n
  pub small : (n : ℕ) → r ≡ Some n → n < 10000
  pub text : (n : ℕ) → r ≡ Some n → l ≡ decimal n
  pub only : (m : ℕ) → 0 < m → m < 10000 → l ≡ decimal m → r ≡ Some m
