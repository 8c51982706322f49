-- Laws of the decimal text: of a number of 64 bits it is what std prints, and so what std's lemmas say of that holds of it.
-- Assumes nothing.
use Rattle.std.proofs.Common.{ℕ, zero, suc, ◌+◌, ◌/◌, ◌%◌, ◌≤◌, ◌<◌, ◌^◌, ◌≡◌, refl, sym, ap, ◌∙◌, Bool, true, false, cond, List, [], ◌∷◌, ◌++◌, length, rules, arith}
use lib.Dec.{ltb, eqb}
use borrow.Author.Tests.{lt-ltb, eqb-true, eq-eqb}
use Rattle.std.specs.Fmt as printing
use Rattle.std.proofs.lemmas.Fmt as prints
use Rattle.std.proofs.lemmas.Fmt.{AppendsLastDigit}
use Rattle.terms.proofs.Rows.{and_left, and_right, and_both, true≢false}
use Rattle.text.specs.Decimal.{digit, decimal_to, decimal, same}

-- below ten: the digit, whatever the bound
to_small : (k n : ℕ) → n < 10 → decimal_to k n ≡ digit n ∷ []
unfolding decimal_to
to_small zero n h = refl
to_small (suc k) n h = rw lt-ltb

-- any bound gives the same text
to_enough : (k j n : ℕ) → n ≤ k → n ≤ j → decimal_to k n ≡ decimal_to j n
unfolding decimal_to
to_enough zero j n h g = sym (to_small j n (omega arith))
to_enough (suc k) zero n h g = to_small (suc k) n (omega arith)
to_enough (suc k) (suc j) n h g =
    ap (λ (l : List ℕ). cond (ltb n 10) (digit n ∷ []) (l ++ (digit (n % 10) ∷ [])))
    (to_enough k j (n / 10) (omega arith) (omega arith))

-- the text grows at its end, as std asks
appends : AppendsLastDigit decimal_to
unfolding decimal_to
appends = search rules

-- what std prints of a number is its text
pub printed : (n : ℕ) → n < 2 ^ 64 → printing.decimal n ≡ decimal n
unfolding decimal
printed n h =
    sym (prints.decimal_from_appends decimal_to appends (n + 1) n h (prints.length-decimal-le_succ n h)) ∙ to_enough (n + 1) n n (omega arith) (omega arith)

-- a number below ten is its digit
pub decimal_small : (n : ℕ) → n < 10 → decimal n ≡ digit n ∷ []
unfolding decimal
decimal_small n h = to_small n n h

-- two numbers with the same text are the same
pub decimal_injective : (m n : ℕ) → m < 2 ^ 64 → n < 2 ^ 64 → decimal m ≡ decimal n → m ≡ n
decimal_injective m n h g e = prints.decimal_injective m n h g (printed m h ∙ e ∙ sym (printed n g))

-- how long a text is
pub decimal_length_pos : (n : ℕ) → n < 2 ^ 64 → 0 < length (decimal n)
decimal_length_pos n h = omega (arith, prints.decimal_nonempty n h, ap length (printed n h))

pub decimal_length : (n : ℕ) → n < 10000 → length (decimal n) ≤ 4
decimal_length n h = omega (arith, prints.length-decimal-le 4 n (omega arith) h (omega arith), ap length (printed n (omega arith)))

-- the test of two texts tells what it says
pub same_true : (l m : List ℕ) → same l m ≡ true → l ≡ m
unfolding same
same_true [] [] e = refl
same_true [] (b ∷ m) e = true≢false (sym e)
same_true (a ∷ l) [] e = true≢false (sym e)
same_true (a ∷ l) (b ∷ m) e =
    let h = eqb-true a b (and_left (eqb a b) (same l m) e) in
    let t = same_true l m (and_right (eqb a b) (same l m) e) in
    cc

pub same_self : (l : List ℕ) → same l l ≡ true
unfolding same
same_self [] = refl
same_self (a ∷ l) = and_both _ _ (eq-eqb a a refl) (same_self l)

-- a test that cannot hold fails
pub never : (b : Bool) → (b ≡ true → ⊥) → b ≡ false
never true h = absurd (h refl)
never false h = refl
