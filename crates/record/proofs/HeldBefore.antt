-- Whether one of the first records holds a stripe, asked of the list that tells it.
-- Assumes nothing.
use Rattle.std.proofs.Common.{◌≡◌, ℕ, zero, suc, ◌≤◌, Bool, true, false, not, ◌&&◌, ◌||◌, eqb, List, length, get_or, take, refl, sym, ap, ◌∙◌, add-one, ◌<◌, eq-eqb, arith}
use Rattle.std.specs.List.{list_any}
use Rattle.std.proofs.lemmas.List.Folds.{list_any_more, list_any_at}
use Rattle.terms.specs.Sets.{all_below}
use Rattle.record.specs.Seen.{held_before}
use Rattle.record.specs.declared.Survey.{Survey}

not_both : (a b : Bool) → not (a && not b) ≡ (not a || b)
not_both true true = refl
not_both true false = refl
not_both false b = refl

any_below : (xs : List ℕ) (s i : ℕ) → i ≤ length xs → not (all_below i (λ j. not (eqb (get_or xs j 0) s))) ≡ list_any (λ y. eqb y s) (take i xs)
unfolding all_below
any_below xs s zero h = refl
any_below xs s (suc i) h =
    not_both (all_below i (λ j. not (eqb (get_or xs j 0) s))) (eqb (get_or xs i 0) s)
    ∙ ap (λ (b : Bool). b || eqb (get_or xs i 0) s) (any_below xs s i (omega arith))
    ∙ sym (rw add-one at (list_any_more (λ y. eqb y s) xs i 0 (omega arith)))

pub held_take : (v : Survey) (s i : ℕ) → i ≤ length v.held → held_before v s i ≡ list_any (λ y. eqb y s) (take i v.held)
unfolding held_before
held_take v s i h = any_below v.held s i h

-- one that is seen among them holds it
pub held_one : (xs : List ℕ) (s j : ℕ) → j < length xs → get_or xs j 0 ≡ s → list_any (λ y. eqb y s) xs ≡ true
held_one xs s j h e = list_any_at (λ y. eqb y s) xs j 0 h (eq-eqb (get_or xs j 0) s e)
