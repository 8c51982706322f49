-- What an input asks for, exactly: the answer is a shape where, and only where, the shape is within the limits and the input is its text.
-- Assumes nothing.
use Prim.Native.Nat.{ℕ, ◌<◌, ◌^◌}
use mathlib.Core.Path.{◌≡◌, sym, ap, ◌∙◌}
use mathlib.Core.Bool.{true, false, not}
use mathlib.Core.Logic.{⊎_elim, ◌↔◌}
use mathlib.Core.List.{List, [], ◌∷◌, ◌++◌, append_cancel_right}
use Rattle.std.specs.Prelude.{Some, None}
use Rattle.std.proofs.lemmas.Option.{none-some, same_Some}
use Rattle.text.specs.declared.input.Shape.{Shape}
use native.Mathlib.Omega.{arith}
use lib.Dec.{ltb}
use lib.ListN.{get_or, drop}
use borrow.Author.Tests.{lt-ltb, le-ltb, ltb-true, not-true}
use Rattle.terms.proofs.Sets.{lowest_is, lowest_none, lowest_holds}
use Rattle.terms.proofs.Rows.{and_left, and_right, and_both, truth}
use Rattle.geometry.specs.Answers.{beyond_places}
use Rattle.geometry.proofs.Answered.{places_bounds}
use Rattle.text.specs.Decimal.{digit, decimal, same}
use Rattle.text.specs.Input.{space, newline, input_text, asks_for, stripes_in, cards_in, shape, asked}
use Rattle.text.proofs.Decimal.{never, decimal_small, decimal_injective, same_true, same_self}

-- the input of a shape with fewer than ten cards, byte by byte
pub input_bytes : (N S : ℕ) → N < 10 → input_text N S ≡ digit N ∷ space ∷ decimal S ++ (newline ∷ [])
unfolding input_text
input_bytes N S h = rw (decimal_small N)

-- two shapes with the same input are the same
pub input_injective : (N S M R : ℕ) → N < 10 → M < 10 → S < 2 ^ 64 → R < 2 ^ 64 → input_text N S ≡ input_text M R → (N ≡ M) × (S ≡ R)
input_injective N S M R h g s r e =
    let same_bytes = sym (input_bytes N S h) ∙ e ∙ input_bytes M R g in (
      (let first : digit N ≡ digit M = ap (λ (l : List ℕ). get_or l 0 0) same_bytes in omega arith),
      decimal_injective S R s r (append_cancel_right (decimal S) (decimal R) (newline ∷ []) (ap (drop 2) same_bytes)),
    )

-- an input asks for a shape where the shape is within the limits and the input is its text
pub asks_true : (l : List ℕ) (N S : ℕ) → asks_for l N S ≡ true → (beyond_places N S 5 ≡ false) × (l ≡ input_text N S)
unfolding asks_for
asks_true l N S e = (not-true _ (and_left _ (same l (input_text N S)) e), same_true _ _ (and_right (not (beyond_places N S 5)) _ e))

pub asks_text : (l : List ℕ) (N S : ℕ) → beyond_places N S 5 ≡ false → l ≡ input_text N S → asks_for l N S ≡ true
unfolding asks_for
asks_text l N S e t = and_both _ _ (ap not e) (rw t (same_self (input_text N S)))

-- it asks for one shape at most
pub asks_once : (l : List ℕ) (N S M R : ℕ) → asks_for l N S ≡ true → asks_for l M R ≡ true → (N ≡ M) × (S ≡ R)
asks_once l N S M R h g =
    let (n, s) = asks_true l N S h in
    let (m, r) = asks_true l M R g in
    let b = places_bounds N S 5 n in
    let d = places_bounds M R 5 m in
    input_injective N S M R (omega arith) (omega arith) (omega arith) (omega arith) (sym s ∙ r)

-- the stripes that it asks for with N cards
stripes_none : (l : List ℕ) (N : ℕ) → ((S : ℕ) → asks_for l N S ≡ true → ⊥) → stripes_in l N ≡ 1025
unfolding stripes_in
stripes_none l N none = lowest_none 1025 (λ S. asks_for l N S) (λ S h. never _ (none S))

stripes_is : (l : List ℕ) (N S : ℕ) → asks_for l N S ≡ true → stripes_in l N ≡ S
unfolding stripes_in
stripes_is l N S h =
    let b = places_bounds N S 5 (asks_true l N S h).0 in
    lowest_is 1025 (λ R. asks_for l N R) S (omega arith) h (λ R less. never _ (λ g. let e = asks_once l N S N R h g in omega arith))

-- the cards that it asks for
cards_none : (l : List ℕ) → ((N S : ℕ) → asks_for l N S ≡ true → ⊥) → cards_in l ≡ 9
unfolding cards_in
cards_none l none = lowest_none 9 (λ N. ltb (stripes_in l N) 1025) (λ N h. le-ltb (stripes_in l N) 1025 (omega (arith, stripes_none l N (none N))))

cards_is : (l : List ℕ) (N S : ℕ) → asks_for l N S ≡ true → cards_in l ≡ N
unfolding cards_in
cards_is l N S h =
    let b = places_bounds N S 5 (asks_true l N S h).0 in
    lowest_is 9 (λ M. ltb (stripes_in l M) 1025) N (omega arith) (lt-ltb (stripes_in l N) 1025 (omega (arith, stripes_is l N S h)))
    (λ M less. le-ltb (stripes_in l M) 1025 (omega (arith, stripes_none l M (λ R g. let e = asks_once l N S M R h g in omega arith))))

-- where it asks for none, there is none
pub asked_none : (l : List ℕ) → ((N S : ℕ) → asks_for l N S ≡ true → ⊥) → asked l ≡ None
unfolding asked
asked_none l none = rw (cards_none l none)

-- where it asks for a shape, the answer is that shape
pub asked_shape : (l : List ℕ) (N S : ℕ) → asks_for l N S ≡ true → asked l ≡ Some (shape N S)
unfolding asked
asked_shape l N S h =
    let b = places_bounds N S 5 (asks_true l N S h).0 in
    let few : N < 9 = omega arith in
    rw (cards_is l N S h, stripes_is l N S h, lt-ltb N 9)

-- what is found is asked for
found_stripes : (l : List ℕ) (N : ℕ) → stripes_in l N < 1025 → asks_for l N (stripes_in l N) ≡ true
unfolding stripes_in
found_stripes l N h = lowest_holds 1025 (λ S. asks_for l N S) h

found_cards : (l : List ℕ) → cards_in l < 9 → ltb (stripes_in l (cards_in l)) 1025 ≡ true
unfolding cards_in
found_cards l h = lowest_holds 9 (λ N. ltb (stripes_in l N) 1025) h

-- where the answer is a shape, the input asks for it
shape_asked : (l : List ℕ) (N S : ℕ) → asked l ≡ Some (shape N S) → asks_for l N S ≡ true
unfolding asked
shape_asked l N S e = ⊎_elim some none (truth (ltb (cards_in l) 9))
  where
    some : ltb (cards_in l) 9 ≡ true → asks_for l N S ≡ true
    some t =
        let found : Some (shape (cards_in l) (stripes_in l (cards_in l))) ≡ Some (shape N S) = rw t at e in
        let same_shape = same_Some _ _ found in
        let n : cards_in l ≡ N = ap (λ (g : Shape). g.cards) same_shape in
        let s : stripes_in l (cards_in l) ≡ S = ap (λ (g : Shape). g.stripes) same_shape in
        rw (← n, ← s) (found_stripes l (cards_in l) (ltb-true _ _ (found_cards l (ltb-true _ _ t))))

    none : ltb (cards_in l) 9 ≡ false → asks_for l N S ≡ true
    none t =
        absurd (none-some _ (rw t at e))

-- the answer is a shape exactly where the shape is within the limits and the input is its text
pub asked_exactly : (l : List ℕ) (N S : ℕ) → (asked l ≡ Some (shape N S)) ↔ ((beyond_places N S 5 ≡ false) × (l ≡ input_text N S))
asked_exactly l N S = ((λ e. asks_true l N S (shape_asked l N S e)), (λ h. asked_shape l N S (asks_text l N S h.0 h.1)))
