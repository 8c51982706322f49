-- Reading an input: which of its bytes show that it is bad, and when it is a shape's text.
-- Assumes nothing.
use Prim.Native.Nat.{ℕ, suc, ◌+◌, ◌-◌, ◌≤◌, ◌<◌}
use mathlib.Core.Path.{◌≡◌, refl, sym, ap, ◌∙◌}
use mathlib.Core.Bool.{true, false}
use mathlib.Core.List.{List, [], ◌∷◌, ◌++◌}
use Rattle.std.specs.Prelude.{Option, Some, None}
use Rattle.std.proofs.lemmas.Option.{none-some, same_Some}
use native.Mathlib.Omega.{arith}
use lib.ListN.{length, get_or, take, drop, length-append}
use lib.Seq.{take_at, get_or_at, take-suc, take-length}
use Rattle.terms.proofs.Rows.{true≢false}
use Rattle.geometry.specs.Answers.{beyond_places}
use Rattle.geometry.proofs.Answered.{places_bounds}
use Rattle.text.specs.Decimal.{digit, decimal, Reads}
use Rattle.text.specs.Input.{space, newline, input_text, asks_for, shape, asked}
use Rattle.text.proofs.Decimal.{decimal_small, decimal_length_pos, decimal_length}
use Rattle.text.proofs.Asks.{input_bytes, asks_true, asks_text, asked_none, asked_shape}

-- a list and its last element
split_last : (t : List ℕ) (x : ℕ) → 0 < length t → get_or t (length t - 1) 0 ≡ x → t ≡ take (length t - 1) t ++ (x ∷ [])
split_last t x h e =
    let one : suc (length t - 1) ≡ length t = omega arith in
    sym (take-length t) ∙ ap (λ (k : ℕ). take k t) (sym one) ∙ take-suc t (length t - 1) 0 (omega arith) ∙ rw e

-- a list whose second and last elements are known
split_ends : (l : List ℕ) (x y : ℕ) → 3 ≤ length l → get_or l 1 0 ≡ x → get_or l (length l - 1) 0 ≡ y
    → l ≡ (get_or l 0 0 ∷ []) ++ (x ∷ take (length l - 1 - 2) (drop 2 l) ++ (y ∷ []))
split_ends [] x y h s n = absurd (omega arith)
split_ends (a ∷ []) x y h s n = absurd (omega arith)
split_ends (a ∷ b ∷ t) x y h s n =
    let size : suc (suc (length t)) - 1 - 2 ≡ length t - 1 = omega arith in
    let place : suc (suc (length t)) - 1 ≡ suc (suc (length t - 1)) = omega arith in
    let rest = split_last t y (omega arith) (rw place at n) in
    rw size (ap (λ (m : List ℕ). a ∷ b ∷ m) rest ∙ ap (λ (k : ℕ). a ∷ k ∷ (take (length t - 1) t ++ (y ∷ []))) s)

module _ (l : List ℕ) where
  -- the bytes between the space and the last
  abbrev middle : List ℕ
  middle = take (length l - 1 - 2) (drop 2 l)

  -- what is known of an input that asks for N and S
  record Known (N S : ℕ) : Type 0 where
    size : 4 ≤ length l
    most : length l ≤ 7
    first : get_or l 0 0 ∷ [] ≡ decimal N
    second : get_or l 1 0 ≡ space
    between : middle ≡ decimal S
    last : get_or l (length l - 1) 0 ≡ newline
    legal : beyond_places N S 5 ≡ false

  known : (N S : ℕ) → asks_for l N S ≡ true → Known N S
  known N S h =
      let (legal, text) = asks_true l N S h in
      let b = places_bounds N S 5 legal in
      let bytes : l ≡ digit N ∷ space ∷ decimal S ++ (newline ∷ []) = text ∙ input_bytes N S (omega arith) in
      let long : length l ≡ 2 + (length (decimal S) + 1) = ap length bytes ∙ ap (λ (k : ℕ). suc (suc k)) (length-append (decimal S) (newline ∷ [])) ∙ omega arith in
      let before : length l - 1 ≡ length (digit N ∷ space ∷ decimal S) = omega arith in
      let inner : length l - 1 - 2 ≡ length (decimal S) = omega arith in
      record {
        size = omega (arith, decimal_length_pos S (omega arith));
        most = omega (arith, decimal_length S (omega arith));
        first = ap (λ (x : List ℕ). get_or x 0 0 ∷ []) bytes ∙ sym (decimal_small N (omega arith));
        second = ap (λ (x : List ℕ). get_or x 1 0) bytes;
        between = rw (inner, bytes) (take_at (decimal S) (newline ∷ []) (length (decimal S)) refl);
        last = rw (before, bytes) (get_or_at (digit N ∷ space ∷ decimal S) newline [] 0 (length (digit N ∷ space ∷ decimal S)) refl);
        legal = legal;
      }

  -- no input that asks for a shape has more than seven bytes
  pub bad_long : 7 < length l → asked l ≡ None
  bad_long h = asked_none l λ N S a. let k = known N S a in omega arith

  pub bad_short : length l < 3 → asked l ≡ None
  bad_short h = asked_none l λ N S a. let k = known N S a in omega arith

  pub bad_space : ¬ (get_or l 1 0 ≡ space) → asked l ≡ None
  bad_space h = asked_none l λ N S a. h (known N S a).second

  pub bad_end : ¬ (get_or l (length l - 1) 0 ≡ newline) → asked l ≡ None
  bad_end h = asked_none l λ N S a. h (known N S a).last

  -- what is read of the two parts where it asks for a shape
  cards_read : {a : Option ℕ} → Reads (get_or l 0 0 ∷ []) a → (N S : ℕ) → asks_for l N S ≡ true → a ≡ Some N
  cards_read n N S h = let k = known N S h in let b = places_bounds N S 5 k.legal in n.only N (omega arith) (omega arith) k.first

  stripes_read : {a : Option ℕ} → Reads middle a → (N S : ℕ) → asks_for l N S ≡ true → a ≡ Some S
  stripes_read s N S h = let k = known N S h in let b = places_bounds N S 5 k.legal in s.only S (omega arith) (omega arith) k.between

  pub bad_cards : {a : Option ℕ} → Reads (get_or l 0 0 ∷ []) a → a ≡ None → asked l ≡ None
  bad_cards n e = asked_none l λ N S h. none-some _ (sym e ∙ cards_read n N S h)

  pub bad_stripes : {a : Option ℕ} → Reads middle a → a ≡ None → asked l ≡ None
  bad_stripes s e = asked_none l λ N S h. none-some _ (sym e ∙ stripes_read s N S h)

  pub bad_limits : (N S : ℕ) {a b : Option ℕ} → Reads (get_or l 0 0 ∷ []) a → Reads middle b → a ≡ Some N → b ≡ Some S → beyond_places N S 5 ≡ true → asked l ≡ None
  bad_limits N S n s e f h = asked_none l go
    where
      go : (M R : ℕ) → asks_for l M R ≡ true → ⊥
      go M R a =
          let k = known M R a in
          let p : N ≡ M = same_Some _ _ (sym e ∙ cards_read n M R a) in
          let q : S ≡ R = same_Some _ _ (sym f ∙ stripes_read s M R a) in
          true≢false (sym h ∙ (cc k.legal))

  pub good : (N S : ℕ) {a b : Option ℕ} → 3 ≤ length l → get_or l 1 0 ≡ space → get_or l (length l - 1) 0 ≡ newline → Reads (get_or l 0 0 ∷ []) a → Reads middle b
      → a ≡ Some N → b ≡ Some S → beyond_places N S 5 ≡ false → asked l ≡ Some (shape N S)
  unfolding input_text
  good N S h sp nl n s e f legal =
      let first : get_or l 0 0 ∷ [] ≡ decimal N = n.text N e in
      let between : middle ≡ decimal S = s.text S f in
      asked_shape l N S (asks_text l N S legal (split_ends l space newline h sp nl ∙ cc))
