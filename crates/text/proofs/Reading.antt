-- A number as std reads it: of a number's decimal text it reads the number.
-- Assumes nothing.
use Rattle.std.proofs.Common.{ℕ, ◌+◌, ◌<◌, ◌≡◌, refl, sym, ap, subst, ◌∙◌, Bool, true, false, List, [], ◌∷◌, Option, Some, None, Result, Ok, Err, Bor, get_or, map, length, arith}
use Rattle.std.specs.Str.Parse.{ParsesUnsigned}
use Rattle.std.proofs.lemmas.Fmt.{parse-decimal, decimal-digits_of, IsAscii-decimal}
use Rattle.std.proofs.lemmas.Option.{none-some, same_Some}
use Rattle.std.proofs.lemmas.Str.{IsUtf8-from_ascii}
use Rattle.std.specs.Bool.{then_some}
use Rattle.std.specs.Result.{MatchResult, result_ok}
use Rattle.std.specs.Str.{IsUtf8}
use Rattle.terms.proofs.Rows.{true≢false}
use Rattle.text.specs.Decimal.{decimal, Reads}
use Rattle.text.proofs.Decimal.{printed, decimal_length}

module _ (l : List ℕ) where
  -- a text of no number from 1 to 9,999
  pub reads_none : {r : Option ℕ} → r ≡ None → ((m : ℕ) → 0 < m → m < 10000 → l ≡ decimal m → ⊥) → Reads l r
  reads_none e none =
      record {
        some = λ n s. absurd (none-some _ (sym e ∙ s));
        small = λ n s. absurd (none-some _ (sym e ∙ s));
        text = λ n s. absurd (none-some _ (sym e ∙ s));
        only = λ m h g t. absurd (none m h g t);
      }

  -- a text is of none that is longer than theirs
  pub too_long : 4 < length l → Reads l None
  too_long h = reads_none refl (λ m g k t. let short = decimal_length m k in omega (arith, short, ap length t))

  -- nor where it begins with a sign: theirs begin with a digit
  pub signed : get_or l 0 0 ≡ 43 → Reads l None
  signed e =
      reads_none refl (λ m h k t.
      digit_first _
      (sym (ap (λ (x : List ℕ). get_or x 0 0) (t ∙ sym (printed m (omega arith)) ∙ decimal-digits_of m h (omega arith))) ∙ e))
    where
      digit_first : (ds : List ℕ) → get_or (map (λ d. 48 + d) ds) 0 0 ≡ 43 → ⊥
      digit_first [] q = omega arith
      digit_first (d ∷ ds) q = omega arith

  -- a number's text is one
  text_utf8 : (m : ℕ) → m < 10000 → l ≡ decimal m → IsUtf8 l
  text_utf8 m h e = subst IsUtf8 (printed m (omega arith) ∙ sym e) (IsUtf8-from_ascii _ (IsAscii-decimal m (omega arith)))

  -- bytes that are no text are of no number
  pub no_text : {E : Type 0} (Q : E → Type 0) (r : Result (Bor (List ℕ)) E) {o : Option (Bor (List ℕ))} {a : Option ℕ}
      → MatchResult r (λ s. (s.now ≡ l) × IsUtf8 l) (λ e. (IsUtf8 l → ⊥) × Q e) → o ≡ result_ok r → o ≡ None → a ≡ None → Reads l a
  no_text Q (Ok s) p e f g = absurd (none-some _ (sym f ∙ e))
  no_text Q (Err x) p e f g = reads_none g (λ m h k t. p.0 (text_utf8 m k t))

  -- and a text is what it is made of
  pub same_text : {E : Type 0} (Q : E → Type 0) (r : Result (Bor (List ℕ)) E) {o : Option (Bor (List ℕ))} {s : Bor (List ℕ)}
      → MatchResult r (λ s. (s.now ≡ l) × IsUtf8 l) Q → o ≡ result_ok r → o ≡ Some s → s.now ≡ l
  same_text Q (Ok t) p e f = ap (λ (b : Bor (List ℕ)). b.now) (same_Some _ _ (sym f ∙ e)) ∙ p.0
  same_text Q (Err x) p e f = absurd (none-some _ (sym e ∙ f))

  -- of a number's text std reads the number
  module _ {E : Type 0} (r : Result ℕ E) {t : List ℕ} {o : Option ℕ} (p : ParsesUnsigned 64 10 t r) (whole : t ≡ l) (e : o ≡ result_ok r) where
    parsed : (m : ℕ) → m < 10000 → l ≡ decimal m → o ≡ Some m
    parsed m h f = e ∙ ap result_ok (parse-decimal 64 m t r (omega arith) (omega arith) (whole ∙ f ∙ sym (printed m (omega arith))) p)

    -- where it reads none, there is none
    pub unread : {a : Option ℕ} → o ≡ None → a ≡ None → Reads l a
    unread f g = reads_none g (λ m h k t. none-some _ (sym f ∙ parsed m k t))

    module _ (n : ℕ) (f : o ≡ Some n) where
      -- nor where the number that it reads is not one from 1 to 9,999 whose text this is
      pub other_read : (0 < n → n < 10000 → l ≡ decimal n → ⊥) → Reads l None
      other_read wrong =
          reads_none refl (
          λ m h k t.
          let same : m ≡ n = same_Some _ _ (sym (parsed m k t) ∙ f) in
          wrong (omega arith) (omega arith) (t ∙ ap decimal same)
          )

      is_read : 0 < n → n < 10000 → l ≡ decimal n → Reads l (Some n)
      is_read h k t =
          record {
            some = λ m s. let same = same_Some _ _ s in omega arith;
            small = λ m s. let same = same_Some _ _ s in omega arith;
            text = λ m s. t ∙ ap decimal (same_Some _ _ s);
            only = λ m h k u. sym f ∙ parsed m k u;
          }

      -- so it is one where the number's own text is the text
      pub own_read : 0 < n → n < 10000 → {own : List ℕ} → own ≡ decimal n → (b : Bool) → (b ≡ true → own ≡ l) × (own ≡ l → b ≡ true) → {a : Option ℕ}
          → a ≡ then_some b n → Reads l a
      own_read h k t true is g = subst (Reads l) (sym g) (is_read h k (sym (is.0 refl) ∙ t))
      own_read h k t false is g = subst (Reads l) (sym g) (other_read (λ _ _ u. true≢false (sym (is.1 (t ∙ sym u)))))
