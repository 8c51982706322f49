-- No two open records share a stripe: taken apart and put together.
-- Assumes nothing.
use Prim.Native.Nat.{ℕ, ◌<◌}
use mathlib.Core.Bool.{true, false, not, ◌||◌}
use mathlib.Core.Bool as Booleans
use mathlib.Core.List.{List}
use mathlib.Core.Logic.{⊎_elim}
use mathlib.Core.Path.{◌≡◌, sym, ◌∙◌}
use native.Mathlib.Omega.{arith}
use borrow.Author.Tests.{ltb-true, ltb-false, eqb-true, eqb-false, eq-eqb, not-true}
use lib.Dec.{ltb, eqb}
use lib.ListN.{length, get_or}
use Rattle.terms.proofs.Rows.{truth, or_cases}
use Rattle.terms.proofs.Sets.{all_below_elim, all_below_intro}
use Rattle.terms.specs.Sets.{all_below}
use Rattle.graph.proofs.Rules.{both_ways}
use Rattle.record.specs.Life.{free, is_open}
use Rattle.record.specs.Sound.{clash, apart}
use Rattle.record.specs.declared.Record.{Record}

pub eqb_sym : (a b : ℕ) → eqb a b ≡ eqb b a
eqb_sym a b = both_ways (eqb a b) (eqb b a) (λ e. eq-eqb b a (sym (eqb-true a b e))) (λ e. eq-eqb a b (sym (eqb-true b a e)))

pub clash_sym : (r q : Record) → clash r q ≡ clash q r
unfolding clash
clash_sym r q = rw (Booleans.and_comm (is_open r) (is_open q), eqb_sym r.stripe q.stripe)

module _ (l : List Record) where
  pub apart_elim : apart l ≡ true → (i j : ℕ) → i < length l → j < length l → ¬ (i ≡ j) → clash (get_or l i free) (get_or l j free) ≡ false
  unfolding apart
  apart_elim e i j h k n =
      let row = all_below_elim (length l) (λ i. all_below (length l) (λ j. eqb i j || not (clash (get_or l i free) (get_or l j free)))) e i h in
      let cell = all_below_elim (length l) (λ j. eqb i j || not (clash (get_or l i free) (get_or l j free))) row j k in
      ⊎_elim (λ q. absurd (n (eqb-true i j q))) (λ q. not-true (clash (get_or l i free) (get_or l j free)) q)
      (or_cases (eqb i j) (not (clash (get_or l i free) (get_or l j free))) cell)

  -- it is enough that no record clashes with an earlier one
  pub apart_intro : ((i j : ℕ) → i < length l → j < i → clash (get_or l i free) (get_or l j free) ≡ false) → apart l ≡ true
  unfolding apart
  apart_intro f =
      all_below_intro (length l) (λ i. all_below (length l) (λ j. eqb i j || not (clash (get_or l i free) (get_or l j free))))
      (λ i h.
      all_below_intro (length l) (λ j. eqb i j || not (clash (get_or l i free) (get_or l j free)))
      (λ j k.
      ⊎_elim (λ q. rw q)
      (λ q.
      let n = eqb-false i j q in
      let c : clash (get_or l i free) (get_or l j free) ≡ false =
      ⊎_elim (λ a. f i j h (ltb-true j i a))
      (λ a. clash_sym (get_or l i free) (get_or l j free) ∙ f j i k (let b = ltb-false j i a in omega arith))
      (truth (ltb j i)) in
      rw (q, c))
      (truth (eqb i j))))
