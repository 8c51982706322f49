-- Sound tables as facts: of each record, of open records' stripes, and of the table after one record is replaced.
-- Assumes nothing.
use Prim.Native.Nat.{ℕ, ◌<◌}
use mathlib.Core.Bool.{Bool, true, false, not, ◌&&◌, ◌||◌}
use mathlib.Core.List.{List}
use mathlib.Core.Logic.{◌⊎◌, inl, inr}
use mathlib.Core.Path.{◌≡◌, refl, sym, ap, ◌∙◌}
use borrow.Author.Tests.{eqb-true, eqb-false, eq-eqb, ne_eqb, not-true, not-false}
use lib.Dec.{eqb}
use lib.ListN.{length, get_or}
use Rattle.terms.specs.Lists.{every}
use Rattle.terms.proofs.Lists.{every_elim, every_intro}
use Rattle.terms.proofs.Rows.{true≢false, and_left, and_right, and_both, or_cases, truth}
use Rattle.terms.proofs.Sets.{all_below_elim, all_below_intro}
use Rattle.geometry.specs.declared.State.{State}
use Rattle.record.specs.Life.{free, is_open}
use Rattle.record.specs.Sound.{sound_record, clash, apart, sound, holds, held}
use Rattle.record.specs.declared.Record.{Record}

-- no two open records share a stripe
pub record Sound (st : State) (l : List Record) : Type 0 where
  pub each : (i : ℕ) → i < length l → sound_record st (get_or l i free) ≡ true
  pub alone : (i j : ℕ) → i < length l → j < length l → is_open (get_or l i free) ≡ true → is_open (get_or l j free) ≡ true
      → (get_or l i free).stripe ≡ (get_or l j free).stripe → i ≡ j

module _ (st : State) (l : List Record) where
  pub sound_elim : sound st l ≡ true → Sound st l
  unfolding sound apart clash
  sound_elim e =
      record {
        each = λ i h. every_elim (sound_record st) l i free (and_left (every (sound_record st) l) (apart l) e) h;
        alone = λ i j hi hj oi oj same.
            let row = all_below_elim (length l) _ (and_right (every (sound_record st) l) (apart l) e) i hi in
            go i j oi oj same (or_cases (eqb i j) _ (all_below_elim (length l) _ row j hj));
      }
    where
      go : (i j : ℕ) → is_open (get_or l i free) ≡ true → is_open (get_or l j free) ≡ true → (get_or l i free).stripe ≡ (get_or l j free).stripe
          → (eqb i j ≡ true) ⊎ (not (is_open (get_or l i free) && is_open (get_or l j free) && eqb (get_or l i free).stripe (get_or l j free).stripe) ≡ true)
          → i ≡ j
      go i j oi oj same (inl e) = eqb-true i j e
      go i j oi oj same (inr e) =
          let open-both : (is_open (get_or l i free) && is_open (get_or l j free) && eqb (get_or l i free).stripe (get_or l j free).stripe) ≡ true =
          rw (oi, oj, eq-eqb (get_or l i free).stripe (get_or l j free).stripe same) in
          true≢false (sym open-both ∙ not-true _ e)

  pub sound_intro : Sound st l → sound st l ≡ true
  unfolding sound apart clash
  sound_intro s =
      and_both (every (sound_record st) l) (apart l) (every_intro (sound_record st) l free s.each)
      (all_below_intro (length l) _
      (λ i hi. all_below_intro (length l) _ (λ j hj. go i j hi hj (truth (eqb i j)))))
    where
      differ : (i j : ℕ) → i < length l → j < length l → ¬ (i ≡ j) → (a b : Bool) → is_open (get_or l i free) ≡ a → is_open (get_or l j free) ≡ b
          → not (a && b && eqb (get_or l i free).stripe (get_or l j free).stripe) ≡ true
      differ i j hi hj d true true p q =
          ap not (ne_eqb (get_or l i free).stripe (get_or l j free).stripe (λ e. d (s.alone i j hi hj p q e)))
      differ i j hi hj d true false p q = refl
      differ i j hi hj d false b p q = refl

      go : (i j : ℕ) → i < length l → j < length l → (eqb i j ≡ true) ⊎ (eqb i j ≡ false)
          → (eqb i j || not (is_open (get_or l i free) && is_open (get_or l j free) && eqb (get_or l i free).stripe (get_or l j free).stripe)) ≡ true
      go i j hi hj (inl e) = rw e
      go i j hi hj (inr e) =
          rw e (differ i j hi hj (eqb-false i j e) (is_open (get_or l i free)) (is_open (get_or l j free)) refl refl)

-- ---- who holds a stripe

pub holds_not : (s : ℕ) (r : Record) → (is_open r ≡ true → ¬ (r.stripe ≡ s)) → holds s r ≡ false
unfolding holds
holds_not s r h = go (is_open r) refl
  where
    go : (t : Bool) → is_open r ≡ t → (t && eqb r.stripe s) ≡ false
    go true e = ne_eqb r.stripe s (h e)
    go false e = refl

pub holds_elim : (s : ℕ) (r : Record) → holds s r ≡ false → is_open r ≡ true → ¬ (r.stripe ≡ s)
unfolding holds
holds_elim s r e o f = true≢false (sym (and_both (is_open r) (eqb r.stripe s) o (eq-eqb r.stripe s f)) ∙ e)

module _ (l : List Record) (s : ℕ) where
  pub held_elim : held l s ≡ false → (i : ℕ) → i < length l → holds s (get_or l i free) ≡ false
  unfolding held
  held_elim e i h = not-true _ (every_elim (λ r. not (holds s r)) l i free (not-false _ e) h)

  pub held_intro : ((i : ℕ) → i < length l → holds s (get_or l i free) ≡ false) → held l s ≡ false
  unfolding held
  held_intro h = ap not (every_intro (λ r. not (holds s r)) l free (λ i b. ap not (h i b)))
