-- What the survey of a table tells of it: its length always, and where the table is looked at, whether it is sound, its lowest free record and the
-- stripes that it holds.
-- Assumes nothing.
use Prim.Native.Nat.{ℕ, ◌≤◌, ◌<◌}
use mathlib.Core.Bool.{Bool, true, not}
use mathlib.Core.List.{List}
use mathlib.Core.Logic.{⊎_elim}
use mathlib.Core.Path.{◌≡◌, sym, ap, ◌∙◌}
use native.Mathlib.Omega.{arith}
use borrow.Author.Tests.{ltb-true, ltb-false}
use lib.Dec.{ltb, eqb}
use lib.ListN.{length, get_or, get_or-eq_default}
use Rattle.terms.proofs.Lists.{length_tabulate, get_d_tabulate, every_elim, every_intro}
use Rattle.terms.proofs.Rows.{truth}
use Rattle.terms.specs.Lists.{tabulate, every, among}
use Rattle.terms.proofs.Sets.{all_below_elim, all_below_intro}
use Rattle.terms.specs.Sets.{all_below}
use Rattle.geometry.specs.declared.State.{State}
use Rattle.graph.proofs.Rules.{both_ways}
use Rattle.record.specs.Asked.{no_stripe, held_stripe}
use Rattle.record.specs.Life.{free}
use Rattle.record.specs.Seen.{held_before}
use Rattle.record.specs.Sound.{sound, holds, held, lowest_free}
use Rattle.record.specs.Survey.{looks_at, unseen, survey_of, held_in}
use Rattle.record.specs.declared.Record.{Record}
use Rattle.record.specs.declared.Survey.{Survey}
use Rattle.record.proofs.Surveyed.{looked, holds_stripe, looks_many, free_holds}

-- what holds at each place of a list holds of every element
all_every : {A : Type 0} (p : A → Bool) (l : List A) (d : A) → all_below (length l) (λ i. p (get_or l i d)) ≡ every p l
all_every p l d =
    both_ways (all_below (length l) (λ i. p (get_or l i d))) (every p l) (λ e. every_intro p l d (all_below_elim (length l) (λ i. p (get_or l i d)) e))
    (λ e. all_below_intro (length l) (λ i. p (get_or l i d)) (λ i h. every_elim p l i d e h))

module _ (st : State) (l : List Record) where
  pub survey_len : (survey_of st l).len ≡ length l
  unfolding survey_of unseen
  survey_len = ⊎_elim (λ e. rw e) (λ e. rw e) (truth (looks_at st l))

  module _ (looks : looks_at st l ≡ true) where
    pub survey_sound : (survey_of st l).sound ≡ sound st l
    unfolding survey_of
    survey_sound = rw looks

    pub survey_free : (survey_of st l).free ≡ lowest_free l
    unfolding survey_of
    survey_free = rw looks

    -- it holds the stripes that an open request holds
    pub survey_held : (s : ℕ) → s < no_stripe → held_in (survey_of st l) s ≡ held l s
    unfolding survey_of held_in among held
    survey_held s h =
        rw looks
        (ap not
        (both_ways (every (λ a. not (eqb a s)) eight) (every (λ r. not (holds s r)) l)
        (λ e.
        every_intro (λ r. not (holds s r)) l free
        (λ i k. sym (at i (omega (arith, small))) ∙ every_elim (λ a. not (eqb a s)) eight i 0 e (omega (arith, small, length_tabulate 8 (λ i. held_stripe (get_or l i free))))))
        (λ e.
        every_intro (λ a. not (eqb a s)) eight 0
        (λ i k.
        at i (omega (arith, length_tabulate 8 (λ i. held_stripe (get_or l i free))))
        ∙ ⊎_elim (λ a. every_elim (λ r. not (holds s r)) l i free e (ltb-true i (length l) a))
        (λ a. ap (λ (r : Record). not (holds s r)) (get_or-eq_default l free {n = i} (ltb-false i (length l) a)) ∙ free_holds s)
        (truth (ltb i (length l)))))))
      where
        eight : List ℕ
        eight = tabulate 8 (λ i. held_stripe (get_or l i free))

        small : length l ≤ 8
        small = (looked st (length l) (sym (looks_many st l) ∙ looks)).few_records

        at : (i : ℕ) → i < 8 → not (eqb (get_or eight i 0) s) ≡ not (holds s (get_or l i free))
        at i k =
            ap (λ (x : ℕ). not (eqb x s)) (get_d_tabulate 8 (λ i. held_stripe (get_or l i free)) i 0 k)
            ∙ ap not (holds_stripe (get_or l i free) s h)

-- all eight are asked where there are eight
pub held_eight : (v : Survey) (s : ℕ) → length v.held ≡ 8 → held_before v s 8 ≡ held_in v s
unfolding held_before held_in among
held_eight v s e =
    ap not (ap (λ (n : ℕ). all_below n (λ j. not (eqb (get_or v.held j 0) s))) (sym e) ∙ all_every (λ a. not (eqb a s)) v.held 0)
