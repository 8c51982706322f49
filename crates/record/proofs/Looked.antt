-- What is found of a record that is not free, by the tests of one look: the clauses of soundness in their order, with the judgement of its done steps.
-- Assumes nothing.
use Prim.Native.Nat.{ℕ, ◌+◌, ◌*◌, ◌-◌}
use mathlib.Core.Bool.{Bool, true, false, cond, not, ◌&&◌}
use mathlib.Core.Logic.{⊎_elim}
use mathlib.Core.Path.{◌≡◌, refl, ap, ◌∙◌}
use lib.Dec.{leb, eqb}
use Rattle.terms.proofs.Rows.{truth}
use Rattle.geometry.specs.Placement.{filled, out_in}
use Rattle.geometry.specs.declared.State.{State}
use Rattle.graph.proofs.Forerunners.{judged_few}
use Rattle.graph.specs.Asked.{few_units, judged}
use Rattle.graph.specs.Choice.{choose}
use Rattle.graph.specs.declared.plan.Judged.{Judged}
use Rattle.record.specs.Asked.{sound_record_in}
use Rattle.record.specs.Life.{is_free, is_open, is_write, chosen_at}
use Rattle.record.specs.Look.{seen_as, found, nothing}
use Rattle.record.specs.Sound.{legal_record, legal_chosen, right_graph, right_steps, lacks_none, sound_record}
use Rattle.record.specs.declared.Look.{Look}
use Rattle.record.specs.declared.Record.{Record}
use Rattle.record.proofs.Clauses.{count_going}

-- the count of a record with so many units is right, where its steps lack none or lack some
abbrev pub counts : ℕ → Bool → Record → Bool
counts n whole r = cond (is_open r) (not whole && leb r.count (2 * n + 2)) (whole && leb r.count (2 * n + 3))

-- the tests of a record of n units whose done steps are judged so, in an array in which this card is missing in its stripe
abbrev pub passes : ℕ → ℕ → ℕ → ℕ → ℕ → Judged → Record → Bool
passes N S now n x j r =
    few_units n
    && (legal_record (seen_as N S 0 0) r
    && (legal_chosen (seen_as N 0 0 now) r
    && (eqb r.graph (choose n (is_write r) r.mask x) && (j.right && counts n j.whole r))))

four : (a b c d : Bool) → (a && b && c && d) ≡ (a && (b && (c && d)))
four true true c d = refl
four true false c d = refl
four false b c d = refl

module _ (N S layout now out : ℕ) (r : Record) (busy : is_free r ≡ false) where
  abbrev seen : State
  seen = seen_as N S layout now

  abbrev judgement : Judged
  judgement = judged (N - 1) r.graph r.mask (chosen_at seen r) r.done

  -- with few units, of a legal record
  legal_sound : few_units (N - 1) ≡ true → legal_record (seen_as N S 0 0) r ≡ true
      → sound_record_in seen r ≡ passes N S now (N - 1) (chosen_at seen r) judgement r
  unfolding sound_record_in sound_record legal_record legal_chosen out_in filled right_graph right_steps lacks_none
  legal_sound f l =
      rw (f, busy, l, judged_few (N - 1) r.graph r.mask (chosen_at seen r) r.done f, count_going seen r l) (four (legal_chosen seen r) (right_graph seen r) (right_steps seen r) (counts (N - 1) (lacks_none seen r) r))

  -- and where one of the two fails
  not_legal : few_units (N - 1) ≡ true → legal_record (seen_as N S 0 0) r ≡ false
      → sound_record_in seen r ≡ passes N S now (N - 1) (chosen_at seen r) judgement r
  unfolding sound_record_in sound_record legal_record
  not_legal f l = rw (f, busy, l) refl

  not_few : few_units (N - 1) ≡ false → sound_record_in seen r ≡ passes N S now (N - 1) (chosen_at seen r) judgement r
  unfolding sound_record_in
  not_few f = rw f refl

  sound_is : sound_record_in seen r ≡ passes N S now (N - 1) (chosen_at seen r) judgement r
  sound_is =
      ⊎_elim (λ f. ⊎_elim (legal_sound f) (not_legal f) (truth (legal_record (seen_as N S 0 0) r))) not_few (truth (few_units (N - 1)))

  found_is : few_units (N - 1) ≡ true
      → found seen r out ≡ record { sound = true; x = chosen_at seen r; out = out; steps = judgement.steps; reads = judgement.reads }
  unfolding found
  found_is f = rw (judged_few (N - 1) r.graph r.mask (chosen_at seen r) r.done f) refl

  -- what is found of it, by the tests
  pub looked_is : cond (sound_record_in seen r) (found seen r out) (nothing false)
      ≡ cond (passes N S now (N - 1) (chosen_at seen r) judgement r)
      (record { sound = true; x = chosen_at seen r; out = out; steps = judgement.steps; reads = judgement.reads })
      (nothing false)
  looked_is =
      ap (λ (b : Bool). cond b (found seen r out) (nothing false)) sound_is
      ∙ ⊎_elim
      (λ f. ap (λ (v : Look). cond (passes N S now (N - 1) (chosen_at seen r) judgement r) v (nothing false)) (found_is f))
      (λ f. rw f refl)
      (truth (few_units (N - 1)))
