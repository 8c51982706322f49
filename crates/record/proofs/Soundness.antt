-- What a sound record that is not free allows: an open one has a ready step, and one more step can be counted.
-- Assumes nothing.
use Prim.Native.Nat.{ℕ, ◌+◌, ◌*◌, ◌≤◌}
use mathlib.Core.Bool.{true, false, not, ◌&&◌}
use mathlib.Core.List.{List}
use mathlib.Core.Logic.{⊎_elim}
use mathlib.Core.Path.{◌≡◌, ap, ◌∙◌}
use native.Mathlib.Omega.{arith}
use borrow.Author.Tests.{ltb-true, ltb-false, lt-ltb, leb-true, not-true}
use lib.Dec.{ltb, leb}
use lib.ListN.{length, get_or, get_or-eq_default}
use Rattle.terms.proofs.Lists.{every_elim}
use Rattle.terms.proofs.Rows.{truth, and_left, and_right, or_cases}
use Rattle.terms.specs.Lists.{every}
use Rattle.geometry.specs.declared.State.{State}
use Rattle.graph.proofs.Laws.{progress}
use Rattle.graph.specs.Asked.{few_units}
use Rattle.graph.specs.Order.{ready, complete}
use Rattle.record.specs.Asked.{few_in, can_count}
use Rattle.record.specs.Life.{free, is_free, is_open, is_finished, units_of, chosen_at}
use Rattle.record.specs.Sound.{lacks_none, right_count, sound_record, apart, sound}
use Rattle.record.specs.declared.Record.{Record}
use Rattle.record.proofs.Clauses.{Fit, fit, free_sound, open_not_free, finished_not_open}

module _ (st : State) (r : Record) where
  -- an open one lacks a step, and has counted at most 2n + 2
  open_lacks : Fit st r → is_open r ≡ true
      → (complete (units_of st) r.graph r.mask (chosen_at st r) r.done ≡ false) × (r.count ≤ 2 * units_of st + 2)
  unfolding right_count lacks_none
  open_lacks b o =
      let whole = complete (units_of st) r.graph r.mask (chosen_at st r) r.done in
      let most = 2 * units_of st + 2 in
      let k : (not whole && leb r.count most) ≡ true = rw o at b.right_count_law in
      (not-true whole (and_left (not whole) (leb r.count most) k), leb-true r.count most (and_right (not whole) (leb r.count most) k))

  -- a finished one has counted at most 2n + 3
  finished_counts : Fit st r → is_finished r ≡ true → r.count ≤ 2 * units_of st + 3
  unfolding right_count
  finished_counts b o =
      let most = 2 * units_of st + 3 in
      let k : (lacks_none st r && leb r.count most) ≡ true = rw (finished_not_open r o, o) at b.right_count_law in
      leb-true r.count most (and_right (lacks_none st r) (leb r.count most) k)

  -- an open one has a ready step
  pub sound_ready : sound_record st r ≡ true → is_open r ≡ true
      → (k : ℕ) × (ready (units_of st) r.graph r.mask (chosen_at st r) r.done k ≡ true)
  sound_ready s o =
      progress (units_of st) r.graph r.mask (chosen_at st r) r.done (open_lacks (fit st r s (open_not_free r o)) o).0

  pub few_elim : few_in st ≡ true → units_of st ≤ 7
  unfolding few_units
  few_elim e = leb-true (units_of st) 7 e

  -- one more step can be counted
  pub sound_counts : sound_record st r ≡ true → is_free r ≡ false → few_in st ≡ true → can_count r ≡ true
  unfolding can_count
  sound_counts s f n =
      let b = fit st r s f in
      let few = few_elim n in
      lt-ltb r.count 18446744073709551615
      (⊎_elim (λ o. let c = (open_lacks b o).1 in omega arith) (λ o. let c = finished_counts b o in omega arith) (or_cases (is_open r) (is_finished r) b.going))

-- ---- of a table

module _ (st : State) (l : List Record) (e : sound st l ≡ true) where
  -- each record is sound, and past the end the free one
  pub sound_record_law : (i : ℕ) → sound_record st (get_or l i free) ≡ true
  unfolding sound
  sound_record_law i =
      ⊎_elim
      (λ a. every_elim (sound_record st) l i free (and_left (every (sound_record st) l) (apart l) e) (ltb-true i (length l) a))
      (λ a. ap (sound_record st) (get_or-eq_default l free {n = i} (ltb-false i (length l) a)) ∙ free_sound st)
      (truth (ltb i (length l)))
