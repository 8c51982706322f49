-- What must come before each step, as a set.
-- Assumes nothing.
use Prim.Native.Nat.{ℕ, ◌+◌, ◌*◌, ◌^◌, ◌≤◌, ◌<◌}
use mathlib.Core.Bool.{Bool, true, false, cond, not, ◌&&◌}
use mathlib.Core.Logic.{⊎_elim}
use mathlib.Core.Path.{◌≡◌, refl, sym, ap, ◌∙◌}
use native.Mathlib.Omega.{arith}
use borrow.Author.Tests.{ltb-true, ltb-false, lt-ltb, eqb-true, eqb-false, eq-eqb, ne_eqb}
use lib.Dec.{ltb, eqb}
use Rattle.terms.specs.Sets.{bit, set_of}
use Rattle.terms.proofs.Bits.{bit_set_of, bit_beyond, set_of_bound}
use Rattle.terms.proofs.Rows.{truth}
use Rattle.graph.specs.Asked.{few_units, step_set, before_set, part_of, needed_by, ready_by, judged}
use Rattle.graph.specs.Order.{any_read, read_of, is_sum, before, cleared, ready, complete, closed}
use Rattle.graph.specs.Steps.{Step, wr, step_of, step_numbers, by_graph, reads, member}
use Rattle.graph.proofs.Graphs.{Graph, plain, degraded, small, reconstruct, large, failed, nought, above, graph, by_graph_above}
use Rattle.graph.proofs.Numbers.{Numbered, reading, summing, writing, numbered, step_of_read, step_of_sum, step_of_write, step_of_above}
use Rattle.graph.proofs.Rules.{set_of_none, set_of_one, set_of_widen, subset_test}

-- ---- which numbers are the graph's reads, the exclusive or, one position's read

module _ (n g mask x : ℕ) where
  pub any_read_at : (j : ℕ) → j ≤ n → any_read n g mask x (step_of n j) ≡ reads n g mask x j
  unfolding any_read
  any_read_at j h = rw (step_of_read n j h)

  pub any_read_past : (j : ℕ) → Numbered n j → n < j → any_read n g mask x (step_of n j) ≡ false
  unfolding any_read
  any_read_past j (reading p h e) l = absurd (omega arith)
  any_read_past j (summing e) l = rw (e, step_of_sum n)
  any_read_past j (writing p h e) l = rw (e, step_of_write n p h)

  pub all_reads : set_of (n + 1) (reads n g mask x) ≡ set_of (step_numbers n) (λ j. any_read n g mask x (step_of n j))
  all_reads =
      set_of_widen (n + 1) (step_numbers n) (reads n g mask x) (λ j. any_read n g mask x (step_of n j)) (omega arith)
      (λ j h. sym (any_read_at j (omega arith)))
      (λ j l h. any_read_past j (numbered n j h) (omega arith))

pub sum_at_law : (n j : ℕ) → Numbered n j → is_sum (step_of n j) ≡ eqb j (n + 1)
unfolding is_sum
sum_at_law n j (reading p h e) = rw (e, step_of_read n p h) (sym (ne_eqb p (n + 1) (λ q. omega arith)))
sum_at_law n j (summing e) = rw (e, step_of_sum n) (sym (eq-eqb (n + 1) (n + 1) refl))
sum_at_law n j (writing p h e) = rw (e, step_of_write n p h) (sym (ne_eqb (n + 2 + p) (n + 1) (λ q. omega arith)))

pub read_at_law : (n p j : ℕ) → p ≤ n → Numbered n j → read_of p (step_of n j) ≡ eqb j p
unfolding read_of
read_at_law n p j l (reading q h e) = rw (e, step_of_read n q h)
read_at_law n p j l (summing e) = rw (e, step_of_sum n) (sym (ne_eqb (n + 1) p (λ q. omega arith)))
read_at_law n p j l (writing q h e) = rw (e, step_of_write n q h) (sym (ne_eqb (n + 2 + q) p (λ r. omega arith)))

-- ---- what must come before

module _ (n g mask x : ℕ) where
  pub before_read : (k : ℕ) → k ≤ n → before_set n g mask x k ≡ 0
  unfolding before_set before
  before_read k h = rw (step_of_read n k h) (set_of_none (step_numbers n) (λ j. false) (λ j l. refl))

  pub before_none : (k : ℕ) → step_numbers n ≤ k → before_set n g mask x k ≡ 0
  unfolding before_set before
  before_none k h = rw (step_of_above n k h) (set_of_none (step_numbers n) (λ j. false) (λ j l. refl))

  pub before_sum : before_set n g mask x (n + 1) ≡ set_of (n + 1) (reads n g mask x)
  unfolding before_set before
  before_sum = rw (step_of_sum n) (sym (all_reads n g mask x))

  pub before_parity : before_set n g mask x (2 * n + 2) ≡ 2 ^ (n + 1)
  unfolding before_set before
  before_parity =
      let e : 2 * n + 2 ≡ n + 2 + n = omega arith in
      rw (e, step_of_write n n (omega arith), eq-eqb n n refl)
      (set_of_one (step_numbers n) (n + 1) (λ j. is_sum (step_of n j)) (omega arith) (λ j l. sum_at_law n j (numbered n j l)))

pub before_small : (n mask x p : ℕ) → p < n → before_set n 3 mask x (n + 2 + p) ≡ 2 ^ p
unfolding before_set before by_graph
before_small n mask x p h =
    rw (step_of_write n p (omega arith), ne_eqb p n (λ q. omega arith))
    (set_of_one (step_numbers n) p (λ j. read_of p (step_of n j)) (omega arith) (λ j l. read_at_law n p j (omega arith) (numbered n j l)))

pub before_reconstruct : (n mask x p : ℕ) → p < n → before_set n 4 mask x (n + 2 + p) ≡ set_of (n + 1) (reads n 4 mask x)
unfolding before_set before by_graph
before_reconstruct n mask x p h =
    rw (step_of_write n p (omega arith), ne_eqb p n (λ q. omega arith)) (sym (all_reads n 4 mask x))

-- in the other graphs nothing need come before a unit's write
pub before_others : (n g mask x p : ℕ) (t : Step) → Graph g → ¬ (g ≡ 3) → ¬ (g ≡ 4) → p < n → before n g mask x (wr p) t ≡ false
unfolding before by_graph
before_others n _ mask x p t plain a b h = rw (ne_eqb p n (λ q. omega arith))
before_others n _ mask x p t degraded a b h = rw (ne_eqb p n (λ q. omega arith))
before_others n _ mask x p t small a b h = absurd (a refl)
before_others n _ mask x p t reconstruct a b h = absurd (b refl)
before_others n _ mask x p t large a b h = rw (ne_eqb p n (λ q. omega arith))
before_others n _ mask x p t failed a b h = rw (ne_eqb p n (λ q. omega arith))
before_others n _ mask x p t nought a b h = rw (ne_eqb p n (λ q. omega arith))
before_others n g mask x p t (above l) a b h =
    rw (ne_eqb p n (λ q. omega arith)) (by_graph_above g false false (read_of p t) (any_read n g mask x t) false false false l)

pub before_unit : (n g mask x p : ℕ) → Graph g → ¬ (g ≡ 3) → ¬ (g ≡ 4) → p < n → before_set n g mask x (n + 2 + p) ≡ 0
unfolding before_set
before_unit n g mask x p w a b h =
    rw (step_of_write n p (omega arith))
    (set_of_none (step_numbers n) (λ j. before n g mask x (wr p) (step_of n j)) (λ j l. before_others n g mask x p (step_of n j) w a b h))

-- ---- the same, by the positions that the graph reads

module _ (n g set : ℕ) where
  read_needs : (p : ℕ) → p ≤ n → needed_by n g set (step_of n p) ≡ 0
  unfolding needed_by
  read_needs p h = rw (step_of_read n p h)

  sum_needs : needed_by n g set (step_of n (n + 1)) ≡ set
  unfolding needed_by
  sum_needs = rw (step_of_sum n)

  none_needed : (k : ℕ) → step_numbers n ≤ k → needed_by n g set (step_of n k) ≡ 0
  unfolding needed_by
  none_needed k h = rw (step_of_above n k h)

write_needed : (n g mask x p : ℕ) → p ≤ n → needed_by n g (set_of (n + 1) (reads n g mask x)) (step_of n (n + 2 + p)) ≡ before_set n g mask x (n + 2 + p)
unfolding needed_by
write_needed n g mask x p h = rw (step_of_write n p h) (⊎_elim (λ e. parity e) (λ e. unit e) (truth (eqb p n)))
  where
    needs : ℕ
    needs = cond (eqb p n) (2 ^ (n + 1)) (cond (ltb p n) (cond (eqb g 3) (2 ^ p) (cond (eqb g 4) (set_of (n + 1) (reads n g mask x)) 0)) 0)

    parity : eqb p n ≡ true → needs ≡ before_set n g mask x (n + 2 + p)
    parity e =
        let q : n + 2 + p ≡ 2 * n + 2 = omega (arith, eqb-true p n e) in
        rw (e, q) (sym (before_parity n g mask x))

    target : ℕ → Type 0
    target g = cond (eqb g 3) (2 ^ p) (cond (eqb g 4) (set_of (n + 1) (reads n g mask x)) 0) ≡ before_set n g mask x (n + 2 + p)

    other : p < n → eqb g 3 ≡ false → eqb g 4 ≡ false → target g
    other l a b = rw (a, b) (sym (before_unit n g mask x p (graph g) (eqb-false g 3 a) (eqb-false g 4 b) l))

    small_one : p < n → g ≡ 3 → target g
    small_one l q = rw q (sym (before_small n mask x p l))

    reconstruct_one : p < n → g ≡ 4 → target g
    reconstruct_one l q = rw q (sym (before_reconstruct n mask x p l))

    by_graph_law : p < n → target g
    by_graph_law l =
        ⊎_elim (λ a. small_one l (eqb-true g 3 a))
        (λ a. ⊎_elim (λ b. reconstruct_one l (eqb-true g 4 b)) (λ b. other l a b) (truth (eqb g 4)))
        (truth (eqb g 3))

    unit : eqb p n ≡ false → needs ≡ before_set n g mask x (n + 2 + p)
    unit e = let l : p < n = omega (arith, eqb-false p n e) in rw (e, lt-ltb p n l) (by_graph_law l)

-- ---- a number is in the set of steps where its step is in the graph

pub bit_steps : (n g mask x k : ℕ) → bit k (step_set n g mask x) ≡ member n g mask x (step_of n k)
unfolding step_set member
bit_steps n g mask x k =
    let p : ℕ → Bool = λ i. member n g mask x (step_of n i) in
    ⊎_elim (λ e. bit_set_of (step_numbers n) p k (ltb-true k (step_numbers n) e))
    (λ e.
    let h = ltb-false k (step_numbers n) e in
    bit_beyond (step_numbers n) (set_of (step_numbers n) p) k (set_of_bound (step_numbers n) p) h ∙ sym (rw (step_of_above n k h)))
    (truth (ltb k (step_numbers n)))

-- all that must come before is done where it is a subset of the done ones
before_done : (n g mask x done k : ℕ) → part_of (before_set n g mask x k) done ≡ cleared n g mask x done (step_of n k)
unfolding part_of before_set cleared
before_done n g mask x done k = subset_test (step_numbers n) (λ j. before n g mask x (step_of n k) (step_of n j)) done

-- no step is wanting where the steps are a subset of the done ones
pub complete_test : (n g mask x done : ℕ) → part_of (step_set n g mask x) done ≡ complete n g mask x done
unfolding part_of step_set complete
complete_test n g mask x done = subset_test (step_numbers n) (λ k. member n g mask x (step_of n k)) done

-- what is needed, by the positions that the graph reads, is what must come before
pub needed_is : (n g mask x k : ℕ) → needed_by n g (set_of (n + 1) (reads n g mask x)) (step_of n k) ≡ before_set n g mask x k
needed_is n g mask x k =
    ⊎_elim (λ e. below (numbered n k (ltb-true k (step_numbers n) e))) (λ e. let h = ltb-false k (step_numbers n) e in past h) (truth (ltb k (step_numbers n)))
  where
    past : step_numbers n ≤ k → needed_by n g (set_of (n + 1) (reads n g mask x)) (step_of n k) ≡ before_set n g mask x k
    past h = none_needed n g (set_of (n + 1) (reads n g mask x)) k h ∙ sym (before_none n g mask x k h)

    below : Numbered n k → needed_by n g (set_of (n + 1) (reads n g mask x)) (step_of n k) ≡ before_set n g mask x k
    below (reading p h e) = rw e (read_needs n g (set_of (n + 1) (reads n g mask x)) p h ∙ sym (before_read n g mask x p h))
    below (summing e) = rw e (sum_needs n g (set_of (n + 1) (reads n g mask x)) ∙ sym (before_sum n g mask x))
    below (writing p h e) = rw e (write_needed n g mask x p h)

-- a step is ready by the graph's sets where it is ready
ready_is : (n g mask x done k : ℕ)
    → ready_by n g (step_set n g mask x) (set_of (n + 1) (reads n g mask x)) done k (step_of n k) ≡ ready n g mask x done k
unfolding ready_by ready cleared
ready_is n g mask x done k =
    rw (bit_steps n g mask x k, needed_is n g mask x k) (ap (◌&&◌ (member n g mask x (step_of n k) && not (bit k done))) cleared_test)
  where
    cleared_test : part_of (before_set n g mask x k) done ≡ cleared n g mask x done (step_of n k)
    cleared_test = before_done n g mask x done k

pub ready_of : (n g mask x done k whole read : ℕ) (s : Step) → whole ≡ step_set n g mask x → read ≡ set_of (n + 1) (reads n g mask x) → s ≡ step_of n k
    → ready_by n g whole read done k s ≡ ready n g mask x done k
ready_of n g mask x done k whole read s p q e = rw (p, q, e) (ready_is n g mask x done k)

-- what a judgement tells, where the units are few
pub judged_few : (n g mask x done : ℕ) → few_units n ≡ true
    → judged n g mask x done
    ≡ record {
      right = closed n g mask x done;
      whole = complete n g mask x done;
      steps = step_set n g mask x;
      reads = set_of (n + 1) (reads n g mask x);
    }
unfolding judged
judged_few n g mask x done f = rw f
