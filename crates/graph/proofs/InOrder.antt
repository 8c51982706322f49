-- A done set is closed where five tests on whole sets hold.
-- Assumes nothing.
use Prim.Native.Nat.{ℕ, ◌+◌, ◌-◌, ◌*◌, ◌/◌, ◌^◌, ◌≤◌, ◌<◌}
use mathlib.Core.Bool.{Bool, true, false, ◌&&◌, ◌||◌, and-true}
use mathlib.Core.Logic.{⊎_elim}
use mathlib.Core.Path.{◌≡◌, refl, sym, ap, subst, ◌∙◌}
use native.Mathlib.Nat.{lt_of_le_of_lt}
use native.Mathlib.Omega.{arith}
use borrow.Author.Tests.{eqb-true, eqb-false, eq-eqb, ne_eqb, ltb-true, ltb-false}
use lib.Bits.{bit_and, and_le_r}
use lib.Dec.{eqb, ltb}
use lib.Pow.{ones_lt, shr-shr}
use Rattle.terms.proofs.Bits.{bit_none, bit_full, bit_of_and, bit_set_of, set_of_bound, subset_elim, subset_intro}
use Rattle.terms.proofs.Rows.{truth, true≢false, or_not_elim, or_not_intro}
use Rattle.terms.specs.Sets.{bit, set_of}
use Rattle.graph.specs.Asked.{step_set, part_of, written, in_order_by}
use Rattle.graph.specs.Order.{any_read, read_of, is_sum, before, cleared, closed}
use Rattle.graph.specs.Steps.{Step, rd, xr, wr, step_of, step_numbers, by_graph, reads}
use Rattle.graph.proofs.Forerunners.{any_read_at, any_read_past, sum_at_law, read_at_law, bit_steps}
use Rattle.graph.proofs.Graphs.{Graph, plain, degraded, small, reconstruct, large, failed, nought, above, graph, by_graph_above}
use Rattle.graph.proofs.Laws.{cleared_elim, cleared_intro, closed_bound, closed_elim, closed_intro, before_unit_write}
use Rattle.graph.proofs.Positions.{position}
use Rattle.graph.proofs.Rules.{both_ways, some_bit}
use Rattle.graph.proofs.Numbers.{Numbered, reading, summing, writing, numbered, step_of_read, step_of_sum, step_of_write}

pub written_bound : (n done : ℕ) → written n done < 2 ^ n
written_bound n done = lt_of_le_of_lt (and_le_r (done / 2 ^ (n + 2)) (2 ^ n - 1)) (ones_lt n)

bit_shr : (m k i : ℕ) → bit i (m / 2 ^ k) ≡ bit (k + i) m
unfolding bit
bit_shr m k i = rw (shr-shr m k i)

pub bit_written : (n done p : ℕ) → p < n → bit p (written n done) ≡ bit (n + 2 + p) done
bit_written n done p h =
    bit_of_and p (done / 2 ^ (n + 2)) (2 ^ n - 1) ∙ rw (bit_full n p h, and-true (bit p (done / 2 ^ (n + 2)))) (bit_shr done (n + 2) p)

-- the five tests: only steps of the graph; the exclusive or's and parity's forerunners; a unit's own read in 3; all the reads in 4
pub record InOrder (n g mask x done : ℕ) : Type 0 where
  pub subset : bit_and done (step_set n g mask x) ≡ done
  pub summed : bit (n + 1) done ≡ true → bit_and (set_of (n + 1) (reads n g mask x)) done ≡ set_of (n + 1) (reads n g mask x)
  pub parity : bit (2 * n + 2) done ≡ true → bit (n + 1) done ≡ true
  pub small : g ≡ 3 → bit_and (written n done) done ≡ written n done
  pub reconstruct : g ≡ 4 → ¬ (written n done ≡ 0)
      → bit_and (set_of (n + 1) (reads n g mask x)) done ≡ set_of (n + 1) (reads n g mask x)

all_four : {a b c d : Bool} → a ≡ true → b ≡ true → c ≡ true → d ≡ true → (a && b && c && d) ≡ true
all_four e f g h = rw (e, f, g, h)

each_four : (a b c d : Bool) → (a && b && c && d) ≡ true → (a ≡ true) × (b ≡ true) × (c ≡ true) × (d ≡ true)
each_four true true true true e = (refl, refl, refl, refl)
each_four false b c d e = absurd (true≢false (sym e))
each_four true false c d e = absurd (true≢false (sym e))
each_four true true false d e = absurd (true≢false (sym e))
each_four true true true false e = absurd (true≢false (sym e))

either : (a b : Bool) → (a ≡ false → b ≡ true) → (a || b) ≡ true
either true b h = refl
either false b h = h refl

-- what comes before the units' writes, graph by graph
units_small : (g : ℕ) (s r : Bool) → by_graph g true true s r true true true ≡ true → g ≡ 3 → s ≡ true
unfolding by_graph
units_small g s r e q = rw q at e

units_reconstruct : (g : ℕ) (s r : Bool) → by_graph g true true s r true true true ≡ true → g ≡ 4 → r ≡ true
unfolding by_graph
units_reconstruct g s r e q = rw q at e

units_pass : (n g mask x done : ℕ) → InOrder n g mask x done → Graph g
    → by_graph g
    true
    true
    (part_of (written n done) done)
    (eqb (written n done) 0 || part_of (set_of (n + 1) (reads n g mask x)) done)
    true
    true
    true
    ≡ true
unfolding by_graph part_of
units_pass n _ mask x done o plain = refl
units_pass n _ mask x done o degraded = refl
units_pass n _ mask x done o small = eq-eqb _ _ (o.small refl)
units_pass n _ mask x done o reconstruct =
    either (eqb (written n done) 0) _ (λ e. eq-eqb _ _ (o.reconstruct refl (eqb-false (written n done) 0 e)))
units_pass n _ mask x done o large = refl
units_pass n _ mask x done o failed = refl
units_pass n _ mask x done o nought = refl
units_pass n g mask x done o (above h) = by_graph_above g _ _ _ _ _ _ _ h

module _ (n g mask x done : ℕ) where
  abbrev R : ℕ
  R = set_of (n + 1) (reads n g mask x)

  -- all the reads are done, number by number and as a set
  reads_in : (s : Step) → ((j : ℕ) → j ≤ n → reads n g mask x j ≡ true → before n g mask x s (step_of n j) ≡ true)
      → cleared n g mask x done s ≡ true → bit_and R done ≡ R
  reads_in s f c =
      subset_intro (n + 1) R done (set_of_bound (n + 1) (reads n g mask x))
      (λ j l b.
      cleared_elim n g mask x done s j c (omega arith) (f j (omega arith) (sym (bit_set_of (n + 1) (reads n g mask x) j l) ∙ b)))

  reads_out : bit_and R done ≡ R → (j : ℕ) → j < step_numbers n → any_read n g mask x (step_of n j) ≡ true → bit j done ≡ true
  reads_out e j h a =
      ⊎_elim
      (λ q.
      let l : j < n + 1 = ltb-true j (n + 1) q in
      subset_elim R done e j (bit_set_of (n + 1) (reads n g mask x) j l ∙ sym (any_read_at n g mask x j (omega arith)) ∙ a))
      (λ q. true≢false (sym a ∙ any_read_past n g mask x j (numbered n j h) (let l = ltb-false j (n + 1) q in omega arith)))
      (truth (ltb j (n + 1)))

  -- in 3 a unit's read comes before its write, in 4 every read does
  small_before : (p : ℕ) → p < n → g ≡ 3 → before n g mask x (wr p) (step_of n p) ≡ true
  unfolding before by_graph
  small_before p l e =
      rw (e, ne_eqb p n (λ q. omega arith)) (read_at_law n p p (omega arith) (reading {k = p} p (omega arith) refl) ∙ eq-eqb p p refl)

  reconstruct_before : (p j : ℕ) → p < n → j ≤ n → g ≡ 4 → reads n g mask x j ≡ true → before n g mask x (wr p) (step_of n j) ≡ true
  unfolding before by_graph
  reconstruct_before p j l h e r = rw (e, ne_eqb p n (λ q. omega arith)) (any_read_at n 4 mask x j h ∙ (rw e at r))

  -- what must come before a done step is done: of the exclusive or, of parity's write, of a unit's write
  module _ (o : InOrder n g mask x done) (j : ℕ) (l : j < step_numbers n) where
    before_done_sum : bit (n + 1) done ≡ true → before n g mask x xr (step_of n j) ≡ true → bit j done ≡ true
    unfolding before
    before_done_sum b f = reads_out (o.summed b) j l f

    before_done_parity : bit (n + 2 + n) done ≡ true → before n g mask x (wr n) (step_of n j) ≡ true → bit j done ≡ true
    unfolding before
    before_done_parity b f =
        let e : n + 2 + n ≡ 2 * n + 2 = omega arith in
        let s : is_sum (step_of n j) ≡ true = rw (eq-eqb n n refl) at f in
        rw (eqb-true j (n + 1) (sym (sum_at_law n j (numbered n j l)) ∙ s)) (o.parity (rw e at b))

    before_done_unit : (p : ℕ) → p < n → bit (n + 2 + p) done ≡ true → before n g mask x (wr p) (step_of n j) ≡ true → bit j done ≡ true
    unfolding read_of
    before_done_unit p h b f =
        let w : bit p (written n done) ≡ true = bit_written n done p h ∙ b in
        ⊎_elim
        (λ q.
        let r : read_of p (step_of n j) ≡ true = rw q.1 (eq-eqb p p refl) in
        rw (eqb-true j p (sym (read_at_law n p j (omega arith) (numbered n j l)) ∙ r)) (subset_elim (written n done) done (o.small q.0) p w))
        (λ q. reads_out (o.reconstruct q.0 (λ z. true≢false (sym w ∙ ap (bit p) z ∙ bit_none p))) j l q.1)
        (before_unit_write n g mask x p (step_of n j) (graph g) (λ q. omega arith) f)

    before_done : (k : ℕ) → Numbered n k → bit k done ≡ true → before n g mask x (step_of n k) (step_of n j) ≡ true → bit j done ≡ true
    unfolding before
    before_done k (reading p h e) b f =
        let s : step_of n k ≡ rd p = ap (step_of n) e ∙ step_of_read n p h in true≢false (sym (rw s at f))
    before_done k (summing e) b f =
        before_done_sum (rw e at b) (let s : step_of n k ≡ xr = ap (step_of n) e ∙ step_of_sum n in rw s at f)
    before_done k (writing p h e) b f =
        let s : step_of n k ≡ wr p = ap (step_of n) e ∙ step_of_write n p h in
        let d : bit (n + 2 + p) done ≡ true = rw e at b in
        let g : before n g mask x (wr p) (step_of n j) ≡ true = rw s at f in
        position n p (omega arith) (λ q. before_done_unit p q d g)
        (λ q. before_done_parity (rw q at d) (rw q at g))

  module _ (c : closed n g mask x done ≡ true) where
    -- what must come before a done step is done
    step_cleared : (k : ℕ) (s : Step) → k < step_numbers n → step_of n k ≡ s → bit k done ≡ true → cleared n g mask x done s ≡ true
    step_cleared k s h e b = rw e at (closed_elim n g mask x done k c h b).1

    sum_done : bit (n + 1) done ≡ true → bit_and R done ≡ R
    unfolding before
    sum_done b = reads_in xr (λ j l r. any_read_at n g mask x j l ∙ r) (step_cleared (n + 1) xr (omega arith) (step_of_sum n) b)

    parity_done : bit (2 * n + 2) done ≡ true → bit (n + 1) done ≡ true
    unfolding before
    parity_done b =
        let e : n + 2 + n ≡ 2 * n + 2 = omega arith in
        cleared_elim n g mask x done (wr n) (n + 1)
        (step_cleared (2 * n + 2) (wr n) (omega arith) (rw e at (step_of_write n n (omega arith))) b)
        (omega arith)
        (rw (eq-eqb n n refl) (sum_at_law n (n + 1) (summing {k = n + 1} refl) ∙ eq-eqb (n + 1) (n + 1) refl))

    unit_cleared : (p : ℕ) → p < n → bit p (written n done) ≡ true → cleared n g mask x done (wr p) ≡ true
    unit_cleared p l b =
        step_cleared (n + 2 + p) (wr p) (omega arith) (step_of_write n p (omega arith)) (sym (bit_written n done p l) ∙ b)

    small_done : g ≡ 3 → bit_and (written n done) done ≡ written n done
    small_done e =
        subset_intro n (written n done) done (written_bound n done)
        (λ p l b. cleared_elim n g mask x done (wr p) p (unit_cleared p l b) (omega arith) (small_before p l e))

    reconstruct_done : g ≡ 4 → ¬ (written n done ≡ 0) → bit_and R done ≡ R
    reconstruct_done e z =
        let (p, l, b) = some_bit n (written n done) (written_bound n done) z in
        reads_in (wr p) (λ j h r. reconstruct_before p j l h e r) (unit_cleared p l b)

    pub in_order : InOrder n g mask x done
    in_order = record {
      subset =
          subset_intro (step_numbers n) done (step_set n g mask x) (closed_bound n g mask x done c)
          (λ k l b. bit_steps n g mask x k ∙ (closed_elim n g mask x done k c l b).0);
      summed = sum_done;
      parity = parity_done;
      small = small_done;
      reconstruct = reconstruct_done;
    }

  -- the graph's steps have no number above 2n+2
  few_steps : InOrder n g mask x done → done < 2 ^ step_numbers n
  unfolding step_set
  few_steps o = subst (λ (d : ℕ). d < 2 ^ step_numbers n) o.subset (lt_of_le_of_lt (and_le_r done (step_set n g mask x)) (set_of_bound (step_numbers n) _))

  pub closed_of : InOrder n g mask x done → closed n g mask x done ≡ true
  closed_of o =
      closed_intro n g mask x done (few_steps o)
      (λ k h b. (
        sym (bit_steps n g mask x k) ∙ subset_elim done (step_set n g mask x) o.subset k b,
        cleared_intro n g mask x done (step_of n k) (λ j l e. before_done o j l k (numbered n k h) b e),
      ))

  -- the tests, one after the other, hold exactly where the five do
  pass : InOrder n g mask x done → in_order_by n g R (step_set n g mask x) done ≡ true
  unfolding in_order_by part_of
  pass o =
      all_four (eq-eqb _ _ o.subset) (or_not_intro _ _ (λ b. eq-eqb _ _ (o.summed b))) (or_not_intro _ _ o.parity) (units_pass n g mask x done o (graph g))

  passed : in_order_by n g R (step_set n g mask x) done ≡ true → InOrder n g mask x done
  unfolding in_order_by part_of
  passed e =
      let t = each_four _ _ _ _ e in
      record {
        subset = eqb-true _ _ t.0;
        summed = λ b. eqb-true _ _ (or_not_elim _ _ t.1 b);
        parity = or_not_elim _ _ t.2;
        small = λ q. eqb-true _ _ (units_small g _ _ t.3 q);
        reconstruct = λ q z. eqb-true _ _ (rw (ne_eqb (written n done) 0 z) at (units_reconstruct g _ _ t.3 q));
      }

  pub in_order_of : (old all : ℕ) → old ≡ R → all ≡ step_set n g mask x → in_order_by n g old all done ≡ closed n g mask x done
  in_order_of old all r w = rw (r, w) (both_ways _ _ (λ e. closed_of (passed e)) (λ e. pass (in_order e)))
