-- Laws of the graphs' order, for any number of units: what is known of a done set that is closed under forerunners, how it grows, and that an
-- unfinished one has a ready step.
-- Assumes nothing.
use Prim.Native.Nat.{ℕ, zero, suc, ◌^◌, ◌<◌}
use mathlib.Core.Bool.{Bool, true, false, not, ◌&&◌, ◌||◌}
use mathlib.Core.Logic.{◌⊎◌, inl, inr, ⊎_elim}
use mathlib.Core.Path.{◌≡◌, refl, sym, ap, ◌∙◌}
use native.Mathlib.Nat.{not-suc-le-zero}
use native.Mathlib.Omega.{arith}
use borrow.Author.Tests.{ltb-true, ltb-false, lt-ltb, le-ltb, eqb-true, eqb-false, ne_eqb, not-true, not-false}
use lib.Dec.{ltb, eqb}
use lib.Pow.{pow_pos}
use Rattle.terms.proofs.Bits.{bit_none, bit_add_other, add_bound}
use Rattle.terms.proofs.Rows.{true≢false, and_left, and_right, and_both, or_false_left, or_false_right, or_not_elim, or_not_intro, truth}
use Rattle.terms.proofs.Sets.{all_below_elim, all_below_intro, all_below_fails}
use Rattle.terms.specs.Sets.{bit}
use Rattle.graph.specs.Order.{any_read, read_of, is_sum, before, cleared, ready, after, complete, closed}
use Rattle.graph.specs.Steps.{Step, rd, xr, wr, nil, step_of, step_numbers, by_graph, masked, reads, sums, writes, member}
use Rattle.graph.proofs.Graphs.{Graph, plain, degraded, small, reconstruct, large, failed, nought, above, graph, by_graph_above}
use Rattle.graph.proofs.Numbers.{step_of_above}

-- the done set after step k, which was not done: k, and what was done
pub after_keeps : (done k j : ℕ) → bit k done ≡ false → bit j done ≡ true → bit j (after done k) ≡ true
after_keeps done k j f b =
    bit_add_other k done j f (λ q. true≢false (sym b ∙ ap (λ (i : ℕ). bit i done) q ∙ f)) ∙ b

pub after_cases : (done k j : ℕ) → bit k done ≡ false → bit j (after done k) ≡ true → (j ≡ k) ⊎ (bit j done ≡ true)
after_cases done k j f b =
    ⊎_elim (λ q. inl (eqb-true j k q)) (λ q. inr (sym (bit_add_other k done j f (eqb-false j k q)) ∙ b)) (truth (eqb j k))

module _ (n g mask x : ℕ) where
  -- a step of the graph has a number below 2n+3
  pub member_below : (k : ℕ) → member n g mask x (step_of n k) ≡ true → k < step_numbers n
  unfolding member
  member_below k e =
      ⊎_elim (λ a. ltb-true k (step_numbers n) a)
      (λ a. let f = step_of_above n k (ltb-false k (step_numbers n) a) in true≢false (sym (rw f at e)))
      (truth (ltb k (step_numbers n)))

  -- ---- what must come before

  pub cleared_elim : (done : ℕ) (s : Step) (j : ℕ) → cleared n g mask x done s ≡ true → j < step_numbers n
      → before n g mask x s (step_of n j) ≡ true → bit j done ≡ true
  unfolding cleared
  cleared_elim done s j c h b =
      or_not_elim (before n g mask x s (step_of n j)) (bit j done)
      (all_below_elim (step_numbers n) (λ i. not (before n g mask x s (step_of n i)) || bit i done) c j h) b

  pub cleared_intro : (done : ℕ) (s : Step)
      → ((j : ℕ) → j < step_numbers n → before n g mask x s (step_of n j) ≡ true → bit j done ≡ true)
      → cleared n g mask x done s ≡ true
  unfolding cleared
  cleared_intro done s f =
      all_below_intro (step_numbers n) (λ i. not (before n g mask x s (step_of n i)) || bit i done)
      (λ j h. or_not_intro (before n g mask x s (step_of n j)) (bit j done) (f j h))

  -- what is cleared stays so as the done set grows
  pub cleared_grows : (done more : ℕ) (s : Step) → ((j : ℕ) → bit j done ≡ true → bit j more ≡ true)
      → cleared n g mask x done s ≡ true → cleared n g mask x more s ≡ true
  cleared_grows done more s f c = cleared_intro more s (λ j h b. f j (cleared_elim done s j c h b))

  -- ---- a ready step

  pub record Ready (done k : ℕ) : Type 0 where
    pub in_graph : member n g mask x (step_of n k) ≡ true
    pub not_done : bit k done ≡ false
    pub lacks_none_law : cleared n g mask x done (step_of n k) ≡ true

  pub ready_elim : (done k : ℕ) → ready n g mask x done k ≡ true → Ready done k
  unfolding ready
  ready_elim done k e =
      let a : Bool = member n g mask x (step_of n k) in
      let b : Bool = not (bit k done) in
      let l : (a && b) ≡ true = and_left (a && b) (cleared n g mask x done (step_of n k)) e in
      record {
        in_graph = and_left a b l;
        not_done = not-true (bit k done) (and_right a b l);
        lacks_none_law = and_right (a && b) (cleared n g mask x done (step_of n k)) e;
      }

  pub ready_intro : (done k : ℕ) → Ready done k → ready n g mask x done k ≡ true
  unfolding ready
  ready_intro done k r = rw (r.in_graph, r.not_done, r.lacks_none_law)

  -- ---- a done set that is closed under forerunners

  pub closed_bound : (done : ℕ) → closed n g mask x done ≡ true → done < 2 ^ step_numbers n
  unfolding closed
  closed_bound done e = ltb-true done (2 ^ step_numbers n) (and_left (ltb done (2 ^ step_numbers n)) _ e)

  -- a done step is in the graph, with all that must come before it
  pub closed_elim : (done k : ℕ) → closed n g mask x done ≡ true → k < step_numbers n → bit k done ≡ true
      → (member n g mask x (step_of n k) ≡ true) × (cleared n g mask x done (step_of n k) ≡ true)
  unfolding closed
  closed_elim done k e h b =
      let c =
      or_not_elim (bit k done) (member n g mask x (step_of n k) && cleared n g mask x done (step_of n k))
      (all_below_elim (step_numbers n) (λ i. not (bit i done) || member n g mask x (step_of n i) && cleared n g mask x done (step_of n i))
      (and_right (ltb done (2 ^ step_numbers n)) _ e) k h) b
      in
      (and_left (member n g mask x (step_of n k)) _ c, and_right (member n g mask x (step_of n k)) _ c)

  pub closed_intro : (done : ℕ) → done < 2 ^ step_numbers n
      → ((k : ℕ) → k < step_numbers n → bit k done ≡ true
      → (member n g mask x (step_of n k) ≡ true) × (cleared n g mask x done (step_of n k) ≡ true))
      → closed n g mask x done ≡ true
  unfolding closed
  closed_intro done l f =
      and_both (ltb done (2 ^ step_numbers n)) _ (lt-ltb done (2 ^ step_numbers n) l)
      (all_below_intro (step_numbers n) (λ i. not (bit i done) || member n g mask x (step_of n i) && cleared n g mask x done (step_of n i))
      (λ k h.
      or_not_intro (bit k done) (member n g mask x (step_of n k) && cleared n g mask x done (step_of n k))
      (λ b. let (m, c) = f k h b in and_both (member n g mask x (step_of n k)) _ m c)))

  -- no step is done yet: closed
  pub closed_none : closed n g mask x 0 ≡ true
  closed_none = closed_intro 0 (pow_pos (step_numbers n)) (λ k h b. true≢false (sym b ∙ bit_none k))

  -- it stays closed after a ready step
  pub closed_after : (done k : ℕ) → closed n g mask x done ≡ true → ready n g mask x done k ≡ true
      → closed n g mask x (after done k) ≡ true
  closed_after done k c e =
      let r = ready_elim done k e in
      let grown : (s : Step) → cleared n g mask x done s ≡ true → cleared n g mask x (after done k) s ≡ true =
      λ s. cleared_grows done (after done k) s (λ j. after_keeps done k j r.not_done) in
      closed_intro (after done k) (add_bound (step_numbers n) k done (closed_bound done c) (member_below k r.in_graph) r.not_done)
      (λ j h b.
      ⊎_elim (λ (q : j ≡ k). (rw q r.in_graph, rw q (grown (step_of n k) r.lacks_none_law)))
      (λ q. let (m, l) = closed_elim done j c h q in (m, grown (step_of n j) l))
      (after_cases done k j r.not_done b))

  -- ---- all steps done

  pub complete_elim : (done k : ℕ) → complete n g mask x done ≡ true → member n g mask x (step_of n k) ≡ true → bit k done ≡ true
  unfolding complete
  complete_elim done k e m =
      or_not_elim (member n g mask x (step_of n k)) (bit k done)
      (all_below_elim (step_numbers n) (λ i. not (member n g mask x (step_of n i)) || bit i done) e k (member_below k m)) m

  -- where a step is wanting, here is one
  pub incomplete : (done : ℕ) → complete n g mask x done ≡ false
      → (k : ℕ) × (member n g mask x (step_of n k) ≡ true) × (bit k done ≡ false)
  unfolding complete
  incomplete done e =
      let (k, h, f) = all_below_fails (step_numbers n) (λ i. not (member n g mask x (step_of n i)) || bit i done) e in
      (k, not-false (member n g mask x (step_of n k)) (or_false_left _ (bit k done) f), or_false_right (not (member n g mask x (step_of n k))) _ f)

-- ---- each graph is acyclic: what must come before a step is of a lower rank, reads before the exclusive or, that before writes

abbrev pub rank : Step → ℕ
rank (rd p) = 0
rank xr = 1
rank (wr p) = 2
rank nil = 0

any_read_law : (n g mask x : ℕ) (t : Step) → any_read n g mask x t ≡ true → (rank t ≡ 0) × (member n g mask x t ≡ true)
unfolding any_read member
any_read_law n g mask x (rd q) e = (refl, e)
any_read_law n g mask x xr e = true≢false (sym e)
any_read_law n g mask x (wr q) e = true≢false (sym e)
any_read_law n g mask x nil e = true≢false (sym e)

read_of_law : (p : ℕ) (t : Step) → read_of p t ≡ true → t ≡ rd p
unfolding read_of
read_of_law p (rd q) e = ap rd (eqb-true q p e)
read_of_law p xr e = true≢false (sym e)
read_of_law p (wr q) e = true≢false (sym e)
read_of_law p nil e = true≢false (sym e)

is_sum_law : (t : Step) → is_sum t ≡ true → t ≡ xr
unfolding is_sum
is_sum_law (rd q) e = true≢false (sym e)
is_sum_law xr e = refl
is_sum_law (wr q) e = true≢false (sym e)
is_sum_law nil e = true≢false (sym e)

-- what must come before a unit's write: in 3 that unit's read, in 4 all the reads
pub before_unit_write : (n g mask x p : ℕ) (t : Step) → Graph g → ¬ (p ≡ n) → before n g mask x (wr p) t ≡ true
    → ((g ≡ 3) × (t ≡ rd p)) ⊎ ((g ≡ 4) × (any_read n g mask x t ≡ true))
unfolding before by_graph
before_unit_write n _ mask x p t plain f e = true≢false (sym e ∙ rw (ne_eqb p n f))
before_unit_write n _ mask x p t degraded f e = true≢false (sym e ∙ rw (ne_eqb p n f))
before_unit_write n _ mask x p t small f e = inl (refl, read_of_law p t (rw (ne_eqb p n f) at e))
before_unit_write n _ mask x p t reconstruct f e = inr (refl, rw (ne_eqb p n f) at e)
before_unit_write n _ mask x p t large f e = true≢false (sym e ∙ rw (ne_eqb p n f))
before_unit_write n _ mask x p t failed f e = true≢false (sym e ∙ rw (ne_eqb p n f))
before_unit_write n _ mask x p t nought f e = true≢false (sym e ∙ rw (ne_eqb p n f))
before_unit_write n g mask x p t (above h) f e =
    true≢false (sym e ∙ rw (ne_eqb p n f, by_graph_above g false false (read_of p t) (any_read n g mask x t) false false false h))

-- parity's write is in graphs with an exclusive or alone
parity_sums : (n g mask x : ℕ) → Graph g → writes n g mask x n ≡ true → sums g ≡ true
unfolding writes sums by_graph masked
parity_sums n _ mask x plain e = e
parity_sums n _ mask x degraded e = refl
parity_sums n _ mask x small e = refl
parity_sums n _ mask x reconstruct e = refl
parity_sums n _ mask x large e = refl
parity_sums n _ mask x failed e = true≢false (sym e ∙ rw (le-ltb n n (omega arith)))
parity_sums n _ mask x nought e = e
parity_sums n g mask x (above h) e =
    let m : Bool = masked n mask n || eqb n n in true≢false (sym e ∙ rw (by_graph_above g false false m m m (masked n mask n) false h))

-- in graph 3 a unit that is written is read
small_reads : (n mask x p : ℕ) → writes n 3 mask x p ≡ true → reads n 3 mask x p ≡ true
unfolding writes reads by_graph
small_reads n mask x p e = e

module _ (n g mask x : ℕ) where
  pub before_rank : (s t : Step) → before n g mask x s t ≡ true → rank t < rank s
  unfolding before
  before_rank (rd p) t e = true≢false (sym e)
  before_rank xr t e = let h = any_read_law n g mask x t e in omega arith
  before_rank (wr p) t e = ⊎_elim parity unit (truth (eqb p n))
    where
      parity : eqb p n ≡ true → rank t < 2
      parity q = let z = is_sum_law t (rw q at e) in rw z (omega arith)

      unit : eqb p n ≡ false → rank t < 2
      unit q =
          ⊎_elim (λ z. rw z.1 (omega arith)) (λ z. let h = any_read_law n g mask x t z.1 in omega arith)
          (before_unit_write n g mask x p t (graph g) (eqb-false p n q) e)
  before_rank nil t e = true≢false (sym e)

  -- what must come before a step of the graph is in the graph
  pub before_member : (s t : Step) → member n g mask x s ≡ true → before n g mask x s t ≡ true → member n g mask x t ≡ true
  unfolding before member
  before_member (rd p) t m e = true≢false (sym e)
  before_member xr t m e = (any_read_law n g mask x t e).1
  before_member (wr p) t m e = ⊎_elim parity unit (truth (eqb p n))
    where
      parity : eqb p n ≡ true → member n g mask x t ≡ true
      parity q = rw (is_sum_law t (rw q at e)) (parity_sums n g mask x (graph g) (rw (eqb-true p n q) at m))

      unit : eqb p n ≡ false → member n g mask x t ≡ true
      unit q =
          ⊎_elim (λ z. rw (z.1, z.0) (small_reads n mask x p (rw z.0 at m)))
          (λ z. (any_read_law n g mask x t z.1).1)
          (before_unit_write n g mask x p t (graph g) (eqb-false p n q) e)
  before_member nil t m e = true≢false (sym e)

  -- a step that lacks some before it: here is one of those, not done
  not_cleared : (done : ℕ) (s : Step) → cleared n g mask x done s ≡ false
      → (j : ℕ) × (before n g mask x s (step_of n j) ≡ true) × (bit j done ≡ false)
  unfolding cleared
  not_cleared done s e =
      let (j, h, f) = all_below_fails (step_numbers n) (λ i. not (before n g mask x s (step_of n i)) || bit i done) e in (
        j,
        not-false (before n g mask x s (step_of n j)) (or_false_left _ (bit j done) f),
        or_false_right (not (before n g mask x s (step_of n j))) _ f,
      )

  -- below each step that is wanting there is a ready one
  ready_below : (done r k : ℕ) → rank (step_of n k) < r → member n g mask x (step_of n k) ≡ true → bit k done ≡ false
      → (j : ℕ) × (ready n g mask x done j ≡ true)
  ready_below done zero k l m b = absurd (not-suc-le-zero l)
  ready_below done (suc r) k l m b =
      ⊎_elim (λ c. (k, ready_intro n g mask x done k (record { in_graph = m; not_done = b; lacks_none_law = c })))
      (λ c.
      let (j, e, f) = not_cleared done (step_of n k) c in
      let d = before_rank (step_of n k) (step_of n j) e in
      ready_below done r j (omega arith) (before_member (step_of n k) (step_of n j) m e) f)
      (truth (cleared n g mask x done (step_of n k)))

  rank_top : (s : Step) → rank s < 3
  rank_top (rd p) = omega arith
  rank_top xr = omega arith
  rank_top (wr p) = omega arith
  rank_top nil = omega arith

  -- a done set that lacks a step has a ready step
  pub progress : (done : ℕ) → complete n g mask x done ≡ false → (k : ℕ) × (ready n g mask x done k ≡ true)
  progress done e = let (k, m, b) = incomplete n g mask x done e in ready_below done 3 k (rank_top (step_of n k)) m b
