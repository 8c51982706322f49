-- What happens to a stripe keeps the invariant of its request's numbers, the bound on the count among them. 2n+3 allows for one fresh choice, and a
-- request has no second one: while it is open its stripe is held, and a held stripe can't be filled, so that a position which is missing stays so until the
-- request is finished, and the graph chosen then has no step on it.
-- Assumes nothing.
use Prim.Native.Nat.{ℕ, ◌+◌, ◌*◌, ◌^◌, ◌≤◌, ◌<◌}
use mathlib.Core.Bool.{Bool, true, false, cond, not, ◌||◌}
use mathlib.Core.Logic.{◌⊎◌, inl, inr}
use mathlib.Core.Path.{◌≡◌, refl, sym, ap, ◌∙◌}
use native.Mathlib.Omega.{arith}
use lib.Dec.{eqb}
use borrow.Author.Tests.{eqb-true, eqb-false}
use Rattle.terms.specs.Sets.{bit}
use Rattle.terms.proofs.Bits.{bit_none, bit_add_same, bit_add_other}
use Rattle.terms.proofs.Rows.{true≢false, and_left, truth}
use Rattle.graph.specs.Choice.{choose}
use Rattle.graph.specs.Order.{after, ready, complete}
use Rattle.graph.specs.Steps.{Step, step_of, step_numbers, by_graph, masked, unmasked, reads, member}
use Rattle.graph.proofs.Laws.{ready_elim, member_below, closed_elim, closed_none, closed_after, incomplete}
use Rattle.stripe.specs.Blocks.{On}
use Rattle.stripe.specs.Invariant.{Proper, tally, steps_in, steps_done}
use Rattle.stripe.specs.Request.{Request, begun, advanced, chosen_afresh}
use Rattle.stripe.proofs.Afresh.{OntoSmall, none_missed, onto_small}
use Rattle.stripe.proofs.Chosen.{chosen, row_of}
use Rattle.stripe.proofs.Done.{read_in}
use Rattle.stripe.proofs.Places.{Place, at_parity, at_masked, at_unmasked, place}
use Rattle.stripe.proofs.Readied.{Readied, readied}
use Rattle.stripe.proofs.Sizes.{size, size_none, size_missing, size_small, fresh, tally_steps}
use Rattle.stripe.proofs.Tally.{tally_le, tally_lt, tally_none, tally_bound, tally_disjoint, tally_more}

-- at admission
pub begun_proper : (n x : ℕ) (write : Bool) (mask : ℕ) → ¬ (mask ≡ 0) → mask < 2 ^ n → Proper n x (begun n write mask x)
unfolding begun steps_in steps_done
begun_proper n x write mask h l =
    record {
      some_unit = h;
      units_only = l;
      right_graph = refl;
      known_card = inr refl;
      in_order = closed_none n (choose n write mask x) mask x;
      first_choice = λ i. sym (tally_none (step_numbers n) (λ k. bit k 0) (λ k j. bit_none k));
      within_bound = omega (arith, tally_bound (step_numbers n) (λ k. member n (choose n write mask x) mask x (step_of n k)));
    }

-- another position fails where none was missing
pub failed_proper : (n x y : ℕ) (q : Request) → Proper n x q → n < x → Proper n y q
failed_proper n x y q P h =
    record {
      some_unit = P.some_unit;
      units_only = P.units_only;
      right_graph = P.right_graph;
      known_card = inl (none P.known_card);
      in_order = P.in_order;
      first_choice = P.first_choice;
      within_bound = P.within_bound;
    }
  where
    none : (n < q.missed) ⊎ (q.missed ≡ x) → n < q.missed
    none (inl l) = l
    none (inr e) = omega arith

module _ (n x : ℕ) (q : Request) (P : Proper n x q) where
  -- no more steps are done than the graph has
  pub done_within : steps_done n q ≤ steps_in n q
  unfolding steps_done steps_in
  done_within =
      tally_le (step_numbers n) (λ k. bit k q.done) (λ k. member n q.graph q.mask q.missed (step_of n k))
      (λ k l b. (closed_elim n q.graph q.mask q.missed q.done k P.in_order l b).0)

  -- and fewer where one is wanting
  pub done_below : (k : ℕ) → member n q.graph q.mask q.missed (step_of n k) ≡ true → bit k q.done ≡ false
      → steps_done n q < steps_in n q
  unfolding steps_done steps_in
  done_below k m d =
      tally_lt (step_numbers n) (λ k. bit k q.done) (λ k. member n q.graph q.mask q.missed (step_of n k)) k
      (member_below n q.graph q.mask q.missed k m) d m
      (λ j l b. (closed_elim n q.graph q.mask q.missed q.done j P.in_order l b).0)

  -- at most 2n+3 accepted steps, at most 2n+2 while one is wanting
  pub count_bound : q.count ≤ 2 * n + 3
  count_bound = omega (arith, P.within_bound, done_within)

  pub open_bound : complete n q.graph q.mask q.missed q.done ≡ false → q.count ≤ 2 * n + 2
  open_bound e =
      let w = incomplete n q.graph q.mask q.missed q.done e in
      omega (arith, P.within_bound, done_below w.0 w.1 w.2)

  -- a done step is one more
  more_done : (k : ℕ) → k < step_numbers n → bit k q.done ≡ false → steps_done n (advanced q k) ≡ steps_done n q + 1
  unfolding steps_done advanced
  more_done k l d =
      tally_more (step_numbers n) (λ j. bit j q.done) (λ j. bit j (after q.done k)) k l d (bit_add_same k q.done d)
      (λ j i h. bit_add_other k q.done j d h)

  pub step_proper : (k : ℕ) → ready n q.graph q.mask q.missed q.done k ≡ true → Proper n x (advanced q k)
  unfolding advanced steps_in
  step_proper k e =
      let r = ready_elim n q.graph q.mask q.missed q.done k e in
      let more : steps_done n (advanced q k) ≡ steps_done n q + 1 =
      more_done k (member_below n q.graph q.mask q.missed k r.in_graph) r.not_done in
      record {
        some_unit = P.some_unit;
        units_only = P.units_only;
        right_graph = P.right_graph;
        known_card = P.known_card;
        in_order = closed_after n q.graph q.mask q.missed q.done k P.in_order e;
        first_choice = λ h. omega (arith, P.first_choice h, more);
        within_bound = omega (arith, P.within_bound, more);
      }

-- the units outside the mask, beside those in it and parity
outside_fresh : (n mask x : ℕ) → tally (n + 1) (unmasked n mask) + fresh n mask x ≤ n + 1
unfolding fresh
outside_fresh n mask x =
    omega (
      arith,
      tally_disjoint (n + 1) (unmasked n mask) (λ p. masked n mask p || eqb p n) (λ p l u. neither p u (place n mask p (omega arith))),
      tally_bound (n + 1) (λ p. unmasked n mask p || (masked n mask p || eqb p n)),
    )
  where
    neither : (p : ℕ) → unmasked n mask p ≡ true → Place n mask p → (masked n mask p || eqb p n) ≡ false
    neither p u (at_parity a b c) = true≢false (sym u ∙ c)
    neither p u (at_masked a b c) = true≢false (sym u ∙ c)
    neither p u (at_unmasked a b c) = rw (b, a)

module _ (n x : ℕ) (q : Request) (P : Proper n x q) (l : x ≤ n) where
  -- where graph 3 is chosen afresh fewer reads are done than there are units outside the mask
  few_done : OntoSmall n x q → steps_done n q < tally (n + 1) (unmasked n q.mask)
  unfolding steps_done reads by_graph
  few_done o =
      omega (
        arith,
        tally_steps n (λ k. bit k q.done),
        ap {B = ℕ} (λ (t : Bool). cond t 1 0) o.unsummed,
        tally_none (n + 1) (λ p. bit (n + 2 + p) q.done) (λ p i. o.unwritten p (omega arith)),
        tally_lt (n + 1) (λ p. bit p q.done) (unmasked n q.mask) x (omega arith) o.unread o.outside outside,
      )
    where
      four : (p : ℕ) → reads n 4 q.mask q.missed p ≡ true → unmasked n q.mask p ≡ true
      four p e = and_left (unmasked n q.mask p) (not (eqb p q.missed)) e

      outside : (p : ℕ) → p < n + 1 → bit p q.done ≡ true → unmasked n q.mask p ≡ true
      outside p i b =
          four p (rw o.reconstruct at (read_in n q.graph q.mask q.missed q.done P.in_order p (omega arith) b))

  -- the steps so far, this one, and those of the new graph come to 2n+3 at most
  afresh_bound : (k : ℕ) (s : Step) → Readied n q.graph q.mask q.missed q.done k s → On x s → steps_done n q < n + 2
      → steps_done n q + 1 + size n (choose n q.write q.mask x) q.mask x ≤ 2 * n + 3
  afresh_bound k s r o h = go (truth (eqb g 3))
    where
      g : ℕ
      g = choose n q.write q.mask x

      go : (eqb g 3 ≡ true) ⊎ (eqb g 3 ≡ false) → steps_done n q + 1 + size n g q.mask x ≤ 2 * n + 3
      go (inl e) =
          let f : g ≡ 3 = eqb-true g 3 e in
          let t : size n g q.mask x ≤ 2 * fresh n q.mask x + 1 = rw f (size_small n q.mask x) in
          omega (arith, t, few_done (onto_small n x q P l k s r o f), outside_fresh n q.mask x)
      go (inr e) = omega (arith, h, size_missing n q.mask x (chosen n q.mask x q.write) (eqb-false g 3 e) l)

  -- a fresh choice
  pub afresh_proper : (k : ℕ) → ready n q.graph q.mask q.missed q.done k ≡ true → On x (step_of n k)
      → Proper n x (chosen_afresh n q x)
  unfolding chosen_afresh steps_in
  afresh_proper k e o =
      let r = readied n q.graph q.mask q.missed q.done k e in
      let none : n < q.missed = none_missed n x q P l (step_of n k) r.in_graph o in
      let old : size n q.graph q.mask q.missed ≤ n + 2 = size_none n q.mask q.missed (row_of n x q P) P.units_only none in
      let below : steps_done n q < n + 2 = omega (arith, old, done_below n x q P k r.in_graph r.not_done) in
      record {
        some_unit = P.some_unit;
        units_only = P.units_only;
        right_graph = refl;
        known_card = inr refl;
        in_order = closed_none n (choose n q.write q.mask x) q.mask x;
        first_choice = λ h. absurd (omega arith);
        within_bound = omega (arith, P.first_choice none, afresh_bound k (step_of n k) r o below);
      }
