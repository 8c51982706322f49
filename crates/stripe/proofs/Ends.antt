-- The start and the end of a request: what its blocks hold at admission, and that its last step leaves the new row.
-- Assumes nothing.
use Prim.Native.Nat.{ℕ, suc, ◌+◌, ◌≤◌, ◌<◌}
use mathlib.Core.Bool.{Bool, true, false}
use mathlib.Core.Logic.{◌⊎◌, inl, inr}
use mathlib.Core.Path.{◌≡◌, refl, sym, ap, ◌∙◌}
use native.Mathlib.Omega.{arith}
use lib.Dec.{eqb}
use borrow.Author.Tests.{eqb-true, eqb-false}
use Rattle.terms.proofs.Bits.{bit_none}
use Rattle.terms.proofs.Rows.{true≢false, truth}
use Rattle.graph.specs.Order.{complete}
use Rattle.graph.specs.Steps.{wr, number_of, by_graph, masked, unmasked, reads, sums, writes, member}
use Rattle.graph.proofs.Laws.{complete_elim}
use Rattle.graph.proofs.Numbers.{step_of_read, step_of_sum, step_of_write}
use Rattle.stripe.specs.Blocks.{Blocks, changed}
use Rattle.stripe.specs.Group.{Group, sum_to, others}
use Rattle.stripe.specs.Invariant.{Proper, Faithful, Idle, IsRow, row_after, is_done}
use Rattle.stripe.specs.Request.{Request, begun}
use Rattle.stripe.proofs.Chosen.{row_of}
use Rattle.stripe.proofs.NewRow.{after_read, after_row_law, after_others, after_new}
use Rattle.stripe.proofs.Places.{reads_all, writes_all, masked_below}
use Rattle.stripe.proofs.Steps.{read_cell, outside_cell}
use Rattle.stripe.proofs.Sums.{row_others, sum_cong, changed_same, changed_other}

-- at admission, for any row that the request is to make
pub begun_faithful : (G : Group) (n x : ℕ) (write : Bool) (mask : ℕ) (R R' : ℕ → G.carrier) (b : Blocks G.carrier)
    → Idle G n x R b.cell → IsRow G n R'
    → (write ≡ false → (p : ℕ) → R' p ≡ R p)
    → ((p : ℕ) → unmasked n mask p ≡ true → R' p ≡ R p)
    → (write ≡ true → (p : ℕ) → masked n mask p ≡ true → b.new p ≡ R' p)
    → Faithful G n x (begun n write mask x) (λ p. false) R R' b
unfolding begun is_done number_of
begun_faithful G n x write mask R R' b I row same others_same kept =
    record {
      old_row = I.row;
      new_row = row;
      read_same = same;
      others_same = others_same;
      kept = kept;
      read = λ p l d. true≢false (sym d ∙ bit_none p);
      inferred = λ f d. true≢false (sym d ∙ bit_none (n + 1));
      computed = λ f d. true≢false (sym d ∙ bit_none (n + 1));
      written = λ p l h d. true≢false (sym d ∙ bit_none (n + 2 + p));
      unwritten = λ p l h d u. I.holds p l h;
      either = λ p l h. I.holds p l h;
    }

-- and for the row after the request
pub begun_after : (G : Group) (n x : ℕ) (write : Bool) (mask : ℕ) (R : ℕ → G.carrier) (b : Blocks G.carrier)
    → Idle G n x R b.cell → Faithful G n x (begun n write mask x) (λ p. false) R (row_after G n write mask R b.new) b
begun_after G n x write mask R b I =
    begun_faithful G n x write mask R (row_after G n write mask R b.new) b I
    (after_row_law G n mask R b.new write I.row)
    (after_read G n mask R b.new write)
    (after_others G n mask R b.new write)
    (after_new G n mask R b.new write)

module _ (G : Group) (n x : ℕ) (q : Request) (renewed : ℕ → Bool) (R R' : ℕ → G.carrier) (b : Blocks G.carrier)
    (P : Proper n x q)
    (F : Faithful G n x q renewed R R' b)
    (all : complete n q.graph q.mask q.missed q.done ≡ true)
  where
    -- a working position was not missing when the graph was chosen
    not_missed : (p : ℕ) → p ≤ n → ¬ (p ≡ x) → ¬ (p ≡ q.missed)
    not_missed p l h e = go P.known_card
      where
        go : (n < q.missed) ⊎ (q.missed ≡ x) → ⊥
        go (inl m) = omega arith
        go (inr m) = h (e ∙ m)

    -- every step of the graph is done
    wrote : (p : ℕ) → p ≤ n → writes n q.graph q.mask q.missed p ≡ true → is_done n q (wr p) ≡ true
    unfolding is_done number_of member
    wrote p l e = complete_elim n q.graph q.mask q.missed q.done (n + 2 + p) all (rw (step_of_write n p l) e)

    -- working positions hold the new row
    pub ended_idle : Idle G n x R' b.cell
    ended_idle = record { row = F.new_row; holds = λ p l h. holds p l h (truth q.write) }
      where
        by_write : (p : ℕ) → p ≤ n → ¬ (p ≡ x)
            → (writes n q.graph q.mask q.missed p ≡ true) ⊎ (unmasked n q.mask p ≡ true) → b.cell p ≡ R' p
        by_write p l h (inl e) = F.written p l h (wrote p l e)
        by_write p l h (inr u) = outside_cell G n x q renewed R R' b P F p l h u ∙ sym (F.others_same p u)

        holds : (p : ℕ) → p ≤ n → ¬ (p ≡ x) → (q.write ≡ true) ⊎ (q.write ≡ false) → b.cell p ≡ R' p
        holds p l h (inl w) =
            by_write p l h (writes_all n q.mask q.missed p (row_of n x q P) w l (not_missed p l h))
        holds p l h (inr w) = read_cell G n x q renewed R R' b P F w p l h ∙ sym (F.read_same w p)

    -- a read's blocks are the row's
    pub ended_read : q.write ≡ false → (p : ℕ) → masked n q.mask p ≡ true → b.got p ≡ R p
    unfolding is_done number_of member sums by_graph
    ended_read w p m = go (reads_all n q.mask q.missed p (row_of n x q P) w m)
      where
        l : p ≤ n
        l = omega (arith, masked_below n q.mask p m)

        go : (reads n q.graph q.mask q.missed p ≡ true) ⊎ ((p ≡ q.missed) × (q.graph ≡ 2)) → b.got p ≡ R p
        go (inl e) =
            F.read p l (complete_elim n q.graph q.mask q.missed q.done p all (rw (step_of_read n p l) e))
        go (inr e) =
            ap b.got e.0
            ∙ F.inferred e.1
            (complete_elim n q.graph q.mask q.missed q.done (n + 1) all (rw (step_of_sum n, e.1)))
            ∙ ap R (sym e.0)

-- a missing position of an idle stripe is the sum of the others
pub missing_inferred : (G : Group) (n x : ℕ) (R cell : ℕ → G.carrier) → x ≤ n → Idle G n x R cell
    → R x ≡ sum_to G (suc n) (others G x cell)
unfolding others
missing_inferred G n x R cell l I =
    row_others G n x R l I.row
    ∙ sum_cong G (suc n) (others G x R) (others G x cell) (λ p i. same p (omega arith) (eqb p x) refl)
  where
    same : (p : ℕ) → p ≤ n → (t : Bool) → eqb p x ≡ t → others G x R p ≡ others G x cell p
    same p i true e = rw e
    same p i false e = rw e (sym (I.holds p i (eqb-false p x e)))

-- a stripe whose missing position is filled with that sum holds the row throughout, so it does whichever position goes missing next
pub put_right : (G : Group) (n x y : ℕ) (R cell : ℕ → G.carrier) → x ≤ n → Idle G n x R cell
    → Idle G n y R (changed cell x (sum_to G (suc n) (others G x cell)))
put_right G n x y R cell l I = record { row = I.row; holds = λ p i h. filled p i (truth (eqb p x)) }
  where
    sum : G.carrier
    sum = sum_to G (suc n) (others G x cell)

    filled : (p : ℕ) → p ≤ n → (eqb p x ≡ true) ⊎ (eqb p x ≡ false) → changed cell x sum p ≡ R p
    filled p i (inl e) =
        changed_same cell x sum p (eqb-true p x e) ∙ sym (missing_inferred G n x R cell l I) ∙ ap R (sym (eqb-true p x e))
    filled p i (inr e) = changed_other cell x sum p (eqb-false p x e) ∙ I.holds p i (eqb-false p x e)
