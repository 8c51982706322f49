-- What happens to a stripe keeps the invariant of its blocks: a done step, a fresh choice, a failure, decay of what is missing; the start
-- and the end of a request.
-- Assumes nothing.
use Prim.Native.Nat.{ℕ, ◌+◌, ◌≤◌, ◌<◌}
use mathlib.Core.Bool.{Bool, true, false}
use mathlib.Core.Logic.{◌⊎◌, inl, inr}
use mathlib.Core.Path.{◌≡◌, sym, ap, subst, ◌∙◌}
use native.Mathlib.Omega.{arith}
use borrow.Author.Tests.{eq-eqb}
use Rattle.terms.specs.Sets.{bit}
use Rattle.terms.proofs.Bits.{bit_none}
use Rattle.terms.proofs.Rows.{true≢false}
use Rattle.graph.specs.Order.{any_read, is_sum, before, cleared, ready}
use Rattle.graph.specs.Steps.{Step, rd, xr, wr, step_of, number_of, reads, writes, member, masked}
use Rattle.graph.proofs.Laws.{cleared_elim}
use Rattle.graph.proofs.Numbers.{step_of_read, step_of_sum}
use Rattle.stripe.specs.Blocks.{Blocks, On, by_read, performed, renewed_by}
use Rattle.stripe.specs.Group.{Group}
use Rattle.stripe.specs.Invariant.{Proper, Faithful, Idle, Untouched, is_done}
use Rattle.stripe.specs.Request.{Request, advanced, chosen_afresh}
use Rattle.stripe.proofs.Afresh.{none_missed, onto_small}
use Rattle.stripe.proofs.Chosen.{row_of}
use Rattle.stripe.proofs.Readied.{Kind, a_read, a_sum, a_write, Readied, readied}
use Rattle.stripe.proofs.Places.{writes_what}
use Rattle.stripe.proofs.Steps.{read_cell, outside_cell, read_done, sum_done, write_done}

module _ (G : Group) (n x : ℕ) (q : Request) (renewed : ℕ → Bool) (R R' : ℕ → G.carrier) (b : Blocks G.carrier)
    (P : Proper n x q)
    (F : Faithful G n x q renewed R R' b)
  where
    -- what is to be written is the new row
    new_holds : (p : ℕ) → p ≤ n → writes n q.graph q.mask q.missed p ≡ true
        → cleared n q.graph q.mask q.missed q.done (wr p) ≡ true → b.new p ≡ R' p
    unfolding before is_sum is_done number_of
    new_holds p l w c = go (writes_what n q.mask q.missed p (row_of n x q P) w)
      where
        summed : p ≡ n → bit (n + 1) q.done ≡ true
        summed e =
            cleared_elim n q.graph q.mask q.missed q.done (wr p) (n + 1) c (omega arith) (rw (step_of_sum n, eq-eqb p n e))

        go : (q.write ≡ true) × ((masked n q.mask p ≡ true) ⊎ ((p ≡ n) × (¬ (q.graph ≡ 2)))) → b.new p ≡ R' p
        go (t, inl m) = F.kept t p m
        go (t, inr e) = ap b.new e.0 ∙ F.computed e.1 (summed e.0) ∙ ap R' (sym e.0)

    -- the exclusive or's reads are done
    reads_done : cleared n q.graph q.mask q.missed q.done xr ≡ true
        → (r : ℕ) → r ≤ n → reads n q.graph q.mask q.missed r ≡ true → bit r q.done ≡ true
    unfolding before any_read
    reads_done c r l h =
        cleared_elim n q.graph q.mask q.missed q.done xr r c (omega arith) (rw (step_of_read n r l) h)

    step_faithful : (k : ℕ) (s : Step) → Kind n k s → member n q.graph q.mask q.missed s ≡ true → bit k q.done ≡ false
        → cleared n q.graph q.mask q.missed q.done s ≡ true → ¬ On x s
        → Faithful G n x (advanced q k) (renewed_by s renewed) R R' (performed G n q s b)
    unfolding member renewed_by
    step_faithful k s (a_read {p} l) m d c h =
        read_done G n x q renewed R R' b P F p l (λ i. h (subst (λ (y : ℕ). On y (rd p)) i by_read)) m d
    step_faithful k s a_sum m d c h = sum_done G n x q renewed R R' b P F d m (reads_done c)
    step_faithful k s (a_write {p} l) m d c h = write_done G n x q renewed R R' b P F p l d (new_holds p l m c)

    -- a ready step on a working position
    pub done_faithful : (k : ℕ) → ready n q.graph q.mask q.missed q.done k ≡ true → ¬ On x (step_of n k)
        → Faithful G n x (advanced q k) (renewed_by (step_of n k) renewed) R R' (performed G n q (step_of n k) b)
    done_faithful k e h =
        let r = readied n q.graph q.mask q.missed q.done k e in
        step_faithful k (step_of n k) r.as_step r.in_graph r.not_done r.lacks_none_law h

    -- a fresh choice, where a ready step meets the missing position
    pub afresh_faithful : x ≤ n → (k : ℕ) → ready n q.graph q.mask q.missed q.done k ≡ true → On x (step_of n k)
        → Faithful G n x (chosen_afresh n q x) renewed R R' b
    unfolding chosen_afresh is_done number_of Untouched
    afresh_faithful l k e o =
        record {
          old_row = F.old_row;
          new_row = F.new_row;
          read_same = F.read_same;
          others_same = F.others_same;
          kept = F.kept;
          read = λ p i d. true≢false (sym d ∙ bit_none p);
          inferred = λ f d. true≢false (sym d ∙ bit_none (n + 1));
          computed = λ f d. true≢false (sym d ∙ bit_none (n + 1));
          written = λ p i h d. true≢false (sym d ∙ bit_none (n + 2 + p));
          unwritten = λ p i h d u. untouched p i h u;
          either = F.either;
        }
      where
        r : Readied n q.graph q.mask q.missed q.done k (step_of n k)
        r = readied n q.graph q.mask q.missed q.done k e

        untouched : (p : ℕ) → p ≤ n → ¬ (p ≡ x) → Untouched n (chosen_afresh n q x) p → b.cell p ≡ R p
        untouched p i h (inl w) = read_cell G n x q renewed R R' b P F w p i h
        untouched p i h (inr (inl u)) = outside_cell G n x q renewed R R' b P F p i h u
        untouched p i h (inr (inr (inl g))) =
            F.unwritten p i h ((onto_small n x q P l k (step_of n k) r o g).unwritten p i)
            (inr (inr (inr (none_missed n x q P l (step_of n k) r.in_graph o))))
        untouched p i h (inr (inr (inr m))) = absurd (omega arith)

-- a position fails where none was missing
pub failed_idle : (G : Group) (n x y : ℕ) (R cell : ℕ → G.carrier) → Idle G n x R cell → n < x → Idle G n y R cell
failed_idle G n x y R cell I h = record { row = I.row; holds = λ p l m. I.holds p l (λ i. omega arith) }

pub failed_faithful : (G : Group) (n x y : ℕ) (q : Request) (renewed : ℕ → Bool) (R R' : ℕ → G.carrier) (b : Blocks G.carrier)
    → Faithful G n x q renewed R R' b → n < x → Faithful G n y q renewed R R' b
failed_faithful G n x y q renewed R R' b F h =
    record {
      old_row = F.old_row;
      new_row = F.new_row;
      read_same = F.read_same;
      others_same = F.others_same;
      kept = F.kept;
      read = F.read;
      inferred = F.inferred;
      computed = F.computed;
      written = λ p l m e. F.written p l (λ i. omega arith) e;
      unwritten = λ p l m e u. F.unwritten p l (λ i. omega arith) e u;
      either = λ p l m. F.either p l (λ i. omega arith);
    }

-- what a missing position holds may change
pub decayed_idle : (G : Group) (n x : ℕ) (R cell cell' : ℕ → G.carrier) → ((p : ℕ) → p ≤ n → ¬ (p ≡ x) → cell' p ≡ cell p)
    → Idle G n x R cell → Idle G n x R cell'
decayed_idle G n x R cell cell' e I = record { row = I.row; holds = λ p l h. e p l h ∙ I.holds p l h }

pub decayed_faithful : (G : Group) (n x : ℕ) (q : Request) (renewed : ℕ → Bool) (R R' : ℕ → G.carrier) (b : Blocks G.carrier) (cell' : ℕ → G.carrier)
    → ((p : ℕ) → p ≤ n → ¬ (p ≡ x) → cell' p ≡ b.cell p)
    → Faithful G n x q renewed R R' b → Faithful G n x q renewed R R' (record { cell = cell'; got = b.got; new = b.new })
decayed_faithful G n x q renewed R R' b cell' e F =
    record {
      old_row = F.old_row;
      new_row = F.new_row;
      read_same = F.read_same;
      others_same = F.others_same;
      kept = F.kept;
      read = F.read;
      inferred = F.inferred;
      computed = F.computed;
      written = λ p l m d. e p l m ∙ F.written p l m d;
      unwritten = λ p l m d u. e p l m ∙ F.unwritten p l m d u;
      either = λ p l m. e p l m ∙ F.either p l m;
    }
