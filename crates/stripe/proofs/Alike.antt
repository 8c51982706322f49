-- What the missing position holds is never asked: two stripes that differ there alone stay so through a step.
-- Assumes nothing.
use Prim.Native.Nat.{ℕ, suc}
use mathlib.Core.Bool.{Bool, true, false, cond}
use mathlib.Core.Path.{◌≡◌, ap, ap₂, subst}
use lib.Dec.{eqb}
use Rattle.graph.specs.Order.{ready}
use Rattle.graph.specs.Steps.{Step, rd, step_of, reads}
use Rattle.graph.specs.Sums.{takes_new, sums_to_read}
use Rattle.stripe.specs.Blocks.{Blocks, On, by_read, Alike, changed, total, performed}
use Rattle.stripe.specs.Group.{Group}
use Rattle.stripe.specs.Request.{Request}
use Rattle.stripe.proofs.Readied.{Kind, a_read, a_sum, a_write, readied}
use Rattle.stripe.proofs.Sums.{sum_cong}

changed_cong : {A : Type 0} (f g : ℕ → A) (p : ℕ) (a c : A) (i : ℕ) → a ≡ c → f i ≡ g i → changed f p a i ≡ changed g p c i
unfolding changed
changed_cong f g p a c i e h = ap₂ (λ s t. cond (eqb i p) s t) e h

module _ (G : Group) (n x : ℕ) (q : Request) (b b' : Blocks G.carrier) (same : Alike n x b b') where
  total_alike : total G n q b ≡ total G n q b'
  unfolding total
  total_alike =
      ap₂ G.add
      (sum_cong G (suc n) _ _ (λ p l. ap (λ (a : G.carrier). cond (reads n q.graph q.mask q.missed p) a G.nought) (same.same_got p)))
      (sum_cong G (suc n) _ _ (λ p l. ap (λ (a : G.carrier). cond (takes_new n q.graph q.mask p) a G.nought) (same.same_new p)))

  step_alike : (k : ℕ) (s : Step) → Kind n k s → ¬ On x s → Alike n x (performed G n q s b) (performed G n q s b')
  unfolding performed
  step_alike k s (a_read {p} l) h =
      record {
        same_cell = same.same_cell;
        same_got = λ i.
            changed_cong b.got b'.got p (b.cell p) (b'.cell p) i
            (same.same_cell p l (λ e. h (subst (λ (y : ℕ). On y (rd p)) e by_read)))
            (same.same_got i);
        same_new = same.same_new;
      }
  step_alike k s a_sum h = sums (sums_to_read q.graph)
    where
      sums : (t : Bool) → Alike n x
          (cond t
          (record { cell = b.cell; got = changed b.got q.missed (total G n q b); new = b.new })
          (record { cell = b.cell; got = b.got; new = changed b.new n (total G n q b) }))
          (cond t
          (record { cell = b'.cell; got = changed b'.got q.missed (total G n q b'); new = b'.new })
          (record { cell = b'.cell; got = b'.got; new = changed b'.new n (total G n q b') }))
      sums true =
          record {
            same_cell = same.same_cell;
            same_got = λ i. changed_cong b.got b'.got q.missed (total G n q b) (total G n q b') i total_alike (same.same_got i);
            same_new = same.same_new;
          }
      sums false =
          record {
            same_cell = same.same_cell;
            same_got = same.same_got;
            same_new = λ i. changed_cong b.new b'.new n (total G n q b) (total G n q b') i total_alike (same.same_new i);
          }
  step_alike k s (a_write {p} l) h =
      record {
        same_cell = λ i j m. changed_cong b.cell b'.cell p (b.new p) (b'.new p) i (same.same_new p) (same.same_cell i j m);
        same_got = same.same_got;
        same_new = same.same_new;
      }

  pub done_alike : (k : ℕ) → ready n q.graph q.mask q.missed q.done k ≡ true → ¬ On x (step_of n k)
      → Alike n x (performed G n q (step_of n k) b) (performed G n q (step_of n k) b')
  done_alike k e h = step_alike k (step_of n k) (readied n q.graph q.mask q.missed q.done k e).as_step h
