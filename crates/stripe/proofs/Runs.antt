-- The heart as one sentence: whatever happens to a stripe with one open request, and in whatever order, what is said here holds.
-- Assumes nothing.
use Prim.Native.Nat.{ℕ, suc, ◌*◌, ◌+◌, ◌^◌, ◌≤◌, ◌<◌}
use mathlib.Core.Bool.{Bool, true, false, cond}
use mathlib.Core.Path.{◌≡◌, refl, sym, ◌∙◌}
use Rattle.graph.specs.Steps.{step_of, masked}
use Rattle.stripe.specs.Blocks.{Blocks, renewed_by}
use Rattle.stripe.specs.Group.{Group, sum_to, others}
use Rattle.stripe.specs.Invariant.{Proper, Idle, Faithful, row_after}
use Rattle.stripe.specs.Request.{Request, ready_at, finished, begun, advanced, chosen_afresh}
use Rattle.stripe.specs.Run.{Run, admitted, stepped, afresh, failed, decayed}
use Rattle.stripe.proofs.Heart.{numbers, heart}

module _ (G : Group) (n : ℕ) (write : Bool) (mask : ℕ) (R new : ℕ → G.carrier) where
  -- at the end of a run, position x missing, the request's numbers q and the blocks b
  pub record Safe (x : ℕ) (q : Request) (b : Blocks G.carrier) : Type 0 where
    -- at most 2n+3 accepted steps, at most 2n+2 while one is wanting, and then one is ready
    pub at_most : q.count ≤ 2 * n + 3
    pub at_most_open : finished n q ≡ false → q.count ≤ 2 * n + 2
    pub goes_on : finished n q ≡ false → (k : ℕ) × (ready_at n q k ≡ true)
    -- at every moment a working position holds the new row where it was written, and the old one where it was not
    pub renewed : ℕ → Bool
    pub either : (p : ℕ) → p ≤ n → ¬ (p ≡ x) → b.cell p ≡ cond (renewed p) (row_after G n write mask R new p) (R p)
    -- once it is finished: working positions hold the new row, a missing one is the sum of the others, a read's blocks are the row's
    pub holds : finished n q ≡ true → (p : ℕ) → p ≤ n → ¬ (p ≡ x) → b.cell p ≡ row_after G n write mask R new p
    pub infers : finished n q ≡ true → x ≤ n → sum_to G (suc n) (others G x b.cell) ≡ row_after G n write mask R new x
    pub gives : finished n q ≡ true → write ≡ false → (p : ℕ) → masked n mask p ≡ true → b.got p ≡ R p

  -- a run keeps the invariant, and the request its kind and mask
  record Kept (x : ℕ) (q : Request) (b : Blocks G.carrier) : Type 0 where
    same_write : q.write ≡ write
    same_mask : q.mask ≡ mask
    proper : Proper n x q
    renewed : ℕ → Bool
    faithful : Faithful G n x q renewed R (row_after G n write mask R new) b

  module _ (some : ¬ (mask ≡ 0)) (units : mask < 2 ^ n) where
    run_kept : {x : ℕ} {q : Request} {b : Blocks G.carrier} → Run G n write mask R new x q b → Kept x q b
    unfolding begun advanced chosen_afresh
    run_kept (admitted x cell got idle) =
        record {
          same_write = refl;
          same_mask = refl;
          proper = (numbers n).started x write mask some units;
          renewed = λ p. false;
          faithful = (heart G n).started x write mask R (record { cell = cell; got = got; new = new }) idle;
        }
    run_kept (stepped {x} {q} {b} r k e h) =
        let i = run_kept r in
        record {
          same_write = i.same_write;
          same_mask = i.same_mask;
          proper = (numbers n).stepped x q k i.proper e;
          renewed = renewed_by (step_of n k) i.renewed;
          faithful = (heart G n).stepped x q k i.renewed R (row_after G n write mask R new) b i.proper i.faithful e h;
        }
    run_kept (afresh {x} {q} {b} r k e o l) =
        let i = run_kept r in
        record {
          same_write = i.same_write;
          same_mask = i.same_mask;
          proper = (numbers n).afresh x q k i.proper l e o;
          renewed = i.renewed;
          faithful = (heart G n).afresh x q k i.renewed R (row_after G n write mask R new) b i.proper i.faithful l e o;
        }
    run_kept (failed {x} {q} {b} r h y) =
        let i = run_kept r in
        record {
          same_write = i.same_write;
          same_mask = i.same_mask;
          proper = (numbers n).failed x y q i.proper h;
          renewed = i.renewed;
          faithful = (heart G n).failed x y q i.renewed R (row_after G n write mask R new) b i.faithful h;
        }
    run_kept (decayed {x} {q} {b} r cell same) =
        let i = run_kept r in
        record {
          same_write = i.same_write;
          same_mask = i.same_mask;
          proper = i.proper;
          renewed = i.renewed;
          faithful = (heart G n).decayed x q i.renewed R (row_after G n write mask R new) b cell same i.faithful;
        }

    pub every_run : {x : ℕ} {q : Request} {b : Blocks G.carrier} → Run G n write mask R new x q b → Safe x q b
    every_run {x} {q} {b} r =
        let i = run_kept r in
        let idle : finished n q ≡ true → Idle G n x (row_after G n write mask R new) b.cell =
        (heart G n).ended x q i.renewed R (row_after G n write mask R new) b i.proper i.faithful in
        record {
          at_most = (numbers n).at_most x q i.proper;
          at_most_open = (numbers n).at_most_open x q i.proper;
          goes_on = (numbers n).goes_on q;
          renewed = i.renewed;
          either = i.faithful.either;
          holds = λ e. (idle e).holds;
          infers = λ e l. sym ((heart G n).inferred x (row_after G n write mask R new) b.cell l (idle e));
          gives = λ e w p m.
              (heart G n).ended_read x q i.renewed R (row_after G n write mask R new) b i.proper i.faithful e (i.same_write ∙ w) p
              (rw i.same_mask m);
        }
