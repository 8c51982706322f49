-- A done step keeps the invariant of the blocks: a read holds the old row, the exclusive or X or the new parity, a write the new row.
-- Assumes nothing.
use Prim.Native.Nat.{ℕ, ◌+◌, ◌≤◌}
use mathlib.Core.Bool.{Bool, true, false, cond}
use mathlib.Core.Logic.{◌⊎◌, inl, inr}
use mathlib.Core.Path.{◌≡◌, refl, sym, ap, ◌∙◌}
use native.Mathlib.Omega.{arith}
use lib.Dec.{eqb}
use borrow.Author.Tests.{eqb-true, eqb-false, eq-eqb, ne_eqb}
use Rattle.terms.specs.Sets.{bit}
use Rattle.terms.proofs.Bits.{bit_add_same, bit_add_other}
use Rattle.terms.proofs.Rows.{true≢false, truth}
use Rattle.graph.specs.Steps.{Step, rd, xr, wr, number_of, reads, sums, writes, unmasked}
use Rattle.graph.specs.Sums.{sums_to_read}
use Rattle.stripe.specs.Blocks.{Blocks, changed, total, performed}
use Rattle.stripe.specs.Group.{Group}
use Rattle.stripe.specs.Invariant.{Proper, Faithful, Untouched, is_done}
use Rattle.stripe.specs.Request.{Request, advanced}
use Rattle.stripe.proofs.Chosen.{row_of}
use Rattle.stripe.proofs.Done.{write_in, unread_unwritten}
use Rattle.stripe.proofs.Places.{masked_below, reads_what, reads_not_missing, writes_what, writes_inside}
use Rattle.stripe.proofs.Sums.{changed_same, changed_other}
use Rattle.stripe.proofs.Totals.{total_is}

-- any other step is done after step k as it was before
pub still : (n : ℕ) (q : Request) (k : ℕ) (s : Step) → bit k q.done ≡ false → ¬ (number_of n s ≡ k)
    → is_done n (advanced q k) s ≡ is_done n q s
unfolding is_done advanced
still n q k s b h = bit_add_other k q.done (number_of n s) b h

module _ (G : Group) (n x : ℕ) (q : Request) (renewed : ℕ → Bool) (R R' : ℕ → G.carrier) (b : Blocks G.carrier)
    (P : Proper n x q)
    (F : Faithful G n x q renewed R R' b)
  where
    -- a read writes nothing, and no unit outside the mask is written: these hold the old row
    unwritten_but : (p : ℕ) → p ≤ n → (writes n q.graph q.mask q.missed p ≡ true → ⊥) → is_done n q (wr p) ≡ false
    unfolding is_done number_of
    unwritten_but p l h = go (truth (bit (n + 2 + p) q.done))
      where
        go : (bit (n + 2 + p) q.done ≡ true) ⊎ (bit (n + 2 + p) q.done ≡ false) → bit (n + 2 + p) q.done ≡ false
        go (inl e) = absurd (h (write_in n q.graph q.mask q.missed q.done P.in_order p l e))
        go (inr e) = e

    pub read_cell : q.write ≡ false → (p : ℕ) → p ≤ n → ¬ (p ≡ x) → b.cell p ≡ R p
    unfolding Untouched
    read_cell w p l h =
        F.unwritten p l h
        (unwritten_but p l (λ e. true≢false (sym (writes_what n q.mask q.missed p (row_of n x q P) e).0 ∙ w)))
        (inl w)

    pub outside_cell : (p : ℕ) → p ≤ n → ¬ (p ≡ x) → unmasked n q.mask p ≡ true → b.cell p ≡ R p
    unfolding Untouched
    outside_cell p l h u =
        F.unwritten p l h (unwritten_but p l (λ e. writes_inside n q.mask q.missed p (row_of n x q P) e u)) (inr (inl u))

    -- a position that is read holds the old row
    read_holds : (p : ℕ) → p ≤ n → ¬ (p ≡ x) → reads n q.graph q.mask q.missed p ≡ true → bit p q.done ≡ false → b.cell p ≡ R p
    unfolding is_done number_of Untouched
    read_holds p l h r d =
        F.unwritten p l h
        (unread_unwritten n q.graph q.mask q.missed q.done (row_of n x q P) P.in_order p l r d)
        (why (reads_what n q.mask q.missed p (row_of n x q P) r))
      where
        why : (q.write ≡ false) ⊎ ((unmasked n q.mask p ≡ true) ⊎ (q.graph ≡ 3)) → Untouched n q p
        why (inl a) = inl a
        why (inr (inl a)) = inr (inl a)
        why (inr (inr a)) = inr (inr (inl a))

    -- a read
    pub read_done : (p : ℕ) → p ≤ n → ¬ (p ≡ x) → reads n q.graph q.mask q.missed p ≡ true → bit p q.done ≡ false
        → Faithful G n x (advanced q p) renewed R R' (performed G n q (rd p) b)
    unfolding performed advanced number_of Untouched
    read_done p l h r d =
        record {
          old_row = F.old_row;
          new_row = F.new_row;
          read_same = F.read_same;
          others_same = F.others_same;
          kept = F.kept;
          read = λ i k e. reading i k e (truth (eqb i p));
          inferred = λ f e.
              changed_other b.got p (b.cell p) q.missed (λ i. reads_not_missing n q.mask q.missed p q.graph r (sym i))
              ∙ F.inferred f (sym sum_still ∙ e);
          computed = λ f e. F.computed f (sym sum_still ∙ e);
          written = λ i k m e. F.written i k m (sym (write_still i) ∙ e);
          unwritten = λ i k m e u. F.unwritten i k m (sym (write_still i) ∙ e) u;
          either = F.either;
        }
      where
        sum_still : is_done n (advanced q p) xr ≡ is_done n q xr
        sum_still = still n q p xr d (λ j. omega arith)

        write_still : (i : ℕ) → is_done n (advanced q p) (wr i) ≡ is_done n q (wr i)
        write_still i = still n q p (wr i) d (λ j. omega arith)

        reading : (i : ℕ) → i ≤ n → is_done n (advanced q p) (rd i) ≡ true → (eqb i p ≡ true) ⊎ (eqb i p ≡ false)
            → changed b.got p (b.cell p) i ≡ R i
        reading i k e (inl t) =
            changed_same b.got p (b.cell p) i (eqb-true i p t) ∙ read_holds p l h r d ∙ ap R (sym (eqb-true i p t))
        reading i k e (inr t) =
            changed_other b.got p (b.cell p) i (eqb-false i p t)
            ∙ F.read i k (sym (still n q p (rd i) d (eqb-false i p t)) ∙ e)

    -- a write
    pub write_done : (p : ℕ) → p ≤ n → bit (n + 2 + p) q.done ≡ false → b.new p ≡ R' p
        → Faithful G n x (advanced q (n + 2 + p)) (changed renewed p true) R R' (performed G n q (wr p) b)
    unfolding performed advanced number_of is_done Untouched
    write_done p l d new =
        record {
          old_row = F.old_row;
          new_row = F.new_row;
          read_same = F.read_same;
          others_same = F.others_same;
          kept = F.kept;
          read = λ i k e. F.read i k (sym (still n q (n + 2 + p) (rd i) d (λ j. omega arith)) ∙ e);
          inferred = λ f e. F.inferred f (sym sum_still ∙ e);
          computed = λ f e. F.computed f (sym sum_still ∙ e);
          written = λ i k m e. writing i k m e (truth (eqb i p));
          unwritten = λ i k m e u. waiting i k m e u (truth (eqb i p));
          either = λ i k m. old_or_new i k m (truth (eqb i p));
        }
      where
        sum_still : is_done n (advanced q (n + 2 + p)) xr ≡ is_done n q xr
        sum_still = still n q (n + 2 + p) xr d (λ j. omega arith)

        write_still : (i : ℕ) → eqb i p ≡ false → is_done n (advanced q (n + 2 + p)) (wr i) ≡ is_done n q (wr i)
        write_still i t = still n q (n + 2 + p) (wr i) d (λ j. eqb-false i p t (omega arith))

        -- position p is new, the others are as they were
        here : (i : ℕ) → eqb i p ≡ true → changed b.cell p (b.new p) i ≡ R' i
        here i t = changed_same b.cell p (b.new p) i (eqb-true i p t) ∙ new ∙ ap R' (sym (eqb-true i p t))

        old_or_new : (i : ℕ) → i ≤ n → ¬ (i ≡ x) → (eqb i p ≡ true) ⊎ (eqb i p ≡ false)
            → changed b.cell p (b.new p) i ≡ cond (changed renewed p true i) (R' i) (R i)
        old_or_new i k m (inl t) = rw (changed_same renewed p true i (eqb-true i p t)) (here i t)
        old_or_new i k m (inr t) =
            rw (changed_other renewed p true i (eqb-false i p t))
            (changed_other b.cell p (b.new p) i (eqb-false i p t) ∙ F.either i k m)

        writing : (i : ℕ) → i ≤ n → ¬ (i ≡ x) → is_done n (advanced q (n + 2 + p)) (wr i) ≡ true → (eqb i p ≡ true) ⊎ (eqb i p ≡ false)
            → changed b.cell p (b.new p) i ≡ R' i
        writing i k m e (inl t) = here i t
        writing i k m e (inr t) =
            changed_other b.cell p (b.new p) i (eqb-false i p t) ∙ F.written i k m (sym (write_still i t) ∙ e)

        waiting : (i : ℕ) → i ≤ n → ¬ (i ≡ x) → is_done n (advanced q (n + 2 + p)) (wr i) ≡ false → Untouched n q i
            → (eqb i p ≡ true) ⊎ (eqb i p ≡ false) → changed b.cell p (b.new p) i ≡ R i
        waiting i k m e u (inl t) =
            true≢false (sym (bit_add_same (n + 2 + p) q.done d) ∙ ap (λ (j : ℕ). is_done n (advanced q (n + 2 + p)) (wr j)) (sym (eqb-true i p t)) ∙ e)
        waiting i k m e u (inr t) =
            changed_other b.cell p (b.new p) i (eqb-false i p t) ∙ F.unwritten i k m (sym (write_still i t) ∙ e) u

    -- the exclusive or, where it goes to the read block of X
    sum_to_read : bit (n + 1) q.done ≡ false → q.graph ≡ 2 → total G n q b ≡ R q.missed
        → Faithful G n x (advanced q (n + 1)) renewed R R'
        (record { cell = b.cell; got = changed b.got q.missed (total G n q b); new = b.new })
    unfolding advanced number_of Untouched
    sum_to_read d g t =
        record {
          old_row = F.old_row;
          new_row = F.new_row;
          read_same = F.read_same;
          others_same = F.others_same;
          kept = F.kept;
          read = λ i k e. reading i k e (truth (eqb i q.missed));
          inferred = λ f e. changed_same b.got q.missed (total G n q b) q.missed refl ∙ t;
          computed = λ f e. absurd (f g);
          written = λ i k m e. F.written i k m (sym (write_still i) ∙ e);
          unwritten = λ i k m e u. F.unwritten i k m (sym (write_still i) ∙ e) u;
          either = F.either;
        }
      where
        write_still : (i : ℕ) → is_done n (advanced q (n + 1)) (wr i) ≡ is_done n q (wr i)
        write_still i = still n q (n + 1) (wr i) d (λ j. omega arith)

        reading : (i : ℕ) → i ≤ n → is_done n (advanced q (n + 1)) (rd i) ≡ true → (eqb i q.missed ≡ true) ⊎ (eqb i q.missed ≡ false)
            → changed b.got q.missed (total G n q b) i ≡ R i
        reading i k e (inl a) =
            changed_same b.got q.missed (total G n q b) i (eqb-true i q.missed a) ∙ t ∙ ap R (sym (eqb-true i q.missed a))
        reading i k e (inr a) =
            changed_other b.got q.missed (total G n q b) i (eqb-false i q.missed a)
            ∙ F.read i k (sym (still n q (n + 1) (rd i) d (λ j. omega arith)) ∙ e)

    -- the exclusive or, where it goes to the last block to write
    sum_to_new : bit (n + 1) q.done ≡ false → ¬ (q.graph ≡ 2) → total G n q b ≡ R' n
        → Faithful G n x (advanced q (n + 1)) renewed R R' (record { cell = b.cell; got = b.got; new = changed b.new n (total G n q b) })
    unfolding advanced number_of Untouched
    sum_to_new d g t =
        record {
          old_row = F.old_row;
          new_row = F.new_row;
          read_same = F.read_same;
          others_same = F.others_same;
          kept = λ w i m.
              changed_other b.new n (total G n q b) i (λ j. omega (arith, masked_below n q.mask i m)) ∙ F.kept w i m;
          read = λ i k e. F.read i k (sym (still n q (n + 1) (rd i) d (λ j. omega arith)) ∙ e);
          inferred = λ f e. absurd (g f);
          computed = λ f e. changed_same b.new n (total G n q b) n refl ∙ t;
          written = λ i k m e. F.written i k m (sym (write_still i) ∙ e);
          unwritten = λ i k m e u. F.unwritten i k m (sym (write_still i) ∙ e) u;
          either = F.either;
        }
      where
        write_still : (i : ℕ) → is_done n (advanced q (n + 1)) (wr i) ≡ is_done n q (wr i)
        write_still i = still n q (n + 1) (wr i) d (λ j. omega arith)

    pub sum_done : bit (n + 1) q.done ≡ false → sums q.graph ≡ true
        → ((r : ℕ) → r ≤ n → reads n q.graph q.mask q.missed r ≡ true → bit r q.done ≡ true)
        → Faithful G n x (advanced q (n + 1)) renewed R R' (performed G n q xr b)
    unfolding performed total sums_to_read is_done number_of
    sum_done d s all =
        go
        (total_is G n q.mask q.missed R R' F.others_same F.old_row F.new_row (row_of n x q P) s b.got b.new
        (λ r l h. F.read r l (all r l h)) F.kept)
      where
        go : ((q.graph ≡ 2) × (total G n q b ≡ R q.missed)) ⊎ ((¬ (q.graph ≡ 2)) × (total G n q b ≡ R' n))
            → Faithful G n x (advanced q (n + 1)) renewed R R' (performed G n q xr b)
        go (inl a) = rw (eq-eqb q.graph 2 a.0, performed) (sum_to_read d a.0 a.1)
        go (inr a) = rw (ne_eqb q.graph 2 a.0, performed) (sum_to_new d a.0 a.1)
