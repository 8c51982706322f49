-- What the done steps of a request tell, since each was done after all that must come before it.
-- Assumes nothing.
use Prim.Native.Nat.{ℕ, ◌+◌, ◌≤◌}
use mathlib.Core.Bool.{Bool, true, false}
use mathlib.Core.Logic.{◌⊎◌, inl, inr}
use mathlib.Core.Path.{◌≡◌, refl, sym, ◌∙◌}
use native.Mathlib.Omega.{arith}
use lib.Dec.{eqb}
use borrow.Author.Tests.{eqb-true, eqb-false}
use Rattle.terms.specs.Sets.{bit}
use Rattle.terms.proofs.Rows.{true≢false, truth}
use Rattle.graph.specs.Order.{any_read, before, cleared, closed}
use Rattle.graph.specs.Steps.{rd, xr, wr, reads, sums, writes, member, unmasked}
use Rattle.graph.proofs.Guard.{all_reads_first, own_read_first, sum_first}
use Rattle.graph.proofs.Laws.{cleared_elim, closed_elim}
use Rattle.graph.proofs.Numbers.{step_of_read, step_of_sum, step_of_write}
use Rattle.stripe.proofs.Chosen.{Chosen}
use Rattle.stripe.proofs.Places.{reads_what, writes_what, writes_inside}

module _ (n g mask x done : ℕ) (order : closed n g mask x done ≡ true) where
  -- a done step is in the graph
  pub read_in : (p : ℕ) → p ≤ n → bit p done ≡ true → reads n g mask x p ≡ true
  unfolding member
  read_in p l b = rw (step_of_read n p l) at (closed_elim n g mask x done p order (omega arith) b).0

  pub sum_in_law : bit (n + 1) done ≡ true → sums g ≡ true
  unfolding member
  sum_in_law b = rw (step_of_sum n) at (closed_elim n g mask x done (n + 1) order (omega arith) b).0

  pub write_in : (p : ℕ) → p ≤ n → bit (n + 2 + p) done ≡ true → writes n g mask x p ≡ true
  unfolding member
  write_in p l b = rw (step_of_write n p l) at (closed_elim n g mask x done (n + 2 + p) order (omega arith) b).0

  -- the exclusive or comes after all the reads
  pub sum_after : bit (n + 1) done ≡ true → (r : ℕ) → r ≤ n → reads n g mask x r ≡ true → bit r done ≡ true
  unfolding before any_read
  sum_after b r l h =
      cleared_elim n g mask x done xr r
      (rw (step_of_sum n) at (closed_elim n g mask x done (n + 1) order (omega arith) b).1)
      (omega arith)
      (rw (step_of_read n r l) h)

  write_cleared : (p : ℕ) → p ≤ n → bit (n + 2 + p) done ≡ true → cleared n g mask x done (wr p) ≡ true
  write_cleared p l b = rw (step_of_write n p l) at (closed_elim n g mask x done (n + 2 + p) order (omega arith) b).1

  -- parity's write comes after the exclusive or
  pub parity_after : (p : ℕ) → p ≡ n → bit (n + 2 + p) done ≡ true → bit (n + 1) done ≡ true
  parity_after p e b =
      cleared_elim n g mask x done (wr p) (n + 1) (write_cleared p (omega arith) b) (omega arith)
      (rw (step_of_sum n, e) (sum_first n g mask x))

  -- a write comes after the reads that graphs 3 and 4 ask before it
  pub write_after : (p r : ℕ) → p ≤ n → r ≤ n → bit (n + 2 + p) done ≡ true → reads n g mask x r ≡ true
      → (g ≡ 4) ⊎ ((g ≡ 3) × (r ≡ p)) → bit r done ≡ true
  write_after p r lp lr b h o = go (truth (eqb p n))
    where
      unit : eqb p n ≡ false → (g ≡ 4) ⊎ ((g ≡ 3) × (r ≡ p)) → before n g mask x (wr p) (rd r) ≡ true
      unit e (inl f) = rw f (all_reads_first n mask x p r (eqb-false p n e) (rw f at h))
      unit e (inr f) = rw (f.0, f.1) (own_read_first n mask x p (eqb-false p n e))

      go : (eqb p n ≡ true) ⊎ (eqb p n ≡ false) → bit r done ≡ true
      go (inl e) = sum_after (parity_after p (eqb-true p n e) b) r lr h
      go (inr e) = cleared_elim n g mask x done (wr p) r (write_cleared p lp b) (omega arith) (rw (step_of_read n r lr) (unit e o))

module _ (n g mask x done : ℕ) {w : Bool} (c : Chosen n mask x w g) (order : closed n g mask x done ≡ true) where
  -- a position that is still to be read is not written yet
  pub unread_unwritten : (p : ℕ) → p ≤ n → reads n g mask x p ≡ true → bit p done ≡ false → bit (n + 2 + p) done ≡ false
  unread_unwritten p l h b = go (truth (bit (n + 2 + p) done))
    where
      contra : writes n g mask x p ≡ true → bit (n + 2 + p) done ≡ true → (w ≡ false) ⊎ ((unmasked n mask p ≡ true) ⊎ (g ≡ 3)) → ⊥
      contra k a (inl f) = true≢false (sym (writes_what n mask x p c k).0 ∙ f)
      contra k a (inr (inl u)) = writes_inside n mask x p c k u
      contra k a (inr (inr f)) = true≢false (sym (write_after n g mask x done order p p l l a h (inr (f, refl))) ∙ b)

      go : (bit (n + 2 + p) done ≡ true) ⊎ (bit (n + 2 + p) done ≡ false) → bit (n + 2 + p) done ≡ false
      go (inl a) = absurd (contra (write_in n g mask x done order p l a) a (reads_what n mask x p c h))
      go (inr a) = a

  -- while graph 4 has a read to do nothing is written
  pub unread_none_written : g ≡ 4 → (r : ℕ) → r ≤ n → reads n g mask x r ≡ true → bit r done ≡ false
      → (p : ℕ) → p ≤ n → bit (n + 2 + p) done ≡ false
  unread_none_written e r l h b p k = go (truth (bit (n + 2 + p) done))
    where
      go : (bit (n + 2 + p) done ≡ true) ⊎ (bit (n + 2 + p) done ≡ false) → bit (n + 2 + p) done ≡ false
      go (inl a) = true≢false (sym (write_after n g mask x done order p r k l a h (inl e)) ∙ b)
      go (inr a) = a
