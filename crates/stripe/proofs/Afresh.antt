-- When a step meets the missing position: the graph was chosen with none missing; and where graph 3 is chosen afresh, the step was a read of
-- graph 4 and nothing is written yet.
-- Assumes nothing.
use Prim.Native.Nat.{ℕ, ◌+◌, ◌≤◌, ◌<◌}
use mathlib.Core.Bool.{true, false}
use mathlib.Core.Logic.{◌⊎◌, inl, inr}
use mathlib.Core.Path.{◌≡◌, sym, ◌∙◌}
use Rattle.terms.specs.Sets.{bit}
use Rattle.terms.proofs.Rows.{true≢false, truth}
use Rattle.graph.specs.Choice.{choose}
use Rattle.graph.specs.Steps.{Step, reads, member, unmasked}
use Rattle.stripe.specs.Blocks.{On, by_read, by_write}
use Rattle.stripe.specs.Invariant.{Proper}
use Rattle.stripe.specs.Request.{Request}
use Rattle.stripe.proofs.Chosen.{chosen, row_of}
use Rattle.stripe.proofs.Done.{sum_after, unread_none_written}
use Rattle.stripe.proofs.Places.{reads_not_missing, writes_not_missing, writes_inside, unmasked_read, small_missing}
use Rattle.stripe.proofs.Readied.{Kind, a_read, a_write, Readied}

-- where graph 3 is chosen afresh: the step reads X by graph 4, and nothing is summed or written
pub record OntoSmall (n x : ℕ) (q : Request) : Type 0 where
  pub outside : unmasked n q.mask x ≡ true
  pub reconstruct : q.graph ≡ 4
  pub unread : bit x q.done ≡ false
  pub unsummed : bit (n + 1) q.done ≡ false
  pub unwritten : (p : ℕ) → p ≤ n → bit (n + 2 + p) q.done ≡ false

module _ (n x : ℕ) (q : Request) (P : Proper n x q) (l : x ≤ n) where
  pub none_missed : (s : Step) → member n q.graph q.mask q.missed s ≡ true → On x s → n < q.missed
  unfolding member
  none_missed s m o = go o m P.known_card
    where
      go : {s : Step} → On x s → member n q.graph q.mask q.missed s ≡ true → (n < q.missed) ⊎ (q.missed ≡ x) → n < q.missed
      go o m (inl h) = h
      go by_read m (inr e) = absurd (reads_not_missing n q.mask q.missed x q.graph m (sym e))
      go by_write m (inr e) = absurd (writes_not_missing n q.mask q.missed x q.graph m (sym e))

  small_by_read : reads n q.graph q.mask q.missed x ≡ true → bit x q.done ≡ false
      → (q.write ≡ true) × (unmasked n q.mask x ≡ true) → OntoSmall n x q
  small_by_read r d u =
      record {
        outside = u.1;
        reconstruct = four;
        unread = d;
        unsummed = not_yet (truth (bit (n + 1) q.done));
        unwritten = unread_none_written n q.graph q.mask q.missed q.done (row_of n x q P) P.in_order four x l r d;
      }
    where
      four : q.graph ≡ 4
      four = unmasked_read n q.mask q.missed x (row_of n x q P) u.0 r u.1

      not_yet : (bit (n + 1) q.done ≡ true) ⊎ (bit (n + 1) q.done ≡ false) → bit (n + 1) q.done ≡ false
      not_yet (inl e) = true≢false (sym (sum_after n q.graph q.mask q.missed q.done P.in_order e x l r) ∙ d)
      not_yet (inr e) = e

  small_step : {k : ℕ} {s : Step} → On x s → Kind n k s → member n q.graph q.mask q.missed s ≡ true → bit k q.done ≡ false
      → (q.write ≡ true) × (unmasked n q.mask x ≡ true) → OntoSmall n x q
  unfolding member
  small_step by_read (a_read h) m d u = small_by_read m d u
  small_step by_write (a_write h) m d u = absurd (writes_inside n q.mask q.missed x (row_of n x q P) m u.1)

  pub onto_small : (k : ℕ) (s : Step) → Readied n q.graph q.mask q.missed q.done k s → On x s
      → choose n q.write q.mask x ≡ 3 → OntoSmall n x q
  onto_small k s r o e =
      small_step o r.as_step r.in_graph r.not_done (small_missing n q.mask x (chosen n q.mask x q.write) e l)
