-- The heart of demand 3: one stripe with at most one open request, for every number n of units and every order of events.
--
-- A stripe has the positions 0 to n, its units and its parity; position x is missing, above n where none is. Two things hold at every moment,
-- and every event keeps them. Of the request's numbers, Proper: its graph is the table's choice for the position that was missing when it was
-- chosen, its done steps are in order, and its count with the steps still wanting stays within 2n+3. Of the blocks, Faithful: with R the row
-- before the request and R' the row after it, a done read holds R, a done exclusive or holds X of R or parity of R', a working position holds
-- R' once it is written, and R before wherever a step or a fresh choice still counts on it; and always one of the two,
-- by whether it was written since admission.
--
-- Why nothing is lost when a card dies half way: units already written are new, so a graph that is chosen afresh must not need old ones. Graphs
-- 4, 5 and 6 need none but units outside the mask, which no write touches. Graph 3 does: it takes parity and the masked units as a consistent
-- old row. But graph 3 is chosen afresh only where the dead card holds a unit outside the mask, and only graph 4 has a step there, a read; and
-- graph 4 writes nothing before all its reads are done. So nothing was written, and the old row is whole.
-- Assumes nothing.
use Prim.Native.Nat.{ℕ, suc, ◌*◌, ◌+◌, ◌^◌, ◌≤◌, ◌<◌}
use mathlib.Core.Bool.{Bool, true, false}
use mathlib.Core.Path.{◌≡◌}
use Rattle.graph.specs.Steps.{step_of, masked}
use Rattle.graph.proofs.Laws.{progress}
use Rattle.stripe.specs.Blocks.{Blocks, On, Alike, changed, performed, renewed_by}
use Rattle.stripe.specs.Group.{Group, sum_to, others}
use Rattle.stripe.specs.Invariant.{Proper, Idle, Faithful, row_after}
use Rattle.stripe.specs.Request.{Request, ready_at, finished, begun, advanced, chosen_afresh}
use Rattle.stripe.proofs.Afresh.{none_missed}
use Rattle.stripe.proofs.Alike.{done_alike}
use Rattle.stripe.proofs.Counts.{begun_proper, step_proper, afresh_proper, failed_proper, count_bound, open_bound}
use Rattle.stripe.proofs.Ends.{begun_after, ended_idle, ended_read, missing_inferred, put_right}
use Rattle.stripe.proofs.Kept.{done_faithful, afresh_faithful, failed_idle, failed_faithful, decayed_idle, decayed_faithful}
use Rattle.stripe.proofs.Opens.{starts_open}
use Rattle.stripe.proofs.Readied.{readied}

-- Of the request's numbers. No block stands here, nor in the definitions of what a step answers and leaves in its record: neither can depend
-- on what a card holds, missing or not
pub record Numbers (n : ℕ) : Type 0 where
  -- a request is admitted
  pub started : (x : ℕ) (write : Bool) (mask : ℕ) → ¬ (mask ≡ 0) → mask < 2 ^ n → Proper n x (begun n write mask x)
  -- a ready step is done
  pub stepped : (x : ℕ) (q : Request) (k : ℕ) → Proper n x q → ready_at n q k ≡ true → Proper n x (advanced q k)
  -- a ready step meets the missing position: none was missing when the graph was chosen, and it is chosen afresh
  pub was_none : (x : ℕ) (q : Request) (k : ℕ) → Proper n x q → x ≤ n → ready_at n q k ≡ true → On x (step_of n k) → n < q.missed
  pub afresh : (x : ℕ) (q : Request) (k : ℕ) → Proper n x q → x ≤ n → ready_at n q k ≡ true → On x (step_of n k)
      → Proper n x (chosen_afresh n q x)
  -- a position fails where none was missing
  pub failed : (x y : ℕ) (q : Request) → Proper n x q → n < x → Proper n y q
  -- at most 2n+3 accepted steps, at most 2n+2 while one is wanting
  pub at_most : (x : ℕ) (q : Request) → Proper n x q → q.count ≤ 2 * n + 3
  pub at_most_open : (x : ℕ) (q : Request) → Proper n x q → finished n q ≡ false → q.count ≤ 2 * n + 2
  -- where a step is wanting one is ready; and one is wanting at admission and after a fresh choice
  pub goes_on : (q : Request) → finished n q ≡ false → (k : ℕ) × (ready_at n q k ≡ true)
  pub starts_wanting : (x : ℕ) (q : Request) → Proper n x q → q.done ≡ 0 → finished n q ≡ false

pub numbers : (n : ℕ) → Numbers n
numbers n =
    record {
      started = begun_proper n;
      stepped = λ x q k P. step_proper n x q P k;
      was_none = λ x q k P l e o. none_missed n x q P l (step_of n k) (readied n q.graph q.mask q.missed q.done k e).in_graph o;
      afresh = λ x q k P l. afresh_proper n x q P l k;
      failed = λ x y q. failed_proper n x y q;
      at_most = λ x q P. count_bound n x q P;
      at_most_open = λ x q P. open_bound n x q P;
      goes_on = λ q. progress n q.graph q.mask q.missed q.done;
      starts_wanting = starts_open n;
    }

-- Of the blocks, in any group in which every element is its own inverse
pub record Heart (G : Group) (n : ℕ) : Type 0 where
  -- a request is admitted to an idle stripe: the row after it has the new units and their parity
  pub started : (x : ℕ) (write : Bool) (mask : ℕ) (R : ℕ → G.carrier) (b : Blocks G.carrier) → Idle G n x R b.cell
      → Faithful G n x (begun n write mask x) (λ p. false) R (row_after G n write mask R b.new) b
  -- a ready step on a working position is done
  pub stepped : (x : ℕ) (q : Request) (k : ℕ) (renewed : ℕ → Bool) (R R' : ℕ → G.carrier) (b : Blocks G.carrier) → Proper n x q → Faithful G n x q renewed R R' b
      → ready_at n q k ≡ true → ¬ On x (step_of n k) → Faithful G n x (advanced q k) (renewed_by (step_of n k) renewed) R R' (performed G n q (step_of n k) b)
  -- a ready step meets the missing position: the graph is chosen afresh, and no block is altered
  pub afresh : (x : ℕ) (q : Request) (k : ℕ) (renewed : ℕ → Bool) (R R' : ℕ → G.carrier) (b : Blocks G.carrier) → Proper n x q → Faithful G n x q renewed R R' b
      → x ≤ n → ready_at n q k ≡ true → On x (step_of n k) → Faithful G n x (chosen_afresh n q x) renewed R R' b
  -- a position fails where none was missing, with a request open and without
  pub failed : (x y : ℕ) (q : Request) (renewed : ℕ → Bool) (R R' : ℕ → G.carrier) (b : Blocks G.carrier) → Faithful G n x q renewed R R' b → n < x
      → Faithful G n y q renewed R R' b
  pub failed_idle : (x y : ℕ) (R cell : ℕ → G.carrier) → Idle G n x R cell → n < x → Idle G n y R cell
  -- what the missing position holds changes
  pub decayed : (x : ℕ) (q : Request) (renewed : ℕ → Bool) (R R' : ℕ → G.carrier) (b : Blocks G.carrier) (cell : ℕ → G.carrier)
      → ((p : ℕ) → p ≤ n → ¬ (p ≡ x) → cell p ≡ b.cell p) → Faithful G n x q renewed R R' b
      → Faithful G n x q renewed R R' (record { cell = cell; got = b.got; new = b.new })
  pub decayed_idle : (x : ℕ) (R before after : ℕ → G.carrier) → ((p : ℕ) → p ≤ n → ¬ (p ≡ x) → after p ≡ before p)
      → Idle G n x R before → Idle G n x R after
  -- the last step is done: working positions hold the new row and its parity; a read's blocks are the row's
  pub ended : (x : ℕ) (q : Request) (renewed : ℕ → Bool) (R R' : ℕ → G.carrier) (b : Blocks G.carrier) → Proper n x q → Faithful G n x q renewed R R' b
      → finished n q ≡ true → Idle G n x R' b.cell
  pub ended_read : (x : ℕ) (q : Request) (renewed : ℕ → Bool) (R R' : ℕ → G.carrier) (b : Blocks G.carrier) → Proper n x q → Faithful G n x q renewed R R' b
      → finished n q ≡ true → q.write ≡ false → (p : ℕ) → masked n q.mask p ≡ true → b.got p ≡ R p
  -- a missing position of an idle stripe is the sum of the others
  pub inferred : (x : ℕ) (R cell : ℕ → G.carrier) → x ≤ n → Idle G n x R cell → R x ≡ sum_to G (suc n) (others G x cell)
  -- and filled with that sum nothing is missing, and the row is the same: the mirror of a failure
  pub put_right : (x y : ℕ) (R cell : ℕ → G.carrier) → x ≤ n → Idle G n x R cell
      → Idle G n y R (changed cell x (sum_to G (suc n) (others G x cell)))
  -- two stripes that differ at the missing position alone stay so
  pub alike : (x : ℕ) (q : Request) (k : ℕ) (b b' : Blocks G.carrier) → Alike n x b b' → ready_at n q k ≡ true → ¬ On x (step_of n k)
      → Alike n x (performed G n q (step_of n k) b) (performed G n q (step_of n k) b')

pub heart : (G : Group) (n : ℕ) → Heart G n
heart G n =
    record {
      started = begun_after G n;
      stepped = λ x q k renewed R R' b P F. done_faithful G n x q renewed R R' b P F k;
      afresh = λ x q k renewed R R' b P F l. afresh_faithful G n x q renewed R R' b P F l k;
      failed = failed_faithful G n;
      failed_idle = failed_idle G n;
      decayed = decayed_faithful G n;
      decayed_idle = decayed_idle G n;
      ended = ended_idle G n;
      ended_read = ended_read G n;
      inferred = missing_inferred G n;
      put_right = put_right G n;
      alike = λ x q k b b' same. done_alike G n x q b b' same k;
    }
