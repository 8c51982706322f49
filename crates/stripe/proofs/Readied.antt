-- A step number together with its step, so that proofs go by the three kinds of steps; and a ready step in these terms.
-- Assumes nothing.
use Prim.Native.Nat.{ℕ, ◌+◌, ◌≤◌}
use mathlib.Core.Bool.{true, false}
use mathlib.Core.Path.{◌≡◌}
use Rattle.terms.specs.Sets.{bit}
use Rattle.graph.specs.Order.{cleared, ready}
use Rattle.graph.specs.Steps.{Step, rd, xr, wr, step_of, member}
use Rattle.graph.proofs.Laws.{ready_elim, member_below}
use Rattle.graph.proofs.Numbers.{Numbered, reading, summing, writing, numbered, step_of_read, step_of_sum, step_of_write}

pub data Kind (n : ℕ) : ℕ → Step → Type 0 where
  a_read : {p : ℕ} → p ≤ n → Kind n p (rd p)
  a_sum : Kind n (n + 1) xr
  a_write : {p : ℕ} → p ≤ n → Kind n (n + 2 + p) (wr p)

kind : (n k : ℕ) → Numbered n k → Kind n k (step_of n k)
kind n k (reading p l e) = rw (e, step_of_read n p l) (a_read l)
kind n k (summing e) = rw (e, step_of_sum n) a_sum
kind n k (writing p l e) = rw (e, step_of_write n p l) (a_write l)

-- step k, which is s, is ready
pub record Readied (n g mask x done k : ℕ) (s : Step) : Type 0 where
  pub as_step : Kind n k s
  pub in_graph : member n g mask x s ≡ true
  pub not_done : bit k done ≡ false
  pub lacks_none_law : cleared n g mask x done s ≡ true

pub readied : (n g mask x done k : ℕ) → ready n g mask x done k ≡ true → Readied n g mask x done k (step_of n k)
readied n g mask x done k e =
    let r = ready_elim n g mask x done k e in
    record {
      as_step = kind n k (numbered n k (member_below n g mask x k r.in_graph));
      in_graph = r.in_graph;
      not_done = r.not_done;
      lacks_none_law = r.lacks_none_law;
    }
