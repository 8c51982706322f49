-- What the functions on sets answer: a set as a number, where the units of a stripe are within the array's limits.
-- Assumes nothing.
use Rattle.std.specs.Prelude.{ℕ, ◌+◌, ◌-◌, ◌*◌, ◌/◌, ◌^◌, ltb, leb, eqb, Bool, true, false, cond, not, ◌&&◌, ◌||◌, Option, None, Some}
use Rattle.std.specs.Int.Bits.{bit_and}
use Rattle.terms.specs.Sets.{bit, set_of}
use Rattle.graph.specs.Order.{before, after, complete, closed}
use Rattle.graph.specs.Steps.{Step, rd, xr, wr, nil, step_of, step_numbers, by_graph, reads, member}
use Rattle.graph.specs.declared.plan.Judged.{Judged}
use Rattle.graph.specs.declared.steps.Action.{Action}
use Rattle.graph.specs.declared.steps.Action.TheVariants.{Read, Sum, Write}

-- n, the units of a stripe, is at most 7: N is at most 8. The functions on sets answer no, or the empty set, for a larger n
unfoldable pub few_units : ℕ → Bool
few_units n = leb n 7

-- the step that an action stands for; no step where there is none
unfoldable pub action_step : Option Action → Step
action_step (Some (Read p)) = rd p
action_step (Some Sum) = xr
action_step (Some (Write p)) = wr p
action_step None = nil

-- the steps of the graph
unfoldable pub step_set : ℕ → ℕ → ℕ → ℕ → ℕ
step_set n g mask x = set_of (step_numbers n) (λ k. member n g mask x (step_of n k))

-- what must come before step k
unfoldable pub before_set : ℕ → ℕ → ℕ → ℕ → ℕ → ℕ
before_set n g mask x k = set_of (step_numbers n) (λ j. before n g mask x (step_of n k) (step_of n j))

-- set a is a part of set b
unfoldable pub part_of : ℕ → ℕ → Bool
part_of a b = eqb (bit_and a b) a

-- what must come before a step, by the positions that the graph reads
unfoldable pub needed_by : ℕ → ℕ → ℕ → Step → ℕ
needed_by n g reading (rd p) = 0
needed_by n g reading xr = reading
needed_by n g reading (wr p) =
    cond (eqb p n) (2 ^ (n + 1)) (cond (ltb p n) (cond (eqb g 3) (2 ^ p) (cond (eqb g 4) reading 0)) 0)
needed_by n g reading nil = 0

-- step k, which is s, is ready, by the graph's steps and the positions that it reads
unfoldable pub ready_by : ℕ → ℕ → ℕ → ℕ → ℕ → ℕ → Step → Bool
ready_by n g whole reading done k s = bit k whole && not (bit k done) && part_of (needed_by n g reading s) done

-- the units whose writes are done
abbrev pub written : ℕ → ℕ → ℕ
written n done = bit_and (done / 2 ^ (n + 2)) (2 ^ n - 1)

-- the done steps belong to the graph, each with its forerunners, by the graph's steps and the positions that it reads: five tests on whole sets
unfoldable pub in_order_by : ℕ → ℕ → ℕ → ℕ → ℕ → Bool
in_order_by n g reading whole done =
    part_of done whole
    && (not (bit (n + 1) done) || part_of reading done)
    && (not (bit (2 * n + 2) done) || bit (n + 1) done)
    && by_graph g
    true
    true
    (part_of (written n done) done)
    (eqb (written n done) 0 || part_of reading done)
    true
    true
    true

-- of done steps: whether they belong to the graph, each with its forerunners, and whether none is wanting; the graph's steps and what it reads
unfoldable pub judged : ℕ → ℕ → ℕ → ℕ → ℕ → Judged
judged n g mask x done =
    cond (few_units n)
    (record {
      right = closed n g mask x done;
      whole = complete n g mask x done;
      steps = step_set n g mask x;
      reads = set_of (n + 1) (reads n g mask x);
    })
    (record { right = false; whole = false; steps = 0; reads = 0 })

-- the done steps after step k; as they were where k is done already, or is no place of a word of 64 bits
unfoldable pub after_or : ℕ → ℕ → ℕ
after_or done k = cond (ltb k 64 && not (bit k done)) (after done k) done
