-- Document 01, "Steps and what must come before": the order of a graph's steps, and the done steps as a set of step numbers.
-- Assumes nothing.
use Rattle.std.specs.Prelude.{ℕ, ◌+◌, ◌^◌, Bool, true, false, cond, not, ◌&&◌, ◌||◌, ltb, eqb}
use Rattle.terms.specs.Sets.{bit, all_below}
use Rattle.graph.specs.Steps.{Step, rd, xr, wr, nil, step_of, step_numbers, by_graph, reads, member}

-- whether t is one of the graph's reads, the read of position p, the exclusive or
unfoldable pub any_read : ℕ → ℕ → ℕ → ℕ → Step → Bool
any_read n g mask x (rd q) = reads n g mask x q
any_read n g mask x xr = false
any_read n g mask x (wr q) = false
any_read n g mask x nil = false

unfoldable pub read_of : ℕ → Step → Bool
read_of p (rd q) = eqb q p
read_of p xr = false
read_of p (wr q) = false
read_of p nil = false

unfoldable pub is_sum : Step → Bool
is_sum (rd q) = false
is_sum xr = true
is_sum (wr q) = false
is_sum nil = false

-- step t must come before step s. The exclusive or needs all the reads. Parity's write needs the exclusive or. In 3 a unit's write needs that
-- unit's read; in 4 every data write needs all the reads; in 5 and 6 the units are written in any order
unfoldable pub before : ℕ → ℕ → ℕ → ℕ → Step → Step → Bool
before n g mask x (rd p) t = false
before n g mask x xr t = any_read n g mask x t
before n g mask x (wr p) t =
    cond (eqb p n) (is_sum t) (by_graph g false false (read_of p t) (any_read n g mask x t) false false false)
before n g mask x nil t = false

-- all that must come before step s is in the done steps
unfoldable pub cleared : ℕ → ℕ → ℕ → ℕ → ℕ → Step → Bool
cleared n g mask x done s = all_below (step_numbers n) (λ j. not (before n g mask x s (step_of n j)) || bit j done)

-- the step is ready: it is in the graph, is not done, and lacks none that must come before; refusal 11 where it is not
unfoldable pub ready : ℕ → ℕ → ℕ → ℕ → ℕ → ℕ → Bool
ready n g mask x done k =
    member n g mask x (step_of n k) && not (bit k done) && cleared n g mask x done (step_of n k)

-- the done steps after step k
abbrev pub after : ℕ → ℕ → ℕ
after done k = done + 2 ^ k

-- no step of the graph is wanting
unfoldable pub complete : ℕ → ℕ → ℕ → ℕ → ℕ → Bool
complete n g mask x done = all_below (step_numbers n) (λ k. not (member n g mask x (step_of n k)) || bit k done)

-- the done steps belong to the graph, each with its forerunners
unfoldable pub closed : ℕ → ℕ → ℕ → ℕ → ℕ → Bool
closed n g mask x done =
    ltb done (2 ^ step_numbers n)
    && all_below (step_numbers n)
    (λ k. not (bit k done) || member n g mask x (step_of n k) && cleared n g mask x done (step_of n k))
