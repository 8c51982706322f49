-- A state, a record and a table as lists of numbers, for tests from outside: a state and a record are eight numbers each, in document 01's order.
-- Assumes nothing.
use Rattle.std.specs.Prelude.{ℕ, ◌+◌, ◌*◌, ◌/◌, cond, List, length, get_or}
use Rattle.terms.specs.Lists.{tabulate}
use Rattle.geometry.specs.declared.State.{State}
use Rattle.graph.specs.declared.plan.Judged.{Judged}
use Rattle.graph.specs.Steps.{Step, rd, xr, wr, nil}
use Rattle.record.specs.Survey.{survey_of}
use Rattle.record.specs.declared.Record.{Record}
use Rattle.record.specs.declared.Survey.{Survey}

-- a judgement of done steps: 0 wrong, 1 a step is wanting, 2 none is
unfoldable pub judged_number : Judged → ℕ
judged_number j = cond j.right (cond j.whole 2 1) 0

-- what a step does: 1 reads, 2 is the exclusive or, 3 writes, 0 is no step; and its position
unfoldable pub kind_of : Step → ℕ
kind_of (rd p) = 1
kind_of xr = 2
kind_of (wr p) = 3
kind_of nil = 0

unfoldable pub place_of : Step → ℕ
place_of (rd p) = p
place_of xr = 0
place_of (wr p) = p
place_of nil = 0

-- the state of eight numbers, the record of the eight numbers from 8·i on, the table of all whole records
unfoldable pub state_from : List ℕ → State
state_from l =
    record {
      cards = get_or l 0 0;
      stripes = get_or l 1 0;
      block = get_or l 2 0;
      records = get_or l 3 0;
      layout = get_or l 4 0;
      out = get_or l 5 0;
      lost = get_or l 6 0;
      fill = get_or l 7 0;
    }

unfoldable pub record_from : List ℕ → ℕ → Record
record_from l i =
    record {
      phase = get_or l (8 * i) 0;
      write = get_or l (8 * i + 1) 0;
      stripe = get_or l (8 * i + 2) 0;
      mask = get_or l (8 * i + 3) 0;
      graph = get_or l (8 * i + 4) 0;
      chosen = get_or l (8 * i + 5) 0;
      done = get_or l (8 * i + 6) 0;
      count = get_or l (8 * i + 7) 0;
    }

unfoldable pub table_from : List ℕ → List Record
table_from l = tabulate (length l / 8) (record_from l)

-- what one look at such a table in such a state finds
unfoldable pub survey_from : List ℕ → List ℕ → Survey
survey_from numbers all = survey_of (state_from numbers) (table_from all)
