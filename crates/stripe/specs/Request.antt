-- The numbers of an open request, and what a step makes of them. No block is asked: what a step answers cannot depend on what a card holds.
-- Assumes nothing.
use Rattle.std.specs.Prelude.{ℕ, ◌+◌, Bool}
use Rattle.graph.specs.Choice.{choose}
use Rattle.graph.specs.Order.{ready, after, complete}

-- write or not, the mask, the graph, the position that was missing when it was chosen, the done steps, the accepted steps since admission
pub record Request : Type 0 where
  pub write : Bool
  pub mask : ℕ
  pub graph : ℕ
  pub missed : ℕ
  pub done : ℕ
  pub count : ℕ

-- step k is ready, and no step is wanting
abbrev pub ready_at : ℕ → Request → ℕ → Bool
ready_at n q k = ready n q.graph q.mask q.missed q.done k

abbrev pub finished : ℕ → Request → Bool
finished n q = complete n q.graph q.mask q.missed q.done

-- a request at admission to a stripe of n units whose position x is missing
unfoldable pub begun : ℕ → Bool → ℕ → ℕ → Request
begun n write mask x =
    record { write = write; mask = mask; graph = choose n write mask x; missed = x; done = 0; count = 0 }

-- after its step k is done
unfoldable pub advanced : Request → ℕ → Request
advanced q k =
    record {
      write = q.write;
      mask = q.mask;
      graph = q.graph;
      missed = q.missed;
      done = after q.done k;
      count = q.count + 1;
    }

-- after a fresh choice, position x missing: the done steps are forgotten
unfoldable pub chosen_afresh : ℕ → Request → ℕ → Request
chosen_afresh n q x =
    record {
      write = q.write;
      mask = q.mask;
      graph = choose n q.write q.mask x;
      missed = x;
      done = 0;
      count = q.count + 1;
    }
