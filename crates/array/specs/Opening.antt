-- Document 01, "What the calls do", open: what it answers and leaves.
-- Assumes nothing.
use Rattle.std.specs.Prelude.{ℕ, List, length, replicate}
use Rattle.terms.specs.Reply.{Reply, accepted, on_accept, refused_or13}
use Rattle.geometry.specs.declared.Geometry.{Geometry}
use Rattle.geometry.specs.declared.State.{State}
use Rattle.parity.specs.Parity.{disagreement}
use Rattle.parity.specs.Scan.{nothing_held}
use Rattle.record.specs.Life.{free}
use Rattle.record.specs.declared.Record.{Record}
use Rattle.array.specs.Refusals.{opened, open_refusal}

-- a state that is all zero
abbrev pub zero_state : State
zero_state = record { cards = 0; stripes = 0; block = 0; records = 0; layout = 0; out = 0; lost = 0; fill = 0 }

-- what open answers, and the new state, all zero if refused; the image and the work store stay
pub record OpeningBy : Type 0 where
  pub reply : Reply
  pub state : State

-- open over a table of so many records
unfoldable pub opening_by : Geometry → ℕ → ℕ → List ℕ → List ℕ → OpeningBy
opening_by g out len work image =
    let number = open_refusal g out len work image in
    record {
      reply = on_accept number (accepted 0 0) (refused_or13 number (disagreement g.cards g.stripes g.block image nothing_held));
      state = on_accept number (opened g out) zero_state;
    }

-- what open answers, the new state, and the table that it leaves
pub record Opening : Type 0 where
  pub reply : Reply
  pub state : State
  pub table : List Record

-- open frees every record
unfoldable pub opening : Geometry → ℕ → List Record → List ℕ → List ℕ → Opening
opening g out table work image =
    let a = opening_by g out (length table) work image in
    record {
      reply = a.reply;
      state = a.state;
      table = on_accept a.reply.number (replicate (length table) free) table;
    }
