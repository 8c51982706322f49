-- What one look at a record finds: whether it is sound, and, of a sound one that is not free, what a step of it goes by.
-- Assumes nothing.
use Rattle.std.specs.Prelude.{ℕ, ◌+◌, Bool, true, cond, not, ◌&&◌, ltb}
use Rattle.terms.specs.Sets.{bit, set_of}
use Rattle.geometry.specs.Limits.{no_fill, state_of}
use Rattle.geometry.specs.Placement.{out_in}
use Rattle.geometry.specs.declared.State.{State}
use Rattle.graph.specs.Asked.{step_set, part_of}
use Rattle.graph.specs.Choice.{choose}
use Rattle.graph.specs.Order.{after}
use Rattle.graph.specs.Steps.{reads}
use Rattle.record.specs.Asked.{can_count, sound_record_in}
use Rattle.record.specs.Life.{is_free, is_write, units_of, chosen_at, missing_in}
use Rattle.record.specs.declared.Look.{Look}
use Rattle.record.specs.declared.Record.{Record}

-- what a record's soundness depends on: so many cards and stripes, the layout, and the card that is missing in its stripe; as a state in which that
-- card is out
abbrev pub seen_as : ℕ → ℕ → ℕ → ℕ → State
seen_as N S layout now = state_of (record { cards = N; stripes = S; block = 0; records = 0; layout = layout }) now 0 no_fill

-- of a sound record: the position that was missing when its graph was chosen, the one that is missing now, the graph's steps, what it reads
unfoldable pub found : State → Record → ℕ → Look
found st r out =
    record {
      sound = true;
      x = chosen_at st r;
      out = out;
      steps = step_set (units_of st) r.graph r.mask (chosen_at st r);
      reads = set_of (units_of st + 1) (reads (units_of st) r.graph r.mask (chosen_at st r));
    }

-- nothing more than whether it is sound
unfoldable pub nothing : Bool → Look
nothing b = record { sound = b; x = 0; out = 0; steps = 0; reads = 0 }

unfoldable pub look_of : State → Record → Look
look_of st r =
    cond (sound_record_in st r && not (is_free r)) (found st r (missing_in st r.stripe)) (nothing (sound_record_in st r))

-- step k can be marked done in the record: it is not done yet, and is a place of the done set
unfoldable pub can_mark : Record → ℕ → Bool
can_mark r k = (ltb k 64 && not (bit k r.done)) && can_count r

-- the record after its step k is done: finished where none of the steps given is wanting; as it was where k can't be marked
unfoldable pub after_step : Record → ℕ → ℕ → Record
after_step r k steps =
    cond (can_mark r k)
    (record {
      phase = cond (part_of steps (after r.done k)) 2 1;
      write = r.write;
      stripe = r.stripe;
      mask = r.mask;
      graph = r.graph;
      chosen = r.chosen;
      done = after r.done k;
      count = r.count + 1;
    })
    r

-- the record after a fresh choice with this position missing; as it was where no step can be counted
unfoldable pub after_choice : State → Record → ℕ → Record
after_choice st r out =
    cond (can_count r)
    (record {
      phase = 1;
      write = r.write;
      stripe = r.stripe;
      mask = r.mask;
      graph = choose (units_of st) (is_write r) r.mask out;
      chosen = out_in st r.stripe;
      done = 0;
      count = r.count + 1;
    })
    r
