-- Document 01, "What the calls do", collect: what it answers and leaves.
-- Assumes nothing.
use Rattle.std.specs.Prelude.{ℕ, ◌*◌, cond, List, get_or, set}
use Rattle.terms.specs.Lists.{part, put, changes}
use Rattle.terms.specs.Reply.{Reply, accepted, refused, on_accept}
use Rattle.terms.specs.Sets.{bit}
use Rattle.geometry.specs.Store.{read_at}
use Rattle.geometry.specs.declared.State.{State}
use Rattle.record.specs.Life.{free, is_write, units_of}
use Rattle.record.specs.Survey.{survey_but}
use Rattle.record.specs.declared.Record.{Record}
use Rattle.record.specs.declared.Survey.{Survey}
use Rattle.array.specs.Lent.{rank}
use Rattle.array.specs.Refusals.{collect_refusal}

-- unit u of a read, where it is in the mask, copied from its read block of record i to its place in the result
abbrev pub hand_unit : State → ℕ → ℕ → List ℕ → ℕ → List ℕ → List ℕ
hand_unit st i mask work u result =
    cond (bit u mask)
    (put (rank mask u * st.block) (part (read_at st.cards st.block i u) st.block work) result)
    result

-- a read's units, ascending, at the front of the result buffer; the bytes behind them stay
unfoldable pub hand_over : State → ℕ → ℕ → List ℕ → List ℕ → List ℕ
hand_over st i mask work result = changes (units_of st) (hand_unit st i mask work) result

-- what collect answers, the step count; where the table changes, and the record that stands there after it (past the table's end nothing does);
-- and the result buffer. The state and the work store stay
pub record CollectionBy : Type 0 where
  pub reply : Reply
  pub place : ℕ
  pub stands : Record
  pub result : List ℕ

-- collect of record i, which is r, by a survey of the rest of the table
unfoldable pub collection_by : State → Survey → Record → List ℕ → ℕ → List ℕ → CollectionBy
collection_by st v r work i result =
    let number = collect_refusal st v r work i result in
    record {
      reply = on_accept number (accepted r.count 0) (refused number);
      place = on_accept number i v.len;
      stands = free;
      result = on_accept number (cond (is_write r) result (hand_over st i r.mask work result)) result;
    }

-- what collect answers, and the table and the result buffer that it leaves
pub record Collection : Type 0 where
  pub reply : Reply
  pub table : List Record
  pub result : List ℕ

unfoldable pub collection : State → List Record → List ℕ → ℕ → List ℕ → Collection
collection st table work i result =
    let a = collection_by st (survey_but st table i) (get_or table i free) work i result in
    record { reply = a.reply; table = set table a.place a.stands; result = a.result }
