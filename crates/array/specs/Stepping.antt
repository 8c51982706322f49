-- Document 01, "Steps and what must come before" and "What the calls do", step: what it answers and leaves.
-- Assumes nothing.
use Rattle.std.specs.Prelude.{ℕ, ◌+◌, Bool, false, cond, List, eqb, get_or, set}
use Rattle.std.specs.Int.Bits.{bit_xor}
use Rattle.terms.specs.Lists.{tabulate, part, put}
use Rattle.terms.specs.Reply.{Reply, accepted, refused, on_accept}
use Rattle.terms.specs.Sets.{xor_to}
use Rattle.geometry.specs.Placement.{card_of_position}
use Rattle.geometry.specs.Store.{cell_at, write_at, read_at}
use Rattle.geometry.specs.declared.State.{State}
use Rattle.graph.specs.Steps.{Step, rd, xr, wr, nil, step_of}
use Rattle.graph.specs.Sums.{takes_read, takes_new, sums_to_read}
use Rattle.record.specs.Life.{free, units_of, chosen_at, missing_in, stepped, afresh}
use Rattle.record.specs.Survey.{survey_but}
use Rattle.record.specs.declared.Record.{Record}
use Rattle.record.specs.declared.Survey.{Survey}
use Rattle.array.specs.Refusals.{step_refusal}

-- where the block of position p of the record's stripe starts in the image
abbrev pub cell_of : State → Record → ℕ → ℕ
cell_of st r p = cell_at st.stripes st.block (card_of_position st r.stripe p) r.stripe

-- the step's card is out: the position that it reads or writes is the one missing in the stripe
unfoldable pub meets_out : ℕ → Step → Bool
meets_out x (rd p) = eqb p x
meets_out x xr = false
meets_out x (wr p) = eqb p x
meets_out x nil = false

-- byte b of the exclusive or: of the read blocks and the new units that the record's graph takes
unfoldable pub sum_byte : State → ℕ → Record → List ℕ → ℕ → ℕ
sum_byte st i r work b =
    bit_xor
    (xor_to st.cards
    (λ p. cond (takes_read (units_of st) r.graph r.mask (chosen_at st r) p) (get_or work (read_at st.cards st.block i p + b) 0) 0))
    (xor_to st.cards
    (λ p. cond (takes_new (units_of st) r.graph r.mask p) (get_or work (write_at st.cards st.block i p + b) 0) 0))

-- where it goes: to the read block of X in graph 2, else to the last block to write
unfoldable pub sum_at : State → ℕ → Record → ℕ
sum_at st i r =
    cond (sums_to_read r.graph)
    (read_at st.cards st.block i (chosen_at st r))
    (write_at st.cards st.block i (units_of st))

-- the work store after a done step of record i: a read step copies its block to the read block of that position
unfoldable pub work_after : State → ℕ → Record → Step → List ℕ → List ℕ → List ℕ
work_after st i r (rd p) work image = put (read_at st.cards st.block i p) (part (cell_of st r p) st.block image) work
work_after st i r xr work image = put (sum_at st i r) (tabulate st.block (sum_byte st i r work)) work
work_after st i r (wr p) work image = work
work_after st i r nil work image = work

-- the image after it: only a write step alters it, by the block to write of that position
unfoldable pub image_after : State → ℕ → Record → Step → List ℕ → List ℕ → List ℕ
image_after st i r (rd p) work image = image
image_after st i r xr work image = image
image_after st i r (wr p) work image = put (cell_of st r p) (part (write_at st.cards st.block i p) st.block work) image
image_after st i r nil work image = image

-- what step answers: 0 where it is done, the new graph's number where one is chosen afresh; where the table changes, and the record that stands
-- there after it (past the table's end nothing does); the work store and the image. The state stays
pub record SteppingBy : Type 0 where
  pub reply : Reply
  pub place : ℕ
  pub stands : Record
  pub work : List ℕ
  pub image : List ℕ

-- an accepted step k of record i, which is r: done where its card works, chosen afresh where it is out
unfoldable pub accepting : State → List ℕ → List ℕ → ℕ → Record → ℕ → SteppingBy
accepting st work image i r k =
    cond (meets_out (missing_in st r.stripe) (step_of (units_of st) k))
    (record { reply = accepted (afresh st r).graph 0; place = i; stands = afresh st r; work = work; image = image })
    (record {
      reply = accepted 0 0;
      place = i;
      stands = stepped st r k;
      work = work_after st i r (step_of (units_of st) k) work image;
      image = image_after st i r (step_of (units_of st) k) work image;
    })

-- step k of record i, which is r, by a survey of the rest of the table
unfoldable pub stepping_by : State → Survey → Record → List ℕ → List ℕ → ℕ → ℕ → SteppingBy
stepping_by st v r work image i k =
    let number = step_refusal st v r work image i k in
    on_accept number
    (accepting st work image i r k)
    (record { reply = refused number; place = v.len; stands = free; work = work; image = image })

-- what step answers, and the table, the work store and the image that it leaves
pub record Stepping : Type 0 where
  pub reply : Reply
  pub table : List Record
  pub work : List ℕ
  pub image : List ℕ

unfoldable pub stepping : State → List Record → List ℕ → List ℕ → ℕ → ℕ → Stepping
stepping st table work image i k =
    let a = stepping_by st (survey_but st table i) (get_or table i free) work image i k in
    record { reply = a.reply; table = set table a.place a.stands; work = a.work; image = a.image }
