-- Document 01, "Refusal numbers", last sentence: when a table is sound. Refusal 3 is given where it is not.
-- Assumes nothing.
use Rattle.std.specs.Prelude.{ℕ, ◌+◌, ◌*◌, ◌^◌, Bool, cond, not, ◌&&◌, ◌||◌, List, ltb, leb, eqb, length, get_or}
use Rattle.terms.specs.Lists.{every}
use Rattle.terms.specs.Sets.{within, all_below, lowest}
use Rattle.geometry.specs.Limits.{none}
use Rattle.geometry.specs.Placement.{out_in}
use Rattle.geometry.specs.declared.State.{State}
use Rattle.graph.specs.Choice.{choose}
use Rattle.graph.specs.Order.{complete, closed}
use Rattle.record.specs.Life.{free, is_free, is_open, is_finished, is_write, units_of, chosen_at}
use Rattle.record.specs.declared.Record.{Record}

-- every number of the record is zero
unfoldable pub all_zero : Record → Bool
all_zero r =
    eqb r.phase 0
    && eqb r.write 0
    && eqb r.stripe 0
    && eqb r.mask 0
    && eqb r.graph 0
    && eqb r.chosen 0
    && eqb r.done 0
    && eqb r.count 0

-- a legal mask of n units: not zero, and no bit at n or above; refusal 6 where it is not
unfoldable pub legal_mask : ℕ → ℕ → Bool
legal_mask n mask = not (eqb mask 0) && ltb mask (2 ^ n)

-- open or finished, with a legal kind, stripe, mask and graph
unfoldable pub legal_record : State → Record → Bool
legal_record st r =
    (is_open r || is_finished r)
    && within 0 1 r.write
    && ltb r.stripe st.stripes
    && legal_mask (units_of st) r.mask
    && within 1 6 r.graph

-- its chosen-with card is 255; or, of an open one, the card that is missing in its stripe, and of a finished one any card
unfoldable pub legal_chosen : State → Record → Bool
legal_chosen st r = eqb r.chosen none || cond (is_open r) (eqb r.chosen (out_in st r.stripe)) (ltb r.chosen st.cards)

-- its graph is the one that the table chooses for that card
unfoldable pub right_graph : State → Record → Bool
right_graph st r = eqb r.graph (choose (units_of st) (is_write r) r.mask (chosen_at st r))

-- its done steps belong to it, each with its forerunners
unfoldable pub right_steps : State → Record → Bool
right_steps st r = closed (units_of st) r.graph r.mask (chosen_at st r) r.done

-- no step of its graph is wanting
unfoldable pub lacks_none : State → Record → Bool
lacks_none st r = complete (units_of st) r.graph r.mask (chosen_at st r) r.done

-- an open one lacks a step and counts at most 2n+2, a finished one lacks none and counts at most 2n+3
unfoldable pub right_count : State → Record → Bool
right_count st r =
    cond (is_open r)
    (not (lacks_none st r) && leb r.count (2 * units_of st + 2))
    (is_finished r && (lacks_none st r && leb r.count (2 * units_of st + 3)))

-- a record is sound
unfoldable pub sound_record : State → Record → Bool
sound_record st r =
    cond (is_free r)
    (all_zero r)
    (legal_record st r && legal_chosen st r && right_graph st r && right_steps st r && right_count st r)

-- the two records are open on one stripe
unfoldable pub clash : Record → Record → Bool
clash r q = is_open r && is_open q && eqb r.stripe q.stripe

-- no two open records share a stripe
unfoldable pub apart : List Record → Bool
apart l =
    all_below (length l)
    (λ i. all_below (length l) (λ j. eqb i j || not (clash (get_or l i free) (get_or l j free))))

-- the table is sound
unfoldable pub sound : State → List Record → Bool
sound st l = every (sound_record st) l && apart l

-- an open request holds the stripe
unfoldable pub holds : ℕ → Record → Bool
holds s r = is_open r && eqb r.stripe s

unfoldable pub held : List Record → ℕ → Bool
held l s = not (every (λ r. not (holds s r)) l)

-- the lowest free record; the table's length where none is free
unfoldable pub lowest_free : List Record → ℕ
lowest_free l = lowest (length l) (λ i. is_free (get_or l i free))
