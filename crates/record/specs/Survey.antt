-- One look at a table: what the calls ask of it beside the one record that they are about, as eleven numbers.
-- Assumes nothing.
use Rattle.std.specs.Prelude.{ℕ, Bool, cond, false, not, ◌&&◌, List, leb, length, get_or, set, replicate}
use Rattle.terms.specs.Lists.{tabulate, among}
use Rattle.geometry.specs.declared.State.{State}
use Rattle.record.specs.Asked.{no_stripe, held_stripe}
use Rattle.record.specs.Life.{free, is_open}
use Rattle.record.specs.Sound.{sound_record, sound, lowest_free}
use Rattle.record.specs.declared.Survey.{Survey}
use Rattle.record.specs.declared.Record.{Record}

-- a table is looked at where it has at most eight records and the state at most eight cards and 1,024 stripes; any other is refused by the
-- limits or by its length, whatever stands in it
unfoldable pub looks_at : State → List Record → Bool
looks_at st l = leb (length l) 8 && leb st.cards 8 && leb st.stripes 1024

-- nothing was looked at in a table of so many records: not sound, no stripe held, none free
unfoldable pub unseen : ℕ → Survey
unseen len = record { len = len; sound = false; held = replicate 8 no_stripe; free = len }

-- the survey of a table: its length, whether it is sound, the stripe that each record holds or a number that is no stripe's, the lowest free record
unfoldable pub survey_of : State → List Record → Survey
survey_of st l =
    cond (looks_at st l)
    (record {
      len = length l;
      sound = sound st l;
      held = tabulate 8 (λ i. held_stripe (get_or l i free));
      free = lowest_free l;
    })
    (unseen (length l))

-- by the survey an open request holds the stripe
unfoldable pub held_in : Survey → ℕ → Bool
held_in v s = among v.held s

-- the survey of the rest of a table: of the table with record i taken out
abbrev pub survey_but : State → List Record → ℕ → Survey
survey_but st l i = survey_of st (set l i free)

-- the table is sound, by a survey of the rest of it and the record: the rest is, the record is, and it holds no stripe that the rest holds
unfoldable pub sound_with : State → Survey → Record → Bool
sound_with st v r = v.sound && sound_record st r && not (is_open r && held_in v r.stripe)
