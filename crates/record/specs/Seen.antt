-- How a survey is made: the table is looked at record by record, in one loop.
-- Assumes nothing.
use Rattle.std.specs.Prelude.{ℕ, zero, suc, Bool, cond, not, ◌&&◌, List, ltb, leb, eqb, length, get_or, set, replicate}
use Rattle.terms.specs.Sets.{all_below}
use Rattle.geometry.specs.declared.State.{State}
use Rattle.record.specs.Asked.{no_stripe, sound_record_in}
use Rattle.record.specs.Life.{free, is_free, is_open}
use Rattle.record.specs.Sound.{all_zero}
use Rattle.record.specs.declared.Survey.{Survey}
use Rattle.record.specs.declared.Record.{Record}

-- a table of so many records is looked at
unfoldable pub looks_at_many : State → ℕ → Bool
looks_at_many st len = leb len 8 && leb st.cards 8 && leb st.stripes 1024

-- how many of its records are looked at: all or none
unfoldable pub to_see : State → ℕ → ℕ
to_see st len = cond (looks_at_many st len) len 0

-- before the first of them: as yet sound where they are looked at, no stripe held, none free
unfoldable pub started : State → ℕ → Survey
started st len = record { len = len; sound = looks_at_many st len; held = replicate 8 no_stripe; free = len }

-- by the survey one of the first i records holds the stripe
unfoldable pub held_before : Survey → ℕ → ℕ → Bool
held_before v s i = not (all_below i (λ j. not (eqb (get_or v.held j 0) s)))

-- the record is sound, in a table that is looked at
unfoldable pub fine : State → Record → Bool
fine st r = cond (is_free r) (all_zero r) (sound_record_in st r)

-- the table is sound as far as record r at i: r is sound, and holds no stripe that one before it holds
unfoldable pub still_sound : State → Survey → ℕ → Record → Bool
still_sound st v i r = v.sound && (fine st r && not (is_open r && held_before v r.stripe i))

-- the lowest free record as far as record r at i
unfoldable pub still_free : Survey → ℕ → Record → ℕ
still_free v i r = cond (is_free r && eqb v.free v.len) i v.free

-- the survey after record r at i, where there is such a place; only an open one is noted among the stripes held
unfoldable pub seen : State → Survey → ℕ → Record → Survey
seen st v i r =
    cond (ltb i 8)
    (record {
      len = v.len;
      sound = still_sound st v i r;
      held = cond (is_open r) (set v.held i r.stripe) v.held;
      free = still_free v i r;
    })
    v

-- the survey after the first i records
unfoldable pub seen_to : State → List Record → ℕ → Survey
seen_to st l zero = started st (length l)
seen_to st l (suc i) = seen st (seen_to st l i) i (get_or l i free)
