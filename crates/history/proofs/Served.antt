-- The words of the serial theorem on a small array, by computation: a write of 33 to unit 1, then a read of units 0 and 1.
-- Assumes nothing.
use mathlib.Core.Bool.{true, false}
use mathlib.Core.List.{List, [], ◌∷◌, ◌++◌}
use mathlib.Core.Path.{◌≡◌, refl}
use Rattle.history.specs.Examples.{fill, after, kept}
use Rattle.history.specs.History.{History}
use Rattle.history.specs.Serial.{row_after, bytes_of, Replay, replay, latest, request_at, finishes, finished_of, replay_of, first_of, seen_of}
use Rattle.history.specs.World.{Event, admit, step, play}
use Rattle.history.proofs.Runs.{start, book, begun, run, one_write, bookkeeping}

-- the write takes record 0 and is not collected; the read takes record 1, and two steps
abbrev pub calls : List Event
calls = one_write ++ (admit false 0 3 [] ∷ step 1 0 ∷ step 1 1 ∷ [])

unfoldable pub served : History play (after play start calls) (kept play start book calls)
served = run play calls (begun play)

-- the finished requests, taken singly
unfoldable pub replayed : Replay
replayed = replay_of (first_of served) (seen_of served)

pub record Served : Type 0 where
  -- the read is the latest
  pub finished : finished_of (seen_of served)
      ≡ record { number = 1; write = false; stripe = 0; mask = 3; payload = [] }
      ∷ record { number = 0; write = true; stripe = 0; mask = 2; payload = fill 0x33 }
      ∷ []
  -- it gives 11 and 33, and the write nothing; the row has 33 in the place of 22
  pub read_gives : latest 1 replayed.gave ≡ fill 0x11 ++ fill 0x33
  pub write_gives : latest 0 replayed.gave ≡ []
  pub row_0 : replayed.row 0 ≡ fill 0x11
  pub row_1 : replayed.row 1 ≡ fill 0x33
  pub row_2 : replayed.row 2 ≡ fill 0x44

pub shown : Served
unfolding bookkeeping begun run served replayed row_after bytes_of replay latest request_at finishes finished_of replay_of first_of seen_of
shown = record { finished = refl; read_gives = refl; write_gives = refl; row_0 = refl; row_1 = refl; row_2 = refl }
