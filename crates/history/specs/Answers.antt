-- The calls of a history and their answers, and the same calls made of a world with no decay between them.
-- Assumes nothing.
use Rattle.std.specs.Prelude.{ℕ, List, [], ◌∷◌, ◌≡◌}
use Rattle.terms.specs.Reply.{Reply}
use Rattle.history.specs.Account.{Account}
use Rattle.history.specs.History.{Decayed, History, opened, next, decayed, opened_world}
use Rattle.history.specs.World.{World, Event, play}

-- what a call's caller sees: the reply, and the result buffer where one was lent
pub record Answer : Type 0 where
  pub reply : Reply
  pub result : List ℕ

abbrev pub answer_to : World → Event → Answer
answer_to w e = record { reply = (play w e).reply; result = (play w e).result }

-- the world that a history starts with, its calls and their answers, the latest first
unfoldable pub start_of : {w : World} {a : Account} → History play w a → World
start_of (opened g out table work image ok) = opened_world g out table work image
start_of (next h e) = start_of h
start_of (decayed h image d) = start_of h

unfoldable pub calls_of : {w : World} {a : Account} → History play w a → List Event
calls_of (opened g out table work image ok) = []
calls_of (next h e) = e ∷ calls_of h
calls_of (decayed h image d) = calls_of h

unfoldable pub answers_of : {w : World} {a : Account} → History play w a → List Answer
answers_of (opened g out table work image ok) = []
answers_of (next {w} h e) = answer_to w e ∷ answers_of h
answers_of (decayed h image d) = answers_of h

-- the same calls made of a world one after the other, with no decay between them: the world that they leave, and their answers
unfoldable pub ran : World → List Event → World
ran w [] = w
ran w (e ∷ es) = (play (ran w es) e).world

unfoldable pub answered : World → List Event → List Answer
answered w [] = []
answered w (e ∷ es) = answer_to (ran w es) e ∷ answered w es

-- two worlds that differ at most in the bytes of missing blocks
pub record Alike (w v : World) : Type 0 where
  pub same_state : v.state ≡ w.state
  pub same_table : v.table ≡ w.table
  pub same_work : v.work ≡ w.work
  pub same_image : Decayed w.state w.image v.image
