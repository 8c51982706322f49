-- DEMAND 3, as a theorem: by the definitions that the contracts cite, the promise of specs/Promise.antt is kept at the end of every history in
-- which the array is never lost. What "history", "account" and "promise" mean stands in specs/, and is all that one has to read.
-- Assumes nothing.
use mathlib.Core.Path.{◌≡◌, sym, subst, fun_ext}
use Rattle.history.specs.Account.{Account}
use Rattle.history.specs.Answers.{start_of, calls_of, answers_of, Alike}
use Rattle.history.specs.History.{History, opened, next, decayed, Always, OneCard, Whole}
use Rattle.history.specs.Promise.{Promise, Keeps, FillsUp}
use Rattle.history.specs.World.{World, Event, Engine, play}
use Rattle.history.proofs.Books.{state_kept, whole_call}
use Rattle.history.proofs.Cards.{one_card}
use Rattle.history.proofs.Events.{history_sure}
use Rattle.history.proofs.Independent.{independent}
use Rattle.history.proofs.Promised.{promise}
use Rattle.history.proofs.Refill.{fills_up}

pub demand_3 : Keeps play
unfolding Keeps
demand_3 w a h whole = promise w a (state_kept h) (history_sure h whole)

-- and so does every engine that meets the contracts: one whose outcomes are those of the definitions
pub meets_contracts : (engine : Engine) → ((w : World) (e : Event) → engine w e ≡ play w e) → Keeps engine
meets_contracts engine same = subst Keeps (sym (fun_ext (λ w. fun_ext (λ e. same w e)))) demand_3

-- and brings every fill to its end
pub whole_fill : (engine : Engine) → ((w : World) (e : Event) → engine w e ≡ play w e) → FillsUp engine
whole_fill engine same = subst FillsUp (sym (fun_ext (λ w. fun_ext (λ e. same w e)))) fills_up

-- it holds at every moment of such a history, not at its end alone
pub at_every_moment : {engine : Engine} → Keeps engine → {w : World} {a : Account} (h : History engine w a) → Whole a → Always (Promise engine) h
unfolding Keeps Always
at_every_moment keeps (opened g out table work image ok) whole = keeps _ _ (opened g out table work image ok) whole
at_every_moment {engine} keeps (next {w} {a} h e) whole = (at_every_moment keeps h (whole_call engine w a e whole), keeps _ _ (next h e) whole)
at_every_moment keeps (decayed h image d) whole = (at_every_moment keeps h whole, keeps _ _ (decayed h image d) whole)

-- with the premise as a fact of the calls and their answers: at most one card is out at any moment
pub with_one_card : {w : World} {a : Account} (h : History play w a) → OneCard h → Always (Promise play) h
with_one_card h one = at_every_moment demand_3 h (one_card h one)

-- No answer and no byte of a working card depends on the bytes that a card holds while it is out: two histories that start with worlds that
-- differ at most there, and make the same calls, have the same answers and end with such worlds, whatever decayed in either and when
pub out_card_unseen : {w v : World} {a b : Account} (h : History play w a) (k : History play v b) → Alike (start_of h) (start_of k)
    → calls_of k ≡ calls_of h → (answers_of k ≡ answers_of h) × Alike w v
out_card_unseen h k start calls = independent h k start calls
