-- A run of what the contracts allow is a history of `play`, with the same worlds and the same account.
-- Assumes nothing.
use Prim.Native.Nat.{ℕ}
use mathlib.Core.List.{List, [], ◌∷◌}
use mathlib.Core.Path.{◌≡◌, refl, sym, subst, ap, ◌∙◌}
use Rattle.terms.specs.Reply.{on_accept}
use Rattle.geometry.specs.declared.Geometry.{Geometry}
use Rattle.record.specs.declared.Record.{Record}
use Rattle.array.specs.Opening.{Opening, opening}
use Rattle.history.specs.Account.{Account, entered, noted}
use Rattle.history.specs.History.{History, opened_world, opened_account}
use Rattle.history.specs.History as history
use Rattle.history.specs.Serial.{Seen, first_of, seen_of}
use Rattle.history.specs.World.{World, Event, Outcome, play}
use Rattle.client.specs.Run.{Contracts, calls, functions, Run, opened, next, decayed, IsHistory}
use Rattle.client.specs.Run as run
use Rattle.client.proofs.Plays.{call_plays, call_opens, function_plays, function_opens}

-- contracts that leave no choice: an accepted opening is the definition's, and an event comes out as `play` has it
pub record Fixed (by : Contracts) : Type 0 where
  pub opens_so : {g : Geometry} {out : ℕ} {table : List Record} {work image : List ℕ} {o : Opening}
      → by.opens g out table work image o → o.reply.number ≡ 0 → o ≡ opening g out table work image
  pub plays_so : {w : World} {e : Event} {o : Outcome} → by.allows w e o → o ≡ play w e

pub calls_fixed : Fixed calls
calls_fixed = record { opens_so = call_opens; plays_so = call_plays }

pub functions_fixed : Fixed functions
functions_fixed = record { opens_so = function_opens; plays_so = function_plays }

module _ {by : Contracts} (fixed : Fixed by) where
  pub is_history : {w : World} {a : Account} (r : Run by w a) → IsHistory r
  unfolding opened_world noted first_of seen_of run.first_of run.seen_of
  is_history (opened g out table work image o h ok) =
      let same = fixed.opens_so h ok in
      let start : (d : Opening) → Type 0 = λ d.
      (x : History play (record { state = d.state; table = d.table; work = work; image = image }) (opened_account g out image))
      × (first_of x ≡ opened_account g out image) × (seen_of x ≡ []) in
      let made : start o = subst start (sym same) (history.opened g out table work image (ap (λ (d : Opening). d.reply.number) (sym same) ∙ ok), refl, refl) in
      record { history = made.0; same_first = made.1; same_seen = made.2 }
  is_history (next {w} {a} r e o h) =
      let before = is_history r in
      let after : (d : Outcome) → Type 0 = λ d.
      (x : History play d.world (on_accept d.reply.number (entered a e d) a))
      × (first_of x ≡ run.first_of r) × (seen_of x ≡ record { account = a; event = e; outcome = d } ∷ run.seen_of r) in
      let made : after o = subst after (sym (fixed.plays_so h))
      (history.next before.history e, before.same_first, ap (λ (l : List Seen). record { account = a; event = e; outcome = play w e } ∷ l) before.same_seen) in
      record { history = made.0; same_first = made.1; same_seen = made.2 }
  is_history (decayed r image d) =
      let before = is_history r in
      record { history = history.decayed before.history image d; same_first = before.same_first; same_seen = before.same_seen }

pub calls_history : {w : World} {a : Account} (r : Run calls w a) → IsHistory r
calls_history = is_history calls_fixed

pub functions_history : {w : World} {a : Account} (r : Run functions w a) → IsHistory r
functions_history = is_history functions_fixed
