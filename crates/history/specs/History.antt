-- Histories: an accepted opening, then calls one after the other, and decay of missing blocks at any moment. Nobody else alters anything.
-- Assumes nothing.
use Rattle.std.specs.Prelude.{ℕ, ◌+◌, ◌<◌, true, cond, List, [], ◌∷◌, ◌≡◌, ltb, eqb, length}
use Rattle.terms.specs.Lists.{every}
use Rattle.terms.specs.Reply.{on_accept}
use Rattle.geometry.specs.Limits.{none}
use Rattle.geometry.specs.Placement.{Missing}
use Rattle.geometry.specs.declared.Geometry.{Geometry}
use Rattle.geometry.specs.declared.State.{State}
use Rattle.parity.specs.Parity.{byte_at}
use Rattle.record.specs.declared.Record.{Record}
use Rattle.array.specs.Opening.{opening}
use Rattle.array.specs.Refusals.{opened as opened_state}
use Rattle.history.specs.Account.{Account, vacant, noted}
use Rattle.history.specs.Row.{opened_row}
use Rattle.history.specs.World.{World, Event, admit, step, report, collect, scan, start, rebuild, Engine, with_image}

-- an image turns to one of the same length that agrees with it on every block that is not missing
pub record Decayed (st : State) (image image' : List ℕ) : Type 0 where
  pub same_length : length image' ≡ length image
  pub same_bytes : (c s b : ℕ) → c < st.cards → s < st.stripes → b < st.block → ¬ Missing st c s
      → byte_at st.stripes st.block image' c s b ≡ byte_at st.stripes st.block image c s b

-- the world that an opening leaves, and the account at its start: the card out as given, the row read off the image, and no request
unfoldable pub opened_world : Geometry → ℕ → List Record → List ℕ → List ℕ → World
opened_world g out table work image =
    let o = opening g out table work image in record { state = o.state; table = o.table; work = work; image = image }

unfoldable pub opened_account : Geometry → ℕ → List ℕ → Account
opened_account g out image =
    record { state = opened_state g out; row = opened_row (opened_state g out) image; entry = λ i. vacant }

-- the histories of an engine that end with a world and an account. Which blocks may decay, the account says
pub data History (engine : Engine) : World → Account → Type 0 where
  opened : (g : Geometry) (out : ℕ) (table : List Record) (work image : List ℕ) → (opening g out table work image).reply.number ≡ 0
      → History engine (opened_world g out table work image) (opened_account g out image)
  next : {w : World} {a : Account} → History engine w a → (e : Event) → History engine (engine w e).world (noted engine w a e)
  decayed : {w : World} {a : Account} → History engine w a → (image : List ℕ) → Decayed a.state w.image image
      → History engine (with_image w image) a

-- P holds of the world and the account at every moment of a history: after the opening, and after each call and each decay
unfoldable pub Always : (P : World → Account → Type 0) {engine : Engine} {w : World} {a : Account} → History engine w a → Type 0
Always P (opened g out table work image ok) = P (opened_world g out table work image) (opened_account g out image)
Always P {engine} (next {w} {a} h e) = Always P h × P (engine w e).world (noted engine w a e)
Always P (decayed {w} {a} h image d) = Always P h × P (with_image w image) a

-- ---- at most one card out at any moment

-- the cards that are out after an accepted call, in an array of S stripes: a report adds its card, and the rebuild step that answers the last stripe has
-- filled the fresh one, so that none is out
unfoldable pub out_after : ℕ → Event → ℕ → List ℕ → List ℕ
out_after S (admit write s mask payload) first cards = cards
out_after S (step i k) first cards = cards
out_after S (report c) first cards = c ∷ cards
out_after S (collect i result) first cards = cards
out_after S scan first cards = cards
out_after S start first cards = cards
out_after S rebuild s cards = cond (ltb (s + 1) S) cards []

-- those that are out at the end of a history, by the opening and the answers, the latest first; a fresh card that was reported is there once more
unfoldable pub cards_out : {engine : Engine} {w : World} {a : Account} → History engine w a → List ℕ
cards_out (opened g out table work image ok) = cond (eqb out none) [] (out ∷ [])
cards_out {engine} (next {w} {a} h e) =
    let o = engine w e in on_accept o.reply.number (out_after a.state.stripes e o.reply.first (cards_out h)) (cards_out h)
cards_out (decayed h image d) = cards_out h

-- at every moment they are all one card
unfoldable pub OneCard : {engine : Engine} {w : World} {a : Account} → History engine w a → Type 0
OneCard (opened g out table work image ok) = Unit {0}
OneCard (next h e) = OneCard h × ((c : ℕ) × (every (λ d. eqb d c) (cards_out (next h e)) ≡ true))
OneCard (decayed h image d) = OneCard h

-- the array is not lost, by the account: no second, different card was reported while one was out
unfoldable pub Whole : Account → Type 0
Whole a = a.state.lost ≡ 0
