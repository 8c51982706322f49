-- No answer and no byte of a working card depends on the bytes that a card holds while it is out: of whole histories.
-- Assumes nothing.
use Prim.Native.Nat.{ℕ}
use mathlib.Core.List.{List, [], ◌∷◌}
use mathlib.Core.Path.{◌≡◌, refl, sym, ap, ap₂, ◌∙◌, subst}
use Rattle.geometry.specs.declared.Geometry.{Geometry}
use Rattle.geometry.specs.declared.State.{State}
use Rattle.record.specs.declared.Record.{Record}
use Rattle.array.specs.Opening.{opening}
use Rattle.array.specs.Refusals.{opened as opened_state}
use Rattle.history.specs.Account.{Account}
use Rattle.history.specs.Answers.{Answer, answer_to, start_of, calls_of, answers_of, ran, answered, Alike}
use Rattle.history.specs.History.{Decayed, History, opened, next, decayed}
use Rattle.history.specs.World.{World, Event, play, with_image}
use Rattle.history.proofs.Alikes.{decayed_refl, decayed_trans, decayed_sym, both}
use Rattle.history.proofs.Books.{state_kept}
use Rattle.history.proofs.Scans.{open_same}

-- ---- alike is an equivalence

pub alike_refl : (w : World) → Alike w w
alike_refl w = record { same_state = refl; same_table = refl; same_work = refl; same_image = decayed_refl w.state w.image }

pub alike_trans : {u v w : World} → Alike u v → Alike v w → Alike u w
alike_trans {u} {v} {w} p q =
    record {
      same_state = q.same_state ∙ p.same_state;
      same_table = q.same_table ∙ p.same_table;
      same_work = q.same_work ∙ p.same_work;
      same_image =
          decayed_trans u.state u.image v.image w.image p.same_image
          (subst (λ (st : State). Decayed st v.image w.image) p.same_state q.same_image);
    }

pub alike_sym : {u v : World} → Alike u v → Alike v u
alike_sym {u} {v} p =
    record {
      same_state = sym p.same_state;
      same_table = sym p.same_table;
      same_work = sym p.same_work;
      same_image =
          subst (λ (st : State). Decayed st v.image u.image) (sym p.same_state) (decayed_sym u.state u.image v.image p.same_image);
    }

-- ---- one call

-- a call in two worlds that are alike: the same answer, and worlds that are alike
pub unseen : {w v : World} → Alike w v → (e : Event) → (answer_to v e ≡ answer_to w e) × Alike (play w e).world (play v e).world
unseen {w} {v} p e =
    subst (λ (u : World). (answer_to u e ≡ answer_to w e) × Alike (play w e).world (play u e).world) (sym fields)
    (both w v.image p.same_image e)
  where
    fields : v ≡ with_image w v.image
    fields = λ i. record { state = p.same_state i; table = p.same_table i; work = p.same_work i; image = v.image }

-- ---- calls one after the other

ran_alike : {w v : World} → Alike w v → (es : List Event) → Alike (ran w es) (ran v es)
unfolding ran
ran_alike p [] = p
ran_alike p (e ∷ es) = (unseen (ran_alike p es) e).1

answered_same : {w v : World} → Alike w v → (es : List Event) → answered v es ≡ answered w es
unfolding answered ran
answered_same p [] = refl
answered_same p (e ∷ es) = ap₂ {C = List Answer} (λ a rest. a ∷ rest) (unseen (ran_alike p es) e).0 (answered_same p es)

-- ---- a history, and its calls alone

-- the world at the end is what the calls alone would have left, but for the bytes of missing blocks
pub history_ran : {w : World} {a : Account} (h : History play w a) → Alike (ran (start_of h) (calls_of h)) w
unfolding start_of calls_of ran
history_ran (opened g out table work image ok) = alike_refl _
history_ran (next h e) = (unseen (history_ran h) e).1
history_ran (decayed h image d) =
    alike_trans (history_ran h) (record { same_state = refl; same_table = refl; same_work = refl; same_image = rw (state_kept h) d })

-- and every call was answered as it would have been
pub history_answers : {w : World} {a : Account} (h : History play w a) → answers_of h ≡ answered (start_of h) (calls_of h)
unfolding start_of calls_of answers_of answered
history_answers (opened g out table work image ok) = refl
history_answers (next h e) = ap₂ {C = List Answer} (λ a rest. a ∷ rest) (unseen (history_ran h) e).0 (history_answers h)
history_answers (decayed h image d) = history_answers h

-- ---- two histories

-- two histories that start alike and make the same calls, whatever decays between them: the same answers, and ends that are alike
pub independent : {w v : World} {a b : Account} (h : History play w a) (k : History play v b) → Alike (start_of h) (start_of k) → calls_of k ≡ calls_of h
    → (answers_of k ≡ answers_of h) × Alike w v
independent h k p c = (
  history_answers k ∙ ap (answered (start_of k)) c ∙ answered_same p (calls_of h) ∙ sym (history_answers h),
  alike_trans (alike_sym (history_ran h)) (alike_trans (rw (← c) (ran_alike p (calls_of k))) (history_ran k)),
)

-- open too: of two images that differ at most in the bytes of the card that is out it answers and leaves the same
pub open_unseen : (g : Geometry) (out : ℕ) (table : List Record) (work image image' : List ℕ) → Decayed (opened_state g out) image image'
    → opening g out table work image' ≡ opening g out table work image
open_unseen g out table work image image' d = open_same g out table work image image' d
