-- What the account says of the state, of any engine: it is lost by one thing only, an accepted report of a second, different card while one is out, and
-- stays so. And of ours: the account's state is the world's, in every history, of a lost array too.
-- Assumes nothing.
use Prim.Native.Nat.{ℕ, ◌+◌}
use mathlib.Core.Bool.{Bool, true, false, cond}
use mathlib.Core.Logic.{◌⊎◌, inl, inr}
use mathlib.Core.Path.{◌≡◌, refl, sym, ap, ap₂, ◌∙◌}
use native.Mathlib.Decide.{ℕ_discrete}
use native.Mathlib.Omega.{arith}
use borrow.Author.Tests.{eqb-true, eqb-false, eq-eqb, ne_eqb}
use lib.Dec.{ltb, eqb}
use Rattle.terms.specs.Reply.{on_accept}
use Rattle.terms.proofs.Rows.{truth}
use Rattle.geometry.specs.Fill.{moved_on}
use Rattle.geometry.specs.Limits.{none, no_fill}
use Rattle.geometry.specs.Report.{marked, with_out, with_lost, with_fill}
use Rattle.geometry.specs.declared.State.{State}
use Rattle.history.specs.Account.{Account, with_entry, step_noted, reported, filled_at, entered, noted}
use Rattle.history.specs.History.{History, opened, next, decayed, opened_account, Always, Whole}
use Rattle.history.specs.World.{World, Event, admit, step, report, collect, scan, start, rebuild, Outcome, Engine, play}
use Rattle.history.proofs.Opened.{open_state}
use Rattle.history.proofs.Replies.{report_taken, start_taken, rebuild_taken, refused_leaves}

-- ---- what the account notes of the cards is what the state's own definitions say

pub report_noted : (st : State) (c : ℕ) → reported st c ≡ marked st c
unfolding reported marked
report_noted st c = refl

pub fill_noted : (st : State) → filled_at st st.fill ≡ moved_on st
unfolding filled_at moved_on
fill_noted st = refl

-- ---- what a call makes of the account's state

-- after an accepted call that answers this first value
abbrev pub state_after : State → Event → ℕ → State
state_after st (admit write s mask payload) first = st
state_after st (step i k) first = st
state_after st (report c) first = reported st c
state_after st (collect i result) first = st
state_after st scan first = st
state_after st start first = with_fill st 0
state_after st rebuild first = filled_at st first

module _ (engine : Engine) (w : World) (a : Account) where
  -- what it answers
  abbrev number : Event → ℕ
  number e = (engine w e).reply.number

  abbrev first : Event → ℕ
  first e = (engine w e).reply.first

  accepted_state : (e : Event) → (entered a e (engine w e)).state ≡ state_after a.state e (first e)
  unfolding entered with_entry step_noted
  accepted_state (admit write s mask payload) = refl
  accepted_state (step i k) = refl
  accepted_state (report c) = refl
  accepted_state (collect i result) = refl
  accepted_state scan = refl
  accepted_state start = refl
  accepted_state rebuild = refl

  -- accepted, or refused
  pub noted_accepted : (e : Event) → number e ≡ 0 → (noted engine w a e).state ≡ state_after a.state e (first e)
  unfolding noted
  noted_accepted e ok = rw (eq-eqb (number e) 0 ok) (accepted_state e)

  pub noted_refused : (e : Event) → ¬ (number e ≡ 0) → (noted engine w a e).state ≡ a.state
  unfolding noted
  noted_refused e d = rw (ne_eqb (number e) 0 d)

  -- ---- not lost, and lost

  -- a state that is not lost after an accepted call was not lost before it
  was_whole : (st : State) (e : Event) (k : ℕ) → (state_after st e k).lost ≡ 0 → st.lost ≡ 0
  was_whole st (admit write s mask payload) k z = z
  was_whole st (step i j) k z = z
  was_whole st (report c) k z = unfold reported in go (eqb st.out none) (eqb c st.out) z
    where
      go : (o p : Bool) → (cond o (with_out st c) (cond p (with_fill st no_fill) (with_lost st))).lost ≡ 0 → st.lost ≡ 0
      go true p z = z
      go false true z = z
      go false false z = absurd (omega arith)
  was_whole st (collect i result) k z = z
  was_whole st scan k z = z
  was_whole st start k z = z
  was_whole st rebuild k z = unfold filled_at in go (ltb (k + 1) st.stripes) z
    where
      go : (b : Bool) → (cond b (with_fill st (k + 1)) (with_out (with_fill st no_fill) none)).lost ≡ 0 → st.lost ≡ 0
      go true z = z
      go false z = z

  -- and one that is lost after it but was not before: a report of a second, different card
  abbrev Second : State → Event → Type 0
  Second st e = (c : ℕ) × (e ≡ report c) × (¬ (st.out ≡ none)) × (¬ (c ≡ st.out))

  now_lost : (st : State) (e : Event) (k : ℕ) → st.lost ≡ 0 → ¬ ((state_after st e k).lost ≡ 0) → Second st e
  now_lost st (admit write s mask payload) k whole l = absurd (l whole)
  now_lost st (step i j) k whole l = absurd (l whole)
  now_lost st (report c) k whole l = unfold reported in go (eqb st.out none) refl (eqb c st.out) refl l
    where
      go : (o : Bool) → eqb st.out none ≡ o → (p : Bool) → eqb c st.out ≡ p
          → ¬ ((cond o (with_out st c) (cond p (with_fill st no_fill) (with_lost st))).lost ≡ 0) → Second st (report c)
      go true f p g l = absurd (l whole)
      go false f true g l = absurd (l whole)
      go false f false g l = (c, refl, eqb-false st.out none f, eqb-false c st.out g)
  now_lost st (collect i result) k whole l = absurd (l whole)
  now_lost st scan k whole l = absurd (l whole)
  now_lost st start k whole l = absurd (l whole)
  now_lost st rebuild k whole l = unfold filled_at in go (ltb (k + 1) st.stripes) l
    where
      go : (b : Bool) → ¬ ((cond b (with_fill st (k + 1)) (with_out (with_fill st no_fill) none)).lost ≡ 0) → Second st rebuild
      go true l = absurd (l whole)
      go false l = absurd (l whole)

  -- what is not lost after a call was not lost before it
  pub whole_call : (e : Event) → Whole (noted engine w a e) → Whole a
  unfolding Whole
  whole_call e whole = go (ℕ_discrete (number e) 0)
    where
      go : Dec (number e ≡ 0) → a.state.lost ≡ 0
      go (yes ok) = was_whole a.state e (first e) (ap (λ (st : State). st.lost) (sym (noted_accepted e ok)) ∙ whole)
      go (no d) = ap (λ (st : State). st.lost) (sym (noted_refused e d)) ∙ whole

  -- the array is lost by one thing only: an accepted report of a second, different card
  pub lost_by_report : (e : Event) → Whole a → ¬ Whole (noted engine w a e)
      → (c : ℕ) × (e ≡ report c) × ((engine w e).reply.number ≡ 0) × (¬ (a.state.out ≡ none)) × (¬ (c ≡ a.state.out))
  unfolding Whole
  lost_by_report e whole lost = go (ℕ_discrete (number e) 0)
    where
      go : Dec (number e ≡ 0)
          → (c : ℕ) × (e ≡ report c) × ((engine w e).reply.number ≡ 0) × (¬ (a.state.out ≡ none)) × (¬ (c ≡ a.state.out))
      go (yes ok) =
          let (c, is, some, other) = now_lost a.state e (first e) whole (λ z. lost (ap (λ (st : State). st.lost) (noted_accepted e ok) ∙ z)) in
          (c, is, ok, some, other)
      go (no d) = absurd (lost (ap (λ (st : State). st.lost) (noted_refused e d) ∙ whole))

-- an array that is not lost at the end was not lost at any moment before
pub whole_before : {engine : Engine} {w : World} {a : Account} (h : History engine w a) → Whole a → Always (λ v b. Whole b) h
unfolding Always
whole_before (opened g out table work image ok) whole = whole
whole_before {engine} (next {w} {a} h e) whole = (whole_before h (whole_call engine w a e whole), whole)
whole_before (decayed h image d) whole = (whole_before h whole, whole)

-- ---- ours: the account's state is the world's

module _ (w : World) (a : Account) (same : w.state ≡ a.state) where
  accepted_same : (e : Event) → (play w e).reply.number ≡ 0 → (play w e).world.state ≡ (entered a e (play w e)).state
  unfolding play entered with_entry step_noted
  accepted_same (admit write s mask payload) ok = same
  accepted_same (step i k) ok = same
  accepted_same (report c) ok =
      ap (λ (o : Outcome). o.world.state) (report_taken w c ok) ∙ sym (report_noted w.state c) ∙ ap (λ (st : State). reported st c) same
  accepted_same (collect i result) ok = same
  accepted_same scan ok = same
  accepted_same start ok = ap (λ (o : Outcome). o.world.state) (start_taken w ok) ∙ ap (λ (st : State). with_fill st 0) same
  accepted_same rebuild ok =
      ap (λ (o : Outcome). o.world.state) (rebuild_taken w ok)
      ∙ sym (fill_noted w.state)
      ∙ ap₂ filled_at same (sym (ap (λ (o : Outcome). o.reply.first) (rebuild_taken w ok)))

  same_after : (e : Event) → (play w e).world.state ≡ (noted play w a e).state
  unfolding noted
  same_after e = go (truth (eqb (play w e).reply.number 0))
    where
      go : (eqb (play w e).reply.number 0 ≡ true) ⊎ (eqb (play w e).reply.number 0 ≡ false)
          → (play w e).world.state ≡ (on_accept (play w e).reply.number (entered a e (play w e)) a).state
      go (inl f) = rw f (accepted_same e (eqb-true (play w e).reply.number 0 f))
      go (inr f) = rw (f, refused_leaves w e (eqb-false (play w e).reply.number 0 f)) same

pub state_kept : {w : World} {a : Account} → History play w a → w.state ≡ a.state
state_kept (opened g out table work image ok) = unfold opened_account in open_state g out table work image ok
state_kept (next {w} {a} h e) = same_after w a (state_kept h) e
state_kept (decayed h image d) = state_kept h
