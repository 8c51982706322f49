-- At most one card out at any moment, as a fact of the calls and their answers, and an array that is not lost: of any engine the first gives the second,
-- and of ours the second the first.
-- Assumes nothing.
use Prim.Native.Nat.{ℕ, ◌+◌}
use mathlib.Core.Bool.{Bool, true, false, cond}
use mathlib.Core.List.{List, [], ◌∷◌}
use mathlib.Core.Logic.{◌⊎◌, inl, inr}
use mathlib.Core.Path.{◌≡◌, refl, sym, ap, ◌∙◌}
use native.Mathlib.Decide.{ℕ_discrete}
use native.Mathlib.Omega.{arith}
use borrow.Author.Tests.{eqb-true, eqb-false, eq-eqb, ne_eqb}
use lib.Dec.{ltb, eqb}
use Rattle.terms.specs.Lists.{every}
use Rattle.terms.specs.Reply.{on_accept}
use Rattle.terms.proofs.Rows.{and_left, and_right}
use Rattle.geometry.proofs.States.{state_bounds}
use Rattle.geometry.specs.Limits.{none, no_fill}
use Rattle.geometry.specs.Report.{with_out, with_lost, with_fill}
use Rattle.geometry.specs.declared.State.{State}
use Rattle.array.specs.Refusals.{opened as opened_state}
use Rattle.history.specs.Account.{Account, reported, filled_at, noted}
use Rattle.history.specs.History.{History, opened, next, decayed, opened_account, out_after, cards_out, OneCard, Whole}
use Rattle.history.specs.World.{World, Event, admit, step, report, collect, scan, start, rebuild, Engine, play}
use Rattle.history.proofs.Books.{state_after, noted_accepted, noted_refused, whole_call, state_kept}
use Rattle.history.proofs.Replies.{report_tests}

-- all of these cards are d
abbrev AllAre : ℕ → List ℕ → Type 0
AllAre d cards = every (λ k. eqb k d) cards ≡ true

abbrev AllOne : List ℕ → Type 0
AllOne cards = (d : ℕ) × AllAre d cards

all_head : (d c : ℕ) (cards : List ℕ) → AllAre d (c ∷ cards) → c ≡ d
unfolding every
all_head d c cards all = eqb-true c d (and_left (eqb c d) (every (λ k. eqb k d) cards) all)

all_tail : (d c : ℕ) (cards : List ℕ) → AllAre d (c ∷ cards) → AllAre d cards
unfolding every
all_tail d c cards all = and_right (eqb c d) (every (λ k. eqb k d) cards) all

all_more : (d : ℕ) (cards : List ℕ) → AllAre d cards → AllAre d (d ∷ cards)
unfolding every
all_more d cards all = rw (eq-eqb d d refl) all

-- not lost, and the card that is out, if one is, is the one that all cards are
record Only (st : State) (cards : List ℕ) : Type 0 where
  not_lost : st.lost ≡ 0
  this_out : (st.out ≡ none) ⊎ ((d : ℕ) → AllAre d cards → st.out ≡ d)

-- after an accepted call, where all cards that are out then are one
only_after : (st : State) (cards : List ℕ) → Only st cards → (e : Event) (k : ℕ) → AllOne (out_after st.stripes e k cards)
    → Only (state_after st e k) (out_after st.stripes e k cards)
unfolding out_after
only_after st cards only (admit write s mask payload) k one = only
only_after st cards only (step i j) k one = only
only_after st cards only (report c) k (d, all) = unfold reported in go (eqb st.out none) refl (eqb c st.out) refl
  where
    same : (st.out ≡ none) ⊎ ((b : ℕ) → AllAre b cards → st.out ≡ b) → eqb st.out none ≡ false → st.out ≡ c
    same (inl z) f = absurd (eqb-false st.out none f z)
    same (inr g) f = g d (all_tail d c cards all) ∙ sym (all_head d c cards all)

    go : (o : Bool) → eqb st.out none ≡ o → (p : Bool) → eqb c st.out ≡ p
        → Only (cond o (with_out st c) (cond p (with_fill st no_fill) (with_lost st))) (c ∷ cards)
    go true f p g = record { not_lost = only.not_lost; this_out = inr (λ b q. all_head b c cards q) }
    go false f true g = record { not_lost = only.not_lost; this_out = inr (λ b q. sym (eqb-true c st.out g) ∙ all_head b c cards q) }
    go false f false g = absurd (eqb-false c st.out g (sym (same only.this_out f)))
only_after st cards only (collect i result) k one = only
only_after st cards only scan k one = only
only_after st cards only start k one = record { not_lost = only.not_lost; this_out = only.this_out }
only_after st cards only rebuild k one = unfold filled_at in go (ltb (k + 1) st.stripes)
  where
    go : (b : Bool) → Only (cond b (with_fill st (k + 1)) (with_out (with_fill st no_fill) none)) (cond b cards [])
    go true = record { not_lost = only.not_lost; this_out = only.this_out }
    go false = record { not_lost = only.not_lost; this_out = inl refl }

only_kept : {engine : Engine} {w : World} {a : Account} (h : History engine w a) → OneCard h → Only a.state (cards_out h)
unfolding cards_out OneCard opened_state opened_account
only_kept (opened g out table work image ok) one = go (eqb out none) refl
  where
    go : (t : Bool) → eqb out none ≡ t → Only (opened_state g out) (cond t [] (out ∷ []))
    go true f = record { not_lost = refl; this_out = inl (eqb-true out none f) }
    go false f = record { not_lost = refl; this_out = inr (λ d q. all_head d out [] q) }
only_kept {engine} (next {w} {a} h e) (before, one) = go (ℕ_discrete (engine w e).reply.number 0) (only_kept h before)
  where
    go : Dec ((engine w e).reply.number ≡ 0) → Only a.state (cards_out h)
        → Only (noted engine w a e).state (on_accept (engine w e).reply.number (out_after a.state.stripes e (engine w e).reply.first (cards_out h)) (cards_out h))
    go (yes ok) was =
        rw (noted_accepted engine w a e ok, eq-eqb (engine w e).reply.number 0 ok)
        (only_after a.state (cards_out h) was e (engine w e).reply.first (rw (eq-eqb (engine w e).reply.number 0 ok) at one))
    go (no d) was = rw (noted_refused engine w a e d, ne_eqb (engine w e).reply.number 0 d) was
only_kept (decayed h image d) one = only_kept h one

-- if at every moment all cards that are out are one, the array is not lost
pub one_card : {engine : Engine} {w : World} {a : Account} (h : History engine w a) → OneCard h → Whole a
unfolding Whole
one_card h one = (only_kept h one).not_lost

-- ---- and of ours the other way: where the array is not lost, all cards are the one that is out, at every moment

record Told (st : State) (cards : List ℕ) : Type 0 where
  each_out : AllAre st.out cards
  none_told : st.out ≡ none → cards ≡ []

-- after an accepted call that does not lose the array
told_after : (w : World) (a : Account) → w.state ≡ a.state → (e : Event) → (play w e).reply.number ≡ 0 → (k : ℕ) → (state_after a.state e k).lost ≡ 0
    → (cards : List ℕ) → Told a.state cards → Told (state_after a.state e k) (out_after a.state.stripes e k cards)
unfolding out_after
told_after w a same (admit write s mask payload) ok k whole cards told = told
told_after w a same (step i j) ok k whole cards told = told
told_after w a same (report c) ok k whole cards told = unfold reported in go (eqb a.state.out none) refl (eqb c a.state.out) refl (unfold reported in whole)
  where
    no_none : ¬ (c ≡ none)
    no_none e = omega (arith, (report_tests w c ok).card_below, (state_bounds w.state (report_tests w c ok).limits).cards_high)

    go : (o : Bool) → eqb a.state.out none ≡ o → (p : Bool) → eqb c a.state.out ≡ p
        → (cond o (with_out a.state c) (cond p (with_fill a.state no_fill) (with_lost a.state))).lost ≡ 0
        → Told (cond o (with_out a.state c) (cond p (with_fill a.state no_fill) (with_lost a.state))) (c ∷ cards)
    go true f p g lost =
        rw (told.none_told (eqb-true a.state.out none f)) (record { each_out = all_more c [] (unfold every in refl); none_told = λ e. absurd (no_none e) })
    go false f true g lost =
        let e = eqb-true c a.state.out g in
        record { each_out = rw e (all_more a.state.out cards told.each_out); none_told = λ z. absurd (no_none (e ∙ z)) }
    go false f false g lost = absurd (omega arith)
told_after w a same (collect i result) ok k whole cards told = told
told_after w a same scan ok k whole cards told = told
told_after w a same start ok k whole cards told = record { each_out = told.each_out; none_told = told.none_told }
told_after w a same rebuild ok k whole cards told = unfold filled_at in go (ltb (k + 1) a.state.stripes)
  where
    go : (b : Bool) → Told (cond b (with_fill a.state (k + 1)) (with_out (with_fill a.state no_fill) none)) (cond b cards [])
    go true = record { each_out = told.each_out; none_told = told.none_told }
    go false = record { each_out = unfold every in refl; none_told = λ e. refl }

all_told : {w : World} {a : Account} (h : History play w a) → Whole a → Told a.state (cards_out h)
unfolding cards_out every opened_state opened_account Whole
all_told (opened g out table work image ok) whole = go (eqb out none) refl
  where
    go : (t : Bool) → eqb out none ≡ t → Told (opened_state g out) (cond t [] (out ∷ []))
    go true f = record { each_out = refl; none_told = λ e. refl }
    go false f = record { each_out = rw (eq-eqb out out refl); none_told = λ e. absurd (eqb-false out none f e) }
all_told (next {w} {a} h e) whole = go (ℕ_discrete (play w e).reply.number 0) (all_told h (whole_call play w a e whole))
  where
    go : Dec ((play w e).reply.number ≡ 0) → Told a.state (cards_out h)
        → Told (noted play w a e).state (on_accept (play w e).reply.number (out_after a.state.stripes e (play w e).reply.first (cards_out h)) (cards_out h))
    go (yes ok) was =
        rw (noted_accepted play w a e ok, eq-eqb (play w e).reply.number 0 ok)
        (told_after w a (state_kept h) e ok (play w e).reply.first (ap (λ (st : State). st.lost) (sym (noted_accepted play w a e ok)) ∙ whole) (cards_out h) was)
    go (no d) was = rw (noted_refused play w a e d, ne_eqb (play w e).reply.number 0 d) was
all_told (decayed h image d) whole = all_told h whole

pub one_card_only : {w : World} {a : Account} (h : History play w a) → Whole a → OneCard h
unfolding OneCard
one_card_only (opened g out table work image ok) whole = tt
one_card_only (next {w} {a} h e) whole =
    (one_card_only h (whole_call play w a e whole), ((noted play w a e).state.out, (all_told (next h e) whole).each_out))
one_card_only (decayed h image d) whole = one_card_only h whole
