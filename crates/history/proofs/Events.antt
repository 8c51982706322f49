-- Every call keeps the invariant, while the array is not lost, and so does a decay; and so it holds at the end of every such history.
-- Assumes nothing.
use Prim.Native.Nat.{ℕ}
use mathlib.Core.Bool.{Bool, true, false, cond}
use mathlib.Core.List.{List}
use mathlib.Core.Logic.{◌⊎◌, inl, inr}
use mathlib.Core.Path.{◌≡◌, refl, subst}
use native.Mathlib.Omega.{arith}
use borrow.Author.Tests.{eqb-true, eqb-false}
use lib.Dec.{eqb}
use lib.ListN.{get_or, set}
use lib.Seq.{get_or-set_same}
use Rattle.terms.proofs.Rows.{truth}
use Rattle.geometry.specs.Limits.{none, no_fill}
use Rattle.geometry.specs.Report.{marked, with_out, with_lost, with_fill}
use Rattle.geometry.specs.declared.State.{State}
use Rattle.graph.specs.Order.{complete, after}
use Rattle.graph.specs.Steps.{step_of}
use Rattle.record.specs.Life.{free, is_finished, units_of, chosen_at, missing_in, stepped, afresh}
use Rattle.record.specs.declared.Record.{Record}
use Rattle.array.proofs.Steppings.{Ready}
use Rattle.array.specs.Stepping.{meets_out}
use Rattle.history.specs.Account.{Account, Entry, with_entry, step_noted, entered, noted}
use Rattle.history.specs.History.{History, opened, next, decayed, Whole}
use Rattle.history.specs.World.{World, Event, admit, step, report, collect, scan, start, rebuild, play, record_at}
use Rattle.history.proofs.Admit.{admit_sure}
use Rattle.history.proofs.Books.{report_noted, fill_noted, state_kept, whole_call}
use Rattle.history.proofs.Collect.{collect_sure}
use Rattle.history.proofs.Decay.{decay_sure}
use Rattle.history.proofs.Done.{done_sure}
use Rattle.history.proofs.Fills.{start_sure, rebuild_sure}
use Rattle.history.proofs.Invariant.{Sure}
use Rattle.history.proofs.Opened.{open_sure}
use Rattle.history.proofs.Replies.{admit_tests, admit_taken, step_tests, step_afresh, step_done, report_tests, report_taken, start_tests, start_taken, rebuild_tests, rebuild_taken, rebuild_idle, collect_tests, collect_taken, refused_leaves}
use Rattle.history.proofs.Report.{first_sure, ended_sure}
use Rattle.history.proofs.Rows.{after_row}
use Rattle.history.proofs.Step.{afresh_sure}

-- a record is finished after its last step, and not after a fresh choice
finished_last : (st : State) (r : Record) (k : ℕ) → is_finished (stepped st r k) ≡ complete (units_of st) r.graph r.mask (chosen_at st r) (after r.done k)
unfolding stepped
finished_last st r k = go (complete (units_of st) r.graph r.mask (chosen_at st r) (after r.done k))
  where
    go : (t : Bool) → eqb (cond t 2 1) 2 ≡ t
    go true = refl
    go false = refl

unfinished : (st : State) (r : Record) → is_finished (afresh st r) ≡ false
unfolding afresh
unfinished st r = refl

-- a world, and an account that has its state
module _ (w : World) (row : ℕ → List ℕ) (entry : ℕ → Entry) where
  abbrev a : Account
  a = record { state = w.state; row = row; entry = entry }

  module _ (sure : Sure w a) where
    -- an accepted step is done, or chosen afresh
    module _ (i k : ℕ) (ok : (play w (step i k)).reply.number ≡ 0) where
      abbrev r : Record
      r = record_at w i

      tests : Ready w.state w.table w.work w.image i k
      tests = step_tests w i k ok

      -- the record after it
      put_there : (r' : Record) → get_or (set w.table i r') i free ≡ r'
      put_there r' = get_or-set_same w.table i r' free (omega (arith, tests.record_below, sure.right.table_right))

      step_kept : Sure (play w (step i k)).world (step_noted a i (is_finished (record_at (play w (step i k)).world i)))
      unfolding step_noted after_row
      step_kept = go (truth meets)
        where
          meets : Bool
          meets = meets_out (missing_in w.state r.stripe) (step_of (units_of w.state) k)

          last : Bool
          last = complete (units_of w.state) r.graph r.mask (chosen_at w.state r) (after r.done k)

          done : meets ≡ false → (last ≡ true) ⊎ (last ≡ false)
              → Sure (play w (step i k)).world (step_noted a i (is_finished (record_at (play w (step i k)).world i)))
          done e (inl l) =
              rw (step_done w i k ok e, put_there (stepped w.state r k), finished_last w.state r k, l) (done_sure w a sure i k tests e true l)
          done e (inr l) =
              rw (step_done w i k ok e, put_there (stepped w.state r k), finished_last w.state r k, l) (done_sure w a sure i k tests e false l)

          go : (meets ≡ true) ⊎ (meets ≡ false)
              → Sure (play w (step i k)).world (step_noted a i (is_finished (record_at (play w (step i k)).world i)))
          go (inl e) = rw (step_afresh w i k ok e, put_there (afresh w.state r), unfinished w.state r) (afresh_sure w a sure i k tests e)
          go (inr e) = done e (truth last)

    -- an accepted report is of the first card, or of a fresh one: a second, different one would lose the array
    report_kept : (c : ℕ) → (play w (report c)).reply.number ≡ 0 → (marked w.state c).lost ≡ 0
        → Sure (record { state = marked w.state c; table = w.table; work = w.work; image = w.image })
        (record { state = marked w.state c; row = row; entry = entry })
    unfolding marked
    report_kept c ok whole = go (eqb w.state.out none) refl (eqb c w.state.out) whole
      where
        after_report : Bool → Bool → State
        after_report o p = cond o (with_out w.state c) (cond p (with_fill w.state no_fill) (with_lost w.state))

        go : (o : Bool) → eqb w.state.out none ≡ o → (p : Bool) → (after_report o p).lost ≡ 0
            → Sure (record { state = after_report o p; table = w.table; work = w.work; image = w.image })
            (record { state = after_report o p; row = row; entry = entry })
        go true f p lost = first_sure w a sure c (eqb-true w.state.out none f) (report_tests w c ok).card_below
        go false f true lost = ended_sure w a sure
        go false f false lost = absurd (omega arith)

    -- an accepted call
    accepted_kept : (e : Event) → (play w e).reply.number ≡ 0 → Whole (entered a e (play w e)) → Sure (play w e).world (entered a e (play w e))
    unfolding entered with_entry Whole
    accepted_kept (admit write s mask payload) ok whole =
        rw (admit_taken w write s mask payload ok) (admit_sure w a sure write s mask payload (admit_tests w write s mask payload ok))
    accepted_kept (step i k) ok whole = step_kept i k ok
    accepted_kept (report c) ok whole = rw (report_taken w c ok, report_noted w.state c) (report_kept c ok (rw (report_noted w.state c) at whole))
    accepted_kept (collect i result) ok whole = rw (collect_taken w i result ok) (collect_sure w a sure i result (collect_tests w i result ok))
    accepted_kept scan ok whole = unfold play in sure
    accepted_kept start ok whole = rw (start_taken w ok) (start_sure w a sure (start_tests w ok).still (start_tests w ok).one_out)
    accepted_kept rebuild ok whole =
        rw (rebuild_taken w ok, fill_noted w.state) (rebuild_sure w a sure (rebuild_tests w ok).way (rebuild_idle w sure.right ok))

    -- any call: a refused one leaves the world and the account
    call_kept : (e : Event) → Whole (noted play w a e) → Sure (play w e).world (noted play w a e)
    unfolding noted
    call_kept e = go (truth (eqb (play w e).reply.number 0))
      where
        go : (eqb (play w e).reply.number 0 ≡ true) ⊎ (eqb (play w e).reply.number 0 ≡ false) → Whole (noted play w a e)
            → Sure (play w e).world (noted play w a e)
        go (inl f) whole = rw f (accepted_kept e (eqb-true (play w e).reply.number 0 f) (rw f at whole))
        go (inr f) whole = rw (f, refused_leaves w e (eqb-false (play w e).reply.number 0 f)) sure

-- the same of any account whose state is the world's
event_kept : (w : World) (a : Account) → w.state ≡ a.state → Sure w a → (e : Event) → Whole (noted play w a e) → Sure (play w e).world (noted play w a e)
event_kept w a same sure =
    subst
    (λ (st : State). Sure w (record { state = st; row = a.row; entry = a.entry }) → (e : Event)
    → Whole (noted play w (record { state = st; row = a.row; entry = a.entry }) e)
    → Sure (play w e).world (noted play w (record { state = st; row = a.row; entry = a.entry }) e))
    same (call_kept w a.row a.entry) sure

-- the invariant at the end of a history
pub history_sure : {w : World} {a : Account} → History play w a → Whole a → Sure w a
history_sure (opened g out table work image ok) whole = open_sure g out table work image ok
history_sure (next {w} {a} h e) whole = event_kept w a (state_kept h) (history_sure h (whole_call play w a e whole)) e whole
history_sure (decayed {w} {a} h image d) whole = decay_sure w a (history_sure h whole) image (rw (state_kept h) d)
