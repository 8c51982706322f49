-- A whole fill: where a card is out, no fill is under way and no request is open, a start and S rebuild steps are accepted one after the other; then no
-- card is out, and a scan finds parity right. The calls are a history, so the promise holds after each of them.
-- Assumes nothing.
use Prim.Native.Nat.{ℕ, zero, suc, ◌+◌, ◌<◌, ◌≤◌}
use mathlib.Core.Bool.{false, not}
use mathlib.Core.Path.{◌≡◌, refl, sym, ap, ◌∙◌}
use native.Mathlib.Omega.{arith}
use borrow.Author.Tests.{eqb-true, ne_eqb, lt-ltb, le-ltb, not-false}
use lib.Dec.{eqb}
use Rattle.terms.specs.Reply.{Reply, accepted}
use Rattle.geometry.proofs.Bounds.{Bounds}
use Rattle.geometry.specs.Limits.{none, no_fill, under_way}
use Rattle.geometry.specs.Report.{with_out, with_fill}
use Rattle.geometry.specs.declared.State.{State}
use Rattle.history.specs.Account.{Account, Entry, filled_at, entered, noted}
use Rattle.history.specs.History.{History, next, Whole}
use Rattle.history.specs.Promise.{Open, Promise, rebuilt, Refills, FillsUp}
use Rattle.history.specs.World.{World, start, rebuild, Outcome, play}
use Rattle.history.proofs.Books.{state_kept}
use Rattle.history.proofs.Events.{history_sure}
use Rattle.history.proofs.Facts.{bounds}
use Rattle.history.proofs.Promised.{promise}
use Rattle.history.proofs.Replies.{start_grants, start_taken}

module _ (w : World) (a : Account) (h : History play w a) (whole : Whole a) (one_out : ¬ (a.state.out ≡ none)) (still : under_way a.state ≡ false)
    (none_open : (i : ℕ) → ¬ Open a i) where
  abbrev S : ℕ
  S = a.state.stripes

  abbrev st : State
  st = a.state

  limits : Bounds st.cards S st.block st.records
  limits = rw (← state_kept h) (bounds (history_sure h whole).right)

  -- the account beside the calls
  abbrev book : ℕ → Account
  book zero = noted play w a start
  book (suc k) = noted play (rebuilt play w k) (book k) rebuild

  made : (k : ℕ) → History play (rebuilt play w k) (book k)
  unfolding rebuilt
  made zero = next h start
  made (suc k) = next (made k) rebuild

  -- the start is accepted
  starts : (play w start).reply ≡ accepted 0 0
  starts = ap (λ (o : Outcome). o.reply) (start_taken w ok)
    where
      ok : (play w start).reply.number ≡ 0
      ok =
          start_grants w (history_sure h whole).right
          (λ e. one_out (ap (λ (s : State). s.out) (sym (state_kept h)) ∙ e))
          (ap (λ (s : State). s.fill) (state_kept h) ∙ eqb-true st.fill no_fill (not-false _ still))

  -- what the account says with stripe k to be filled next
  record Filling (k : ℕ) : Type 0 where
    same_state : (book k).state ≡ with_fill st k
    same_entries : (book k).entry ≡ a.entry

  module _ (k : ℕ) (below : k < S) (at : Filling k) where
    kept : Promise play (rebuilt play w k) (book k)
    kept = promise _ _ (state_kept (made k)) (history_sure (made k) (unfold Whole in (ap (λ (s : State). s.lost) at.same_state ∙ (unfold Whole in whole))))

    no_open : (i : ℕ) → ¬ Open (book k) i
    no_open i (l, o) =
        none_open i (rw at.same_state at l, ap (λ (e : ℕ → Entry). (e i).phase) (sym at.same_entries) ∙ o)

    -- the rebuild step answers stripe k
    fills : (play (rebuilt play w k) rebuild).reply ≡ accepted k 0
    fills =
        kept.fills (rw at.same_state (ap not (ne_eqb k no_fill (λ e. omega (arith, e, below, limits.stripes_high))))) (λ i o e. no_open i o)
        ∙ ap (λ (s : State). accepted s.fill 0) at.same_state

    state_then : (book (suc k)).state ≡ filled_at (with_fill st k) k
    unfolding noted entered
    state_then =
        rw (ap (λ (r : Reply). eqb r.number 0) fills)
        (rw (ap (λ (r : Reply). r.first) fills, at.same_state))

    entries_then : (book (suc k)).entry ≡ a.entry
    unfolding noted entered
    entries_then = rw (ap (λ (r : Reply). eqb r.number 0) fills) at.same_entries

    -- the next stripe, or the end
    goes_on : suc k < S → Filling (suc k)
    unfolding filled_at
    goes_on l =
        record {
          same_state = state_then ∙ rw (lt-ltb (k + 1) S (omega (arith, l))) (ap (with_fill st) (let e : k + 1 ≡ suc k = omega arith in e));
          same_entries = entries_then;
        }

    ends : S ≤ suc k → (book (suc k)).state ≡ with_out (with_fill st no_fill) none
    unfolding filled_at
    ends l = state_then ∙ rw (le-ltb (k + 1) S (omega (arith, l)))

  filling : (k : ℕ) → k < S → Filling k
  filling zero below = record { same_state = first; same_entries = entries }
    where
      first : (book zero).state ≡ with_fill st zero
      first = unfold noted entered in rw (ap (λ (r : Reply). eqb r.number 0) starts)

      entries : (book zero).entry ≡ a.entry
      entries = unfold noted entered in rw (ap (λ (r : Reply). eqb r.number 0) starts)
  filling (suc k) below = goes_on k (omega (arith, below)) (filling k (omega (arith, below))) below

  -- after S of them
  at_end : (k : ℕ) → S ≡ suc k → (book S).state ≡ with_out (with_fill st no_fill) none
  at_end k e = ap (λ (m : ℕ). (book m).state) e ∙ ends k (omega (arith, e)) (filling k (omega (arith, e))) (omega (arith, e))

  last : (book S).state ≡ with_out (with_fill st no_fill) none
  last = go S refl
    where
      go : (m : ℕ) → S ≡ m → (book S).state ≡ with_out (with_fill st no_fill) none
      go zero e = absurd (omega (arith, e, limits.stripes_low))
      go (suc k) e = at_end k e

  refills : Refills play w a
  refills =
      record {
        starts = starts;
        steps = λ s below. fills s below (filling s below);
        none_out = ap (λ (s : State). s.out) (state_kept (made S) ∙ last);
        scans = at_last.scans (ap (λ (s : State). s.out) last);
      }
    where
      at_last : Promise play (rebuilt play w S) (book S)
      at_last = promise _ _ (state_kept (made S)) (history_sure (made S) (unfold Whole in (ap (λ (s : State). s.lost) last ∙ (unfold Whole in whole))))

-- ours brings every fill to its end
pub fills_up : FillsUp play
unfolding FillsUp
fills_up w a h whole one_out still none_open = refills w a h whole one_out still none_open
