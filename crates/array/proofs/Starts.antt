-- Laws of a start, which is lent the state alone: its number, what an accepted one has passed and leaves, when one is accepted, and that a refused one
-- changes nothing.
-- Assumes nothing.
use mathlib.Core.Bool.{false, not}
use mathlib.Core.List.{◌++◌}
use mathlib.Core.Path.{◌≡◌, refl, ap}
use borrow.Author.Tests.{eqb-true, eqb-false, eq-eqb, ne_eqb, not-false}
use Rattle.terms.specs.Lists.{every}
use Rattle.terms.specs.Reply.{accepted, refused}
use Rattle.terms.proofs.Refusals.{Failed, giving, zero_failed, failed_zero, failed_both}
use Rattle.geometry.specs.Fill.{start_rows, start_refusal, starting}
use Rattle.geometry.specs.Limits.{none, no_fill, beyond_state}
use Rattle.geometry.specs.Report.{state_rows, with_fill}
use Rattle.geometry.specs.declared.State.{State}
use Rattle.array.proofs.Lent.{Lently, state_fine, own_rows}
use Rattle.array.proofs.Replies.{number_is}

module _ (st : State) where
  pub start_number : (starting st).reply.number ≡ start_refusal st
  unfolding starting
  start_number = number_is (start_refusal st) (accepted 0 0) refl

  -- each test failed, as a fact
  pub record Starts : Type 0 where
    pub limits : beyond_state st ≡ false
    pub whole : st.lost ≡ 0
    pub one_out : ¬ (st.out ≡ none)
    pub still : st.fill ≡ no_fill

  pub start_passed : start_refusal st ≡ 0 → Starts
  unfolding start_refusal state_rows start_rows Failed giving every
  start_passed ok =
      let f : Failed (state_rows st ++ start_rows st) = zero_failed _ refl ok in
      record {
        limits = f.0;
        whole = eqb-true st.lost 0 (not-false _ f.1.0);
        one_out = eqb-false st.out none f.1.1.0;
        still = eqb-true st.fill no_fill (not-false _ f.1.1.1.0);
      }

  -- and where each fails it is accepted
  pub start_granted : Starts → start_refusal st ≡ 0
  unfolding start_refusal start_rows Failed
  start_granted s =
      let own : Failed (start_rows st) = (ne_eqb st.out none s.one_out, (ap not (eq-eqb st.fill no_fill s.still), tt)) in
      failed_zero _ (failed_both (state_rows st) (start_rows st) (state_fine st s.limits s.whole) own)

  pub start_accepted : start_refusal st ≡ 0 → starting st ≡ record { reply = accepted 0 0; state = with_fill st 0 }
  unfolding starting
  start_accepted ok = rw (eq-eqb (start_refusal st) 0 ok)

  pub start_refused : ¬ (start_refusal st ≡ 0) → starting st ≡ record { reply = refused (start_refusal st); state = st }
  unfolding starting
  start_refused d = rw (ne_eqb (start_refusal st) 0 d)

  -- a legal state that is not lost is not refused for itself
  pub start_lently : beyond_state st ≡ false → st.lost ≡ 0 → Lently (start_refusal st)
  unfolding start_refusal start_rows giving every
  start_lently limits whole = own_rows (state_rows st) (start_rows st) (state_fine st limits whole) refl
