-- Laws of a report, which is lent the state alone: its number, what an accepted one has passed and leaves, and that a refused one changes nothing.
-- Assumes nothing.
use Prim.Native.Nat.{ℕ, ◌<◌}
use mathlib.Core.Bool.{true, false, not}
use mathlib.Core.List.{◌++◌}
use mathlib.Core.Logic.{◌⊎◌, inl, inr, ⊎_elim}
use mathlib.Core.Path.{◌≡◌, refl}
use borrow.Author.Tests.{eqb-true, eqb-false, eq-eqb, ne_eqb, leb-false, not-false}
use lib.Dec.{eqb}
use Rattle.terms.specs.Lists.{every}
use Rattle.terms.specs.Reply.{accepted, refused}
use Rattle.terms.proofs.Refusals.{Failed, giving, zero_failed}
use Rattle.terms.proofs.Rows.{and_false_cases}
use Rattle.geometry.specs.Limits.{under_way, beyond_state}
use Rattle.geometry.specs.Report.{state_rows, report_rows, report_refusal, marked, reporting}
use Rattle.geometry.specs.declared.State.{State}
use Rattle.array.proofs.Lent.{Lently, state_fine, own_rows}
use Rattle.array.proofs.Replies.{number_is}

module _ (st : State) (c : ℕ) where
  pub report_number : (reporting st c).reply.number ≡ report_refusal st c
  unfolding reporting
  report_number = number_is (report_refusal st c) (accepted 0 0) refl

  -- each test failed, as a fact
  pub record Reports : Type 0 where
    pub limits : beyond_state st ≡ false
    pub whole : st.lost ≡ 0
    pub card_below : c < st.cards
    pub news : (¬ (c ≡ st.out)) ⊎ (under_way st ≡ true)

  pub report_passed : report_refusal st c ≡ 0 → Reports
  unfolding report_refusal state_rows report_rows Failed giving every
  report_passed ok =
      let f : Failed (state_rows st ++ report_rows st c) = zero_failed _ refl ok in
      record {
        limits = f.0;
        whole = eqb-true st.lost 0 (not-false _ f.1.0);
        card_below = leb-false st.cards c f.1.1.0;
        news =
            ⊎_elim (λ e. inl (eqb-false c st.out e)) (λ e. inr (not-false (under_way st) e))
            (and_false_cases (eqb c st.out) (not (under_way st)) f.1.1.1.0);
      }

  pub report_accepted : report_refusal st c ≡ 0 → reporting st c ≡ record { reply = accepted 0 0; state = marked st c }
  unfolding reporting
  report_accepted ok = rw (eq-eqb (report_refusal st c) 0 ok)

  pub report_refused : ¬ (report_refusal st c ≡ 0) → reporting st c ≡ record { reply = refused (report_refusal st c); state = st }
  unfolding reporting
  report_refused d = rw (ne_eqb (report_refusal st c) 0 d)

  -- a legal state that is not lost is not refused for itself
  pub report_lently : beyond_state st ≡ false → st.lost ≡ 0 → Lently (report_refusal st c)
  unfolding report_refusal report_rows giving every
  report_lently limits whole = own_rows (state_rows st) (report_rows st c) (state_fine st limits whole) refl
