-- The rows that every call on the table begins with, and then a call's own, as the code meets them: `?` hands on the refusal of the first ones, and
-- where they let the call pass its own decide.
-- Assumes nothing.
use mathlib.Core.Bool.{Bool, true, false}
use mathlib.Core.List.{List, ◌++◌}
use mathlib.Core.Path.{◌≡◌, refl, sym, ap}
use Rattle.terms.specs.Lists.{every}
use Rattle.terms.specs.Reply.{Reply, Row, first_row, accepted, refused, refusal_reply}
use Rattle.terms.specs.declared.refusal.Refusal.{Refusal}
use Rattle.terms.proofs.Refusals.{Failed, giving, zero_failed, first_row_behind}
use Rattle.geometry.specs.Limits.{beyond_state}
use Rattle.geometry.specs.declared.State.{State}
use Rattle.geometry.proofs.StateRows.{rows_refuse}
use Rattle.array.specs.Lent.{lent_rows}
use Rattle.array.proofs.Lent.{passed_rows}

module _ (st : State) (wrong sound : Bool) (own : List Row) where
  -- beyond the limits
  pub beyond_refuses : beyond_state st ≡ true → first_row (lent_rows st wrong sound ++ own) ≡ 1
  unfolding lent_rows first_row
  beyond_refuses e = rw e

  -- one of them refuses
  pub lent_refuses : (r : Refusal) → refusal_reply r ≡ refused (first_row (lent_rows st wrong sound))
      → refusal_reply r ≡ refused (first_row (lent_rows st wrong sound ++ own))
  lent_refuses = rows_refuse (lent_rows st wrong sound) own

  -- none does, and the call's own are left
  module _ (e : accepted 0 0 ≡ refused (first_row (lent_rows st wrong sound))) where
    failed : Failed (lent_rows st wrong sound)
    unfolding giving every lent_rows
    failed = zero_failed _ refl (sym (ap (λ (p : Reply). p.number) e))

    pub lent_passes : first_row (lent_rows st wrong sound ++ own) ≡ first_row own
    lent_passes = first_row_behind (lent_rows st wrong sound) own failed

    pub lent_long : wrong ≡ false
    lent_long = (passed_rows st wrong sound failed).lengths

    pub lent_sound : sound ≡ true
    lent_sound = (passed_rows st wrong sound failed).is_fine

pub ruleset lent_tests = (beyond_refuses, lent_refuses, lent_passes)
