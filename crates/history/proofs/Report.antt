-- A report while the array is not lost. The first card that is reported goes out, in every stripe; a fresh card that is reported ends its fill, and is out
-- in the filled stripes too. No byte changes, and the world stays sure, with one position fewer to rely on in those stripes.
-- Assumes nothing.
use Prim.Native.Nat.{ℕ, ◌<◌}
use mathlib.Core.Logic.{inr}
use mathlib.Core.Path.{◌≡◌, refl}
use Rattle.geometry.proofs.Missing.{out_none, out_ended}
use Rattle.geometry.proofs.States.{out_within, ended_within}
use Rattle.geometry.specs.Limits.{none, no_fill}
use Rattle.geometry.specs.Report.{with_out, with_fill}
use Rattle.geometry.specs.declared.State.{State}
use Rattle.history.specs.Account.{Account}
use Rattle.history.specs.World.{World}
use Rattle.history.proofs.Carried.{onward_sure}
use Rattle.history.proofs.Invariant.{Sure}

module _ (w : World) (a : Account) (sure : Sure w a) where
  abbrev st : State
  st = w.state

  -- the same world and account, with another state
  abbrev Surely : State → Type 0
  Surely st' =
      Sure (record { state = st'; table = w.table; work = w.work; image = w.image }) (record { state = st'; row = a.row; entry = a.entry })

  pub first_sure : (c : ℕ) → st.out ≡ none → c < st.cards → Surely (with_out st c)
  first_sure c none_out below =
      onward_sure w a sure (with_out st c) (record { same_geometry = refl; stays = λ s h. inr (out_none st s none_out) })
      (out_within st sure.right.limits c none_out below) sure.right.whole (with_out st c)

  pub ended_sure : Surely (with_fill st no_fill)
  ended_sure =
      onward_sure w a sure (with_fill st no_fill) (record { same_geometry = refl; stays = λ s h. out_ended st s }) (ended_within st sure.right.limits) sure.right.whole
      (with_fill st no_fill)
