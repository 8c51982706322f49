-- A fill keeps the invariant. Its start changes no byte, and which card is missing in no stripe. A rebuild step puts right the stripe at the fill place,
-- which no open request holds; in every other stripe the missing card stays.
-- Assumes nothing.
use Prim.Native.Nat.{◌<◌}
use mathlib.Core.Bool.{true, false}
use mathlib.Core.Logic.{inl}
use mathlib.Core.Path.{◌≡◌, refl, ◌∙◌}
use native.Mathlib.Omega.{arith}
use Rattle.geometry.proofs.Missing.{out_started, out_moved, fill_missing}
use Rattle.geometry.proofs.States.{state_filling, placed_within, moved_within, moved_geometry, moved_lost}
use Rattle.geometry.specs.Fill.{moved_on}
use Rattle.geometry.specs.Limits.{none, no_fill, under_way}
use Rattle.geometry.specs.Report.{with_fill}
use Rattle.geometry.specs.declared.State.{State}
use Rattle.parity.specs.Rest.{restored}
use Rattle.record.specs.Sound.{held}
use Rattle.history.specs.Account.{Account}
use Rattle.history.specs.World.{World}
use Rattle.history.proofs.Carried.{onward_sure}
use Rattle.history.proofs.Facts.{bounds}
use Rattle.history.proofs.Invariant.{Sure}
use Rattle.history.proofs.PutRight.{put_right_sure}

module _ (w : World) (a : Account) (sure : Sure w a) where
  abbrev st : State
  st = w.state

  pub start_sure : st.fill ≡ no_fill → ¬ (st.out ≡ none)
      → Sure (record { state = with_fill st 0; table = w.table; work = w.work; image = w.image })
      (record { state = with_fill st 0; row = a.row; entry = a.entry })
  start_sure still one_out =
      onward_sure w a sure (with_fill st 0) (record { same_geometry = refl; stays = λ s h. inl (out_started st s still) })
      (placed_within st sure.right.limits 0 (omega (arith, (bounds sure.right).stripes_low)) one_out) sure.right.whole (with_fill st 0)

  module _ (way : under_way st ≡ true) where
    below : st.fill < st.stripes
    below = (state_filling st sure.right.limits way).0

    one_out : ¬ (st.out ≡ none)
    one_out = (state_filling st sure.right.limits way).1

    pub rebuild_sure : held w.table st.fill ≡ false
        → Sure (record { state = moved_on st; table = w.table; work = w.work; image = restored st w.image st.out st.fill })
        (record { state = moved_on st; row = a.row; entry = a.entry })
    unfolding restored
    rebuild_sure idle =
        put_right_sure w a sure st.out st.fill below (fill_missing st sure.right.limits way) (moved_on st) (moved_geometry st) (moved_within st sure.right.limits one_out)
        (moved_lost st ∙ sure.right.whole) idle
        (λ s h d. inl (out_moved st way below (bounds sure.right).stripes_high s h d)) (moved_on st)
