-- An accepted collect frees a finished record, which holds no stripe: the world stays sure.
-- Assumes nothing.
use Prim.Native.Nat.{ℕ}
use mathlib.Core.List.{List}
use mathlib.Core.Path.{refl, sym, ◌∙◌}
use native.Mathlib.Omega.{arith}
use lib.ListN.{set}
use Rattle.terms.proofs.Rows.{true≢false}
use Rattle.record.specs.Life.{free}
use Rattle.array.proofs.Collections.{Collecting}
use Rattle.stripe.specs.Blocks.{changed}
use Rattle.history.specs.Account.{Account, vacant}
use Rattle.history.specs.World.{World, record_at}
use Rattle.history.proofs.Facts.{open_fits}
use Rattle.history.proofs.Invariant.{Sure, matches_vacant}
use Rattle.record.proofs.Clauses.{free_sound, finished_not_open}
use Rattle.history.proofs.Turn.{Turn, turned}

module _ (w : World) (a : Account) (sure : Sure w a) (i : ℕ) (result : List ℕ) (ok : Collecting w.state w.table w.work i result) where
  -- no stripe changes: one beyond the last is named
  turn : Turn w a i w.state.stripes free w.work w.image a.row vacant
  turn =
      record {
        below = ok.record_below;
        same_work = refl;
        same_image = refl;
        got_others = λ j q b d h k. refl;
        new_others = λ j q b d h k. refl;
        cell_others = λ c t b d h k. refl;
        row_others = λ t u d h k. refl;
        row_size = sure.row_size;
        old_here = λ o. true≢false (sym o ∙ finished_not_open (record_at w i) ok.is_finished_law);
        new_here = λ o. true≢false (sym o);
        alone = λ j h d o e.
            omega (arith, (open_fits sure.right j h o).stripe_below);
        own_sound = free_sound w.state;
        own_entry = matches_vacant w.state;
        own_working = λ o. true≢false (sym o);
        own_read = λ f g. true≢false (sym f);
        own_resting = λ h o. absurd (omega arith);
      }

  pub collect_sure : Sure (record { state = w.state; table = set w.table i free; work = w.work; image = w.image })
      (record { state = w.state; row = a.row; entry = changed a.entry i vacant })
  collect_sure = turned w a sure i w.state.stripes free w.work w.image a.row vacant turn
