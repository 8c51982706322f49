-- What is at hand wherever all that is lent is right: the limits as bounds, and each record that is not free as facts.
-- Assumes nothing.
use Prim.Native.Nat.{ℕ, ◌<◌}
use mathlib.Core.Bool.{false, true}
use mathlib.Core.List.{List}
use mathlib.Core.Path.{◌≡◌}
use native.Mathlib.Omega.{arith}
use lib.ListN.{get_or}
use Rattle.geometry.proofs.Bounds.{Bounds}
use Rattle.geometry.proofs.States.{state_bounds}
use Rattle.geometry.specs.declared.State.{State}
use Rattle.record.specs.Life.{free, is_free, is_open}
use Rattle.record.specs.declared.Record.{Record}
use Rattle.array.proofs.Lent.{Right}
use Rattle.record.proofs.Clauses.{Fit, fit, open_not_free}
use Rattle.record.proofs.SoundTables.{sound_elim}

module _ {st : State} {table : List Record} {work image : List ℕ} (right : Right st table work image) where
  pub bounds : Bounds st.cards st.stripes st.block st.records
  bounds = state_bounds st right.limits

  pub fits : (i : ℕ) → i < st.records → is_free (get_or table i free) ≡ false → Fit st (get_or table i free)
  fits i h f = fit st (get_or table i free) ((sound_elim st table right.is_sound).each i (omega (arith, right.table_right))) f

  pub open_fits : (i : ℕ) → i < st.records → is_open (get_or table i free) ≡ true → Fit st (get_or table i free)
  open_fits i h o = fits i h (open_not_free (get_or table i free) o)
