-- The bytes of missing blocks may turn to anything: the world stays sure, since nothing in it rests on them.
-- Assumes nothing.
use Prim.Native.Nat.{ℕ, ◌≤◌, ◌<◌}
use mathlib.Core.List.{List}
use mathlib.Core.Logic.{inl}
use mathlib.Core.Path.{◌≡◌, refl}
use native.Mathlib.Omega.{arith}
use lib.ListN.{length}
use Rattle.terms.specs.Lists.{put}
use Rattle.geometry.proofs.Bounds.{Bounds}
use Rattle.geometry.proofs.Placing.{placed_in, missing_position}
use Rattle.geometry.specs.Placement.{card_of_position, Missing}
use Rattle.geometry.specs.Store.{image_size, cell_at}
use Rattle.geometry.specs.declared.State.{State}
use Rattle.record.specs.Life.{units_of, missing_in}
use Rattle.array.proofs.Frames.{cell_put_length, cell_put_other}
use Rattle.history.specs.Account.{Account}
use Rattle.history.specs.History.{Decayed}
use Rattle.history.specs.World.{World}
use Rattle.history.proofs.Carried.{carried_sure}
use Rattle.history.proofs.Facts.{bounds}
use Rattle.history.proofs.Invariant.{Sure, cells_of}

-- a missing block may turn to any block
pub block_decays : (st : State) (image : List ℕ) → length image ≡ image_size st.cards st.stripes st.block → (c s : ℕ)
    → s < st.stripes → Missing st c s → (block : List ℕ) → length block ≡ st.block
    → Decayed st image (put (cell_at st.stripes st.block c s) block image)
block_decays st image long c s hs missing block size =
    record {
      same_length = cell_put_length st.cards st.stripes st.block image long c s missing.is_card hs block size;
      same_bytes = λ d t b hd ht hb works.
          cell_put_other st.cards st.stripes st.block image long c s missing.is_card hs block size d t b ht hb
          (λ e f. works (rw (← e, ← f) missing));
    }

module _ (w : World) (a : Account) (sure : Sure w a) (image : List ℕ) (decayed : Decayed w.state w.image image) where
  abbrev st : State
  st = w.state

  limits : Bounds st.cards st.stripes st.block st.records
  limits = bounds sure.right

  -- a position that is not missing is on a card that works
  same_cell : (s b p : ℕ) → s < st.stripes → b < st.block → p ≤ units_of st → ¬ (p ≡ missing_in st s) → cells_of st image s b p ≡ cells_of st w.image s b p
  same_cell s b p hs hb l d =
      let placing = placed_in st (omega (arith, limits.cards_low)) in
      let hp : p < st.cards = omega (arith, limits.cards_low) in
      decayed.same_bytes (card_of_position st s p) s b (placing.card_below s p hp) hs hb
      (λ m. d (missing_position st placing s p hp m))

  pub decay_sure : Sure (record { state = st; table = w.table; work = w.work; image = image }) a
  decay_sure =
      carried_sure w a sure st image
      (record {
        same_geometry = refl;
        same_length = decayed.same_length;
        within = sure.right.limits;
        whole = sure.right.whole;
        each = λ s h. inl (record { stays = inl refl; same_cells = λ b p hb l d. same_cell s b p h hb l d });
      })
      a.state
