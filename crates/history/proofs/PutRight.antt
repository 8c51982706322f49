-- The mirror of a failure: the missing block of a stripe that no open request holds is filled with the exclusive or of the rest. The stripe then holds
-- its row on every position, whichever card counts as missing there afterwards; every other stripe's missing card stays or was none, and its bytes
-- are as before. So the world stays sure, on the same row.
-- Assumes nothing.
use Prim.Native.Nat.{ℕ, suc, ◌≤◌, ◌<◌}
use mathlib.Core.Bool.{Bool, true, false, cond}
use mathlib.Core.List.{List}
use mathlib.Core.Logic.{◌⊎◌, inl, inr}
use mathlib.Core.Path.{◌≡◌, refl, sym, ap, subst, ◌∙◌}
use native.Mathlib.Decide.{ℕ_discrete}
use native.Mathlib.Omega.{arith}
use borrow.Author.Tests.{eqb-true, eqb-false}
use lib.Dec.{eqb}
use lib.ListN.{length, get_or}
use Rattle.terms.specs.Lists.{put}
use Rattle.terms.specs.Sets.{xor_to}
use Rattle.block.proofs.Sums.{others}
use Rattle.geometry.proofs.Bounds.{Bounds}
use Rattle.geometry.proofs.Placing.{placed_in, missing_is, out_position, out_card}
use Rattle.geometry.specs.Limits.{none, no_fill, geometry_of, state_of, beyond_state}
use Rattle.geometry.specs.Placement.{card_of_position, position_of_card, Missing, out_in}
use Rattle.geometry.specs.Placing.{Placing}
use Rattle.geometry.specs.Store.{cell_at}
use Rattle.geometry.specs.declared.Geometry.{Geometry}
use Rattle.geometry.specs.declared.State.{State}
use Rattle.parity.specs.Rest.{rest_of}
use Rattle.record.specs.Life.{units_of, missing_in}
use Rattle.record.specs.Sound.{held}
use Rattle.array.proofs.Frames.{cell_put_length, cell_put_same, cell_put_other}
use Rattle.stripe.proofs.Bytes.{bytes, sum_xor}
use Rattle.stripe.proofs.Heart.{heart}
use Rattle.stripe.specs.Blocks.{changed}
use Rattle.stripe.specs.Group.{sum_to, others as other_ones}
use Rattle.stripe.specs.Invariant.{Idle}
use Rattle.history.specs.Account.{Account}
use Rattle.history.specs.World.{World}
use Rattle.history.proofs.Carried.{GoesOn, RestsAnew, carried_sure, same_cells}
use Rattle.history.proofs.Facts.{bounds}
use Rattle.history.proofs.Invariant.{Sure, Resting, cells_of}
use Rattle.history.proofs.ReadOff.{rest_byte, rest_size}
use Rattle.history.proofs.Rows.{row_of}

-- the image with card c's block of stripe t filled
abbrev pub filled : World → ℕ → ℕ → List ℕ
filled w c t =
    put (cell_at w.state.stripes w.state.block c t) (rest_of w.state w.image c t) w.image

module _ (w : World) (a : Account) (sure : Sure w a) (c t : ℕ) (ht : t < w.state.stripes) (missing : Missing w.state c t) where
  abbrev st : State
  st = w.state

  abbrev N : ℕ
  N = st.cards

  abbrev n : ℕ
  n = units_of st

  abbrev x : ℕ
  x = missing_in st t

  limits : Bounds N st.stripes st.block st.records
  limits = bounds sure.right

  some_unit : 1 < N
  some_unit = omega (arith, limits.cards_low)

  placing : Placing N (card_of_position st) (position_of_card st)
  placing = placed_in st (omega (arith, limits.cards_low))

  -- the missing position is the card's
  x_is : x ≡ position_of_card st t c
  x_is = rw (← missing.is_out) (missing_is st t c missing.is_card)

  x_below : x < N
  x_below = rw x_is (placing.position_below t c missing.is_card)

  on_card : card_of_position st t x ≡ c
  on_card = out_card st placing t x x_below (out_in st t) refl ∙ sym missing.is_out

  size : length (rest_of st w.image c t) ≡ st.block
  size = rest_size st w.image some_unit placing sure.right.image_right c t

  -- byte b of the stripe's positions as they were, and as they are
  module _ (b : ℕ) (hb : b < st.block) where
    abbrev cells : ℕ → ℕ
    cells = cells_of st w.image t b

    sum_is : xor_to N (others x cells) ≡ sum_to bytes (suc n) (other_ones bytes x cells)
    unfolding other_ones
    sum_is =
        ap (λ (k : ℕ). xor_to k (others x cells)) (let e : N ≡ suc n = omega (arith, some_unit) in e) ∙ sym (sum_xor (suc n) (others x cells))

    here : cells_of st (filled w c t) t b x ≡ sum_to bytes (suc n) (other_ones bytes x cells)
    here =
        rw on_card
        (cell_put_same N st.stripes st.block w.image sure.right.image_right c t missing.is_card ht (rest_of st w.image c t) size b hb)
        ∙ ap (λ (d : ℕ). get_or (rest_of st w.image d t) b 0) (sym on_card)
        ∙ rest_byte st w.image some_unit placing sure.right.image_right t x b x_below hb
        ∙ sum_is

    there : (p : ℕ) → p ≤ n → ¬ (p ≡ x) → cells_of st (filled w c t) t b p ≡ cells p
    there p l d =
        cell_put_other N st.stripes st.block w.image sure.right.image_right c t missing.is_card ht (rest_of st w.image c t) size
        (card_of_position st t p) t b ht hb
        (λ e f. d (out_position st placing t p (omega (arith, some_unit)) (out_in st t) (sym e ∙ missing.is_out)))

    filled_cells : (p : ℕ) → p ≤ n → cells_of st (filled w c t) t b p ≡ changed cells x (sum_to bytes (suc n) (other_ones bytes x cells)) p
    unfolding changed
    filled_cells p l = go (eqb p x) refl
      where
        go : (u : Bool) → eqb p x ≡ u → cells_of st (filled w c t) t b p ≡ cond u (sum_to bytes (suc n) (other_ones bytes x cells)) (cells p)
        go true e = ap (cells_of st (filled w c t) t b) (eqb-true p x e) ∙ here
        go false e = there p l (eqb-false p x e)

  -- the stripe holds the row, whichever position counts as missing
  rests : held w.table t ≡ false → (y b : ℕ) → b < st.block → Idle bytes n y (row_of st a.row t b) (cells_of st (filled w c t) t b)
  rests idle y b hb =
      (heart bytes n).decayed_idle y _ _ (cells_of st (filled w c t) t b) (λ p l d. filled_cells b hb p l)
      ((heart bytes n).put_right x y _ _ (omega (arith, x_below)) (sure.resting t ht idle b hb))

  -- the state st' afterwards: of the same geometry; and in every other stripe the missing card stays or was none
  module _ (st' : State) (same : geometry_of st' ≡ geometry_of st) (within : beyond_state st' ≡ false) (whole : st'.lost ≡ 0)
      (idle : held w.table t ≡ false)
      (stays : (s : ℕ) → s < st.stripes → ¬ (s ≡ t) → (out_in st' s ≡ out_in st s) ⊎ (out_in st s ≡ none))
    where
      rests_now : Resting st' (filled w c t) a.row t
      unfolding row_of
      rests_now =
          subst
          (λ (g : Geometry). (b : ℕ) → b < g.block
          → Idle bytes (units_of (state_of g none 0 no_fill)) (missing_in st' t) (row_of (state_of g none 0 no_fill) a.row t b) (cells_of (state_of g none 0 no_fill) (filled w c t) t b))
          (sym same) (rests idle (missing_in st' t))

      each : (s : ℕ) → s < st.stripes → GoesOn w a st' (filled w c t) s ⊎ RestsAnew w a st' (filled w c t) s
      each s hs = go (ℕ_discrete s t)
        where
          go : Dec (s ≡ t) → GoesOn w a st' (filled w c t) s ⊎ RestsAnew w a st' (filled w c t) s
          go (yes e) = inr (rw e (record { idle = idle; rests = rests_now }))
          go (no d) =
              inl (record {
                stays = stays s hs d;
                same_cells = λ b p hb l m.
                    same_cells st st' same (filled w c t) s b p
                    ∙ cell_put_other N st.stripes st.block w.image sure.right.image_right c t missing.is_card ht (rest_of st w.image c t) size
                    (card_of_position st s p) s b hs hb (λ e f. d (sym f));
              })

      pub put_right_sure : (book : State)
          → Sure (record { state = st'; table = w.table; work = w.work; image = filled w c t }) (record { state = book; row = a.row; entry = a.entry })
      put_right_sure =
          carried_sure w a sure st' (filled w c t)
          (record {
            same_geometry = same;
            same_length =
                cell_put_length N st.stripes st.block w.image sure.right.image_right c t missing.is_card ht (rest_of st w.image c t) size;
            within = within;
            whole = whole;
            each = each;
          })
