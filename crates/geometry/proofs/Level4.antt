-- Layout 4 is a placement: positions are cards.
-- Assumes nothing.
use Prim.Native.Nat.{ℕ}
use mathlib.Core.Path.{refl}
use Rattle.geometry.specs.Level4.{card_at4, position_of4}
use Rattle.geometry.specs.Placing.{Placing}

pub unrotated : (N : ℕ) → Placing N (λ s. card_at4) (λ s. position_of4)
unfolding card_at4 position_of4
unrotated N =
    record {
      card_below = λ s j h. h;
      position_below = λ s c h. h;
      position_card = λ s j h. refl;
      card_position = λ s c h. refl;
    }
