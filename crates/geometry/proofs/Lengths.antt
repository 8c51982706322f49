-- Refusal 2 of the image and of the work store, by the code's test on the length: `image.len() != state.image_size()`.
-- Assumes nothing.
use Prim.Native.Nat.{ℕ}
use mathlib.Core.Bool.{false}
use mathlib.Core.List.{List}
use mathlib.Core.Path.{◌≡◌}
use lib.ListN.{length}
use native.Mathlib.Omega.{arith}
use Rattle.std.proofs.lemmas.Bool.Decides.{nat_tests}
use Rattle.geometry.specs.Store.{image_size, work_size, image_wrong, work_wrong}
use Rattle.geometry.specs.declared.State.{State}

module _ (st : State) where
  module _ (l : List ℕ) where
    -- what refusal 2 leaves
    pub image_length : image_wrong st l ≡ false → length l ≡ image_size st.cards st.stripes st.block
    unfolding image_wrong
    image_length e = grind (arith, nat_tests)

    pub work_length : work_wrong st l ≡ false → length l ≡ work_size st.cards st.block st.records
    unfolding work_wrong
    work_length e = grind (arith, nat_tests)
