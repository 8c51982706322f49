-- The number of a reply that is accepted or refused by a number is that number.
-- Assumes nothing.
use Prim.Native.Nat.{ℕ}
use mathlib.Core.Bool.{Bool, true, false, cond}
use mathlib.Core.Path.{◌≡◌, refl, sym}
use borrow.Author.Tests.{eqb-true}
use lib.Dec.{eqb}
use Rattle.terms.specs.Reply.{Reply, refused, on_accept, refused_or13}

-- a refusal with no values
pub number_is : (number : ℕ) (good : Reply) → good.number ≡ 0 → (on_accept number good (refused number)).number ≡ number
number_is number good z = go (eqb number 0) refl
  where
    go : (t : Bool) → eqb number 0 ≡ t → (cond t good (refused number)).number ≡ number
    go true e = rw z (sym (eqb-true number 0 e))
    go false e = refl

-- a refusal where 13 also gives values
pub number_is_13 : (number : ℕ) (good wrong : Reply) → good.number ≡ 0 → wrong.number ≡ 13
    → (on_accept number good (refused_or13 number wrong)).number ≡ number
number_is_13 number good wrong z h = go (eqb number 0) refl (eqb number 13) refl
  where
    go : (t : Bool) → eqb number 0 ≡ t → (u : Bool) → eqb number 13 ≡ u → (cond t good (cond u wrong (refused number))).number ≡ number
    go true e u f = rw z (sym (eqb-true number 0 e))
    go false e true f = rw h (sym (eqb-true number 13 f))
    go false e false f = refl
