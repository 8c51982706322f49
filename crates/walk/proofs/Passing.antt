-- Slices that are passed on to a callee, as steps on the first entry of the context. It says nothing of the crate.
--     twice        a `&[T]` is Copy, where what a `&` to a T holds can be had twice (`RowLaws`): what it owns stands there twice, once for the callee and once for the exit
--     lasting      what a callee says of the last value of a `&mut [T]`, taken apart: the last value beside the borrow P that it hands back, which is what is had at exit of a parameter that was given on, and that it is as long as before
-- Assumes `Logic`.
use mathlib.Core.Path.{◌≡◌}
use Prim.Native.Nat.{ℕ}
use mathlib.Core.List.{List, [], ◌∷◌}
use lib.ListN.{length}
use seplogic.Ra.Ura.{Ura}
use mir.Syntax.{Lifetime}
use base.Fml.{Lft, GName, Fml, fsep, feq}
use types.Logic.{Logic}
use types.Kit.{Item, Goal, Seq, Step, step, ‵, ◌⊛◌, ◌$◌, move, use1, split, fsplit, fjoin, feq_l}
use denote.RattleType.{RattleType, RowLaws}
use denote.Ref.{Bor}
use denote.Slice.{ShrSlice, finally, shr_slice_vals, shr_slice_copy}

module _ {M : Type 1} {𝓤 : Ura M} {𝓛 : Logic 𝓤} {K : Type 0} {Γ : List (Item 𝓤)} {G : Goal 𝓤 𝓛.H} where
  pub twice : K → (R : RattleType) → RowLaws R → (ℓ : Lifetime) (κ : Lft) (x : Bor (List R.Denot))
      → Step K 𝓛 (‵ ((ShrSlice ℓ κ R).own_val x (shr_slice_vals x)) ∷ ‵ ((ShrSlice ℓ κ R).own_val x (shr_slice_vals x)) ∷ Γ) G (‵ ((ShrSlice ℓ κ R).own_val x (shr_slice_vals x)) ∷ Γ) G
  twice t R laws ℓ κ x = step (λ s. use1 𝓛 (‵ ((ShrSlice ℓ κ R).own_val x (shr_slice_vals x)) ⊛ ‵ ((ShrSlice ℓ κ R).own_val x (shr_slice_vals x))) ((shr_slice_copy 𝓛 ℓ κ R laws).twice x (shr_slice_vals x)) $ split t $ s)

  pub lasting : K → (R : RattleType) {γ : GName} {ws : List R.Denot} {n : ℕ} {P : Fml} → (length ws ≡ n → Seq K 𝓛 (‵ (fsep (finally R γ ws) P) ∷ Γ) G) → Seq K 𝓛 (‵ (fsep (fsep (finally R γ ws) (feq ℕ (length ws) n)) P) ∷ Γ) G
  lasting t R k = fsplit t $ fsplit t $ move t (1 ∷ []) $ feq_l t (λ e. fjoin t $ k e)
