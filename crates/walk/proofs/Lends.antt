-- A `&κ mut [T]` that is lent as a `&κ' [T]` for a lifetime κ' of one call, and comes back as it was. It says nothing of the crate.
--     Lent             what the holder keeps meanwhile: what it lent for κ', and its own borrow at κ, open, with both halves of its ghost variable
--     lends_shared     own (the `&κ mut [T]` ((b, o), γ, ys)) ∗ [κ]_q ∗ ts  ⊢ ⇛ (own (the `&κ' [T]` ((b, o), ys)) ∗ Lent ∗ ts)        the elements are shared out at once, by T's law (`Denote/Shares.antt`), with tokens ts within κ'
--     lend, unlend     the two as steps of a walk, with the lifetime made and ended. The new lifetime's token serves for ts, so T's law is asked at that lifetime: every T that can be copied has it (`Denote/Copied.antt`'s `shares`)
--     comes_back       [†κ'] ∗ Lent  ⊢ ⇛ (own (the `&κ mut [T]` ((b, o), γ, ys)) ∗ [κ]_q)
-- Assumes `Logic`.
use mathlib.Core.Path.{refl}
use Prim.Native.Nat.{ℕ}
use mathlib.Core.List.{List, [], ◌∷◌}
use lib.ListN.{length}
use seplogic.Ra.Ura.{Ura}
use base.Fraction.{full_share}
use mir.Syntax.{Lifetime}
use mir.Val.{Val}
use base.Logic.{ent, sep}
use base.Fml.{Lft, GName, Share, Fml, Incl, Incl-refl, fsep, flft, fdead, fobs, fauth, flent, fobor}
use ghost.Rules.{Toks, span}
use types.Logic.{Logic, sem, lfts}
use types.Kit.{Item, Goal, Soaks, Seq, Step, step, ‵, raw, ◌⊛◌, later, ◌$◌, ◌∵◌, !, qed, move, use2, use3, drop, split, split3, fsplit, fjoin, feq_i, frame, await, updating, now as at_once, done}
use types.Share.{arr_parts}
use types.Tokens.{lft_new, lft_end, lent_back}
use denote.RattleType.{RattleType}
use denote.Shadow.{pure_l, pure_i}
use denote.Memory.{shares, shared_of}
use denote.Shares.{SharesAsFrom}
use denote.Ref.{Bor, MutBor}
use denote.Slice.{slice_val, MutSlice, ShrSlice, heres, mut_slice_at, coded_holeys}
use denote.Lend.{Held, lends_shr_slice}
use denote.Index.{opens_slice, closes_slice}

module _ (R : RattleType) (b o : ℕ) (ys : List R.Denot) where
  abbrev named_as : GName → MutBor (List R.Denot)
  named_as δ = record { ref_ptr = (b, o); ghost_name = δ; now = ys }

  abbrev shown : Bor (List R.Denot)
  shown = record { ref_ptr = (b, o); now = ys }

  abbrev vals : List Val
  vals = slice_val (b, o) (length ys) ∷ []

module _ (R : RattleType) (κ κ' : Lft) (q : Share) (b o : ℕ) (γ : GName) (ys : List R.Denot) where
  -- the whole share of the elements
  abbrev All : Fml
  All = (arr_parts (shares R) (length ys)).part full_share ys b o

  abbrev pub Lent : Fml
  Lent = fsep (flent κ' All) (fsep (mut_slice_at R (named_as R b o ys γ) (vals R b o ys))
      (fsep (fobor κ q (Held R (length ys) b o γ)) (fsep (fobs γ ((coded_holeys R).code (heres R ys))) (fauth γ ((coded_holeys R).code (heres R ys))))))

  module _ {M : Type 1} {𝓤 : Ura M} (𝓛 : Logic 𝓤) (ℓ : Lifetime) where
    open 𝓛 use {H, A}

    pub lends_shared : (ℓ' : Lifetime) (l : Lft) → SharesAsFrom 𝓛 full_share R (shared_of R) l → (ts : Toks) → Incl (span ts) l → Incl (span ts) κ'
        → ent 𝓤 (sep 𝓤 (sem 𝓛 ((MutSlice ℓ κ R).own_val (named_as R b o ys γ) (vals R b o ys))) (sep 𝓤 (A.lft κ q) (lfts 𝓛 ts)))
        (H.⇛ (sep 𝓤 (sem 𝓛 ((ShrSlice ℓ' κ' R).own_val (shown R b o ys) (vals R b o ys))) (sep 𝓤 (sem 𝓛 Lent) (lfts 𝓛 ts))))
    lends_shared ℓ' l s ts inc sp =
        qed 𝓛 (‵ ((MutSlice ℓ κ R).own_val (named_as R b o ys γ) (vals R b o ys)) ∷ ‵ (flft κ q) ∷ raw (lfts 𝓛 ts) ∷ []) ∵ updating ! $ fsplit ! $ pure_l ! (mut_slice_at R (named_as R b o ys γ) (vals R b o ys)) (λ p. fsplit ! $ opens_slice ! tt R ys b o $
        -- [all elements; the open borrow at κ; obs; auth; the tokens]
        feq_i ! ℕ (length ys) (length ys) refl $ fjoin ! $ move ! (0 ∷ 4 ∷ []) $
        use2 𝓛 (later ((‵ ((ShrSlice ℓ' κ' R).own_val (shown R b o ys) (vals R b o ys)) ⊛ ‵ (flent κ' All)) ⊛ raw (lfts 𝓛 ts))) (lends_shr_slice 𝓛 R ℓ' κ' full_share ys b o p.1 l s ts inc sp) $ await ! tt $ split ! $ split ! $
        -- [the new slice; what is lent for κ'; the tokens; the open borrow at κ; obs; auth]
        at_once ! $ frame ! $
        move ! (3 ∷ 4 ∷ []) $ fjoin ! $ move ! (3 ∷ 0 ∷ []) $ fjoin ! $ pure_i ! (mut_slice_at R (named_as R b o ys γ) (vals R b o ys)) (tt, (tt, tt)) p $ fjoin ! $ move ! (1 ∷ 0 ∷ []) $ fjoin ! $ done !)

    pub comes_back : ent 𝓤 (sep 𝓤 (A.dead κ') (sem 𝓛 Lent)) (H.⇛ (sep 𝓤 (sem 𝓛 ((MutSlice ℓ κ R).own_val (named_as R b o ys γ) (vals R b o ys))) (A.lft κ q)))
    comes_back =
        qed 𝓛 (‵ (fdead κ') ∷ ‵ Lent ∷ []) ∵ updating ! $ move ! (1 ∷ []) $ fsplit ! $ move ! (2 ∷ 0 ∷ []) $ lent_back ! tt $ fsplit ! $ drop ! $
        move ! (1 ∷ []) $ fsplit ! $ pure_l ! (mut_slice_at R (named_as R b o ys γ) (vals R b o ys)) (λ p. fsplit ! $ move ! (1 ∷ []) $ fsplit ! $ move ! (3 ∷ 2 ∷ 0 ∷ 1 ∷ []) $
        closes_slice ! tt R ys ys refl b o $ at_once ! $ fjoin ! $ pure_i ! (mut_slice_at R (named_as R b o ys γ) (vals R b o ys)) (tt, (tt, tt)) p $ fjoin ! $ done !)

-- the same as steps of a walk: before a call, and once it has returned
module _ {M : Type 1} {𝓤 : Ura M} {𝓛 : Logic 𝓤} {K : Type 0} {Γ : List (Item 𝓤)} {G : Goal 𝓤 𝓛.H} (R : RattleType) (κ : Lft) (q : Share) (b o : ℕ) (γ : GName) (ys : List R.Denot) (ℓ ℓ' : Lifetime) where
  pub lend : K → Soaks G → ((α : ℕ) → SharesAsFrom 𝓛 full_share R (shared_of R) (α ∷ []))
      → ((α : ℕ) → Seq K 𝓛 (‵ (flft (α ∷ []) full_share) ∷ ‵ ((ShrSlice ℓ' (α ∷ []) R).own_val (shown R b o ys) (vals R b o ys)) ∷ ‵ (Lent R κ (α ∷ []) q b o γ ys) ∷ Γ) G)
      → Seq K 𝓛 (‵ (flft κ q) ∷ ‵ ((MutSlice ℓ κ R).own_val (named_as R b o ys γ) (vals R b o ys)) ∷ Γ) G
  lend t z s k = lft_new t z (λ α. move t (2 ∷ 1 ∷ 0 ∷ []) $
      use3 𝓛 (later (‵ ((ShrSlice ℓ' (α ∷ []) R).own_val (shown R b o ys) (vals R b o ys)) ⊛ (‵ (Lent R κ (α ∷ []) q b o γ ys) ⊛ ‵ (flft (α ∷ []) full_share))))
      (lends_shared R κ (α ∷ []) q b o γ ys 𝓛 ℓ ℓ' (α ∷ []) (s α) ((α ∷ [], full_share) ∷ []) (Incl-refl (α ∷ [])) (Incl-refl (α ∷ []))) $ await t z $
      split3 t $ move t (2 ∷ 0 ∷ []) $ k α)

  pub unlend : K → Soaks G → (α : ℕ)
      → Step K 𝓛 (‵ (flft κ q) ∷ ‵ ((MutSlice ℓ κ R).own_val (named_as R b o ys γ) (vals R b o ys)) ∷ Γ) G (‵ (flft (α ∷ []) full_share) ∷ ‵ (Lent R κ (α ∷ []) q b o γ ys) ∷ Γ) G
  unlend t z α = step (λ s. lft_end t z $
      use2 𝓛 (later (‵ ((MutSlice ℓ κ R).own_val (named_as R b o ys γ) (vals R b o ys)) ⊛ ‵ (flft κ q))) (comes_back R κ (α ∷ []) q b o γ ys 𝓛 ℓ) $ await t z $ split t $ move t (1 ∷ 0 ∷ []) $ s)
