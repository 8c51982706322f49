-- A function's parameters, as its own walk meets them: what is had of each at exit, and its one machine value.
--     Param s k        of a parameter at the slot s.
--         by_value     plain data, which stays as it was
--         shared, shared_ref       a `&[T]` and a `&T` at the lifetime numbered j
--         kept, kept_ref           a `&mut [T]` and a `&mut T` that the function still has at exit
--         given, given_ref         the same, passed on to a callee for good
--     Params           of all of them.        stays, spells, tells_all, go_all, lawful_all     each law for all
-- Assumes nothing; the laws under a model take `Logic`.
use mathlib.Core.Path.{◌≡◌, refl, sym, subst}
use Prim.Native.Nat.{ℕ}
use mathlib.Core.List.{List, [], ◌∷◌}
use lib.ListN.{length}
use seplogic.Ra.Ura.{Ura}
use mir.Val.{Val, vptr}
use base.Fml.{ftrue}
use types.Logic.{Logic}
use contract.Lifetimes.{Lfts}
use denote.Exit.{Kept, yes, Exit, Last, left}
use denote.Laws.{Is, Ises, Tells, Spells, Tellss, Lawful, Lawfuls}
use denote.RattleType.{RattleType}
use denote.Ref.{mut_Tells, mut_Lawful, shr_Tells, shr_Lawful}
use denote.Signature.{Slot, AllWithin, name_of, meet_at, plain, mut_ref_to, mut_slice_of, shr_ref_to, shr_slice_of, types_at}
use denote.Slice.{slice_val, mut_slice_Tells, mut_slice_Lawful, shr_slice_Tells, shr_slice_Lawful}
use denote.Triple.End.{Kepts}
use denote.Triple.Walked.{Stay, Stays, Goes, AllGo, stay_none, stay_none_ref, stay_none_slice, stay_ref, stay_slice, gave_ref, gave_slice, Goes-none, Goes-none_ref, Goes-none_slice, Goes-ref, Goes-slice, Goes-gave_ref, Goes-gave_slice}
use Rattle.walk.proofs.Data.{Data}

module _ {n : ℕ} where
  pub record Param (s : Slot n) (k : Kept) : Type 2 where
    pub stay : Stay s k
    pub goes : {M : Type 1} {𝓤 : Ura M} (𝓛 : Logic 𝓤) → Goes 𝓛 n s k stay
    pub val : (κs : Lfts n) → (s.row κs).Denot → Val
    pub tells : (κs : Lfts n) → Tells (s.row κs) (Is (s.row κs)) (λ x. val κs x ∷ [])
    pub lawful : {M : Type 1} {𝓤 : Ura M} (𝓛 : Logic 𝓤) → (κs : Lfts n) → Lawful 𝓛 (s.row κs)

  abbrev pub by_value : {R : RattleType} → Data R → Param (plain (λ _. R)) yes
  by_value {R} d = record {
    stay = stay_none (λ _. R) yes;
    goes = λ 𝓛. Goes-none 𝓛 n (λ _. R) yes (λ κs. subst (λ (e : Exit R.Denot). (x : R.Denot) (f : Last e x) → left e x f ≡ ftrue) (sym d.still) (λ x f. refl));
    val = λ κs. d.val;
    tells = λ κs. d.tells;
    lawful = λ 𝓛 κs. d.lawful 𝓛;
  }

  module _ (j : ℕ) (ok : AllWithin n (j ∷ [])) (R : RattleType) where
    abbrev pub shared : Param (shr_slice_of (j ∷ []) ok (plain (λ _. R))) yes
    shared = record {
      stay = stay_none_slice (j ∷ []) ok (plain (λ _. R)) yes;
      goes = λ 𝓛. Goes-none_slice 𝓛 n (j ∷ []) ok (plain (λ _. R)) yes;
      val = λ κs x. slice_val x.ref_ptr (length x.now);
      tells = λ κs. shr_slice_Tells (name_of (j ∷ [])) (meet_at n (j ∷ []) ok κs) R;
      lawful = λ 𝓛 κs. shr_slice_Lawful 𝓛 (name_of (j ∷ [])) (meet_at n (j ∷ []) ok κs) R;
    }

    abbrev pub kept : Param (mut_slice_of (j ∷ []) ok (plain (λ _. R))) yes
    kept = record {
      stay = stay_slice (j ∷ []) ok (plain (λ _. R));
      goes = λ 𝓛. Goes-slice 𝓛 n j ok (plain (λ _. R));
      val = λ κs x. slice_val x.ref_ptr (length x.now);
      tells = λ κs. mut_slice_Tells (name_of (j ∷ [])) (meet_at n (j ∷ []) ok κs) R;
      lawful = λ 𝓛 κs. mut_slice_Lawful 𝓛 (name_of (j ∷ [])) (meet_at n (j ∷ []) ok κs) R;
    }

    abbrev pub given : Param (mut_slice_of (j ∷ []) ok (plain (λ _. R))) yes
    given = record {
      stay = gave_slice (j ∷ []) ok (plain (λ _. R));
      goes = λ 𝓛. Goes-gave_slice 𝓛 n j ok (plain (λ _. R));
      val = λ κs x. slice_val x.ref_ptr (length x.now);
      tells = λ κs. mut_slice_Tells (name_of (j ∷ [])) (meet_at n (j ∷ []) ok κs) R;
      lawful = λ 𝓛 κs. mut_slice_Lawful 𝓛 (name_of (j ∷ [])) (meet_at n (j ∷ []) ok κs) R;
    }

    abbrev pub shared_ref : Param (shr_ref_to (j ∷ []) ok (plain (λ _. R))) yes
    shared_ref = record {
      stay = stay_none_ref (j ∷ []) ok (plain (λ _. R)) yes;
      goes = λ 𝓛. Goes-none_ref 𝓛 n (j ∷ []) ok (plain (λ _. R)) yes;
      val = λ κs x. vptr x.ref_ptr.0 x.ref_ptr.1;
      tells = λ κs. shr_Tells (name_of (j ∷ [])) (meet_at n (j ∷ []) ok κs) R;
      lawful = λ 𝓛 κs. shr_Lawful 𝓛 (name_of (j ∷ [])) (meet_at n (j ∷ []) ok κs) R;
    }

    abbrev pub kept_ref : Param (mut_ref_to (j ∷ []) ok (plain (λ _. R))) yes
    kept_ref = record {
      stay = stay_ref (j ∷ []) ok (plain (λ _. R));
      goes = λ 𝓛. Goes-ref 𝓛 n j ok (plain (λ _. R));
      val = λ κs x. vptr x.ref_ptr.0 x.ref_ptr.1;
      tells = λ κs. mut_Tells (name_of (j ∷ [])) (meet_at n (j ∷ []) ok κs) R;
      lawful = λ 𝓛 κs. mut_Lawful 𝓛 (name_of (j ∷ [])) (meet_at n (j ∷ []) ok κs) R;
    }

    abbrev pub given_ref : Param (mut_ref_to (j ∷ []) ok (plain (λ _. R))) yes
    given_ref = record {
      stay = gave_ref (j ∷ []) ok (plain (λ _. R));
      goes = λ 𝓛. Goes-gave_ref 𝓛 n j ok (plain (λ _. R));
      val = λ κs x. vptr x.ref_ptr.0 x.ref_ptr.1;
      tells = λ κs. mut_Tells (name_of (j ∷ [])) (meet_at n (j ∷ []) ok κs) R;
      lawful = λ 𝓛 κs. mut_Lawful 𝓛 (name_of (j ∷ [])) (meet_at n (j ∷ []) ok κs) R;
    }

  -- all of them
  abbrev pub Params : (ss : List (Slot n)) → Kepts ss → Type 2
  Params [] ks = Unit {2}
  Params (s ∷ ss) ks = Param s ks.0 × Params ss ks.1

  abbrev pub stays : (ss : List (Slot n)) (ks : Kepts ss) → Params ss ks → Stays ss ks
  stays [] ks ps = tt
  stays (s ∷ ss) ks ps = (ps.0.stay, stays ss ks.1 ps.1)

  abbrev pub spells : (ss : List (Slot n)) (ks : Kepts ss) → Params ss ks → (κs : Lfts n) → Spells (types_at ss κs)
  spells [] ks ps κs = tt
  spells (s ∷ ss) ks ps κs = ((λ x. ps.0.val κs x ∷ []), spells ss ks.1 ps.1 κs)

  pub tells_all : (ss : List (Slot n)) (ks : Kepts ss) (ps : Params ss ks) (κs : Lfts n) → Tellss (types_at ss κs) (Ises (types_at ss κs)) (spells ss ks ps κs)
  tells_all [] ks ps κs = tt
  tells_all (s ∷ ss) ks ps κs = (ps.0.tells κs, tells_all ss ks.1 ps.1 κs)

  module _ {M : Type 1} {𝓤 : Ura M} (𝓛 : Logic 𝓤) where
    pub go_all : (ss : List (Slot n)) (ks : Kepts ss) (ps : Params ss ks) → AllGo 𝓛 n ss ks (stays ss ks ps)
    go_all [] ks ps = tt
    go_all (s ∷ ss) ks ps = (ps.0.goes 𝓛, go_all ss ks.1 ps.1)

    pub lawful_all : (ss : List (Slot n)) (ks : Kepts ss) → Params ss ks → (κs : Lfts n) → Lawfuls 𝓛 (types_at ss κs)
    lawful_all [] ks ps κs = tt
    lawful_all (s ∷ ss) ks ps κs = (ps.0.lawful 𝓛 κs, lawful_all ss ks.1 ps.1 κs)
