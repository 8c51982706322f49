-- A slice reference that is a local's value, in a walk: a struct of its pointer and its count, which stands at entry n of the context. It says nothing of the crate.
--     pointer, counted     its pointer, and its count
--     reborrows            it is borrowed again: its pointer goes to one local, and the pointer with the count to another
-- Assumes `Logic`.
use mathlib.Core.Path.{◌≡◌, refl, sym, subst}
use Prim.Native.Nat.{ℕ, zero}
use mathlib.Core.List.{List, [], ◌∷◌}
use seplogic.Ra.Ura.{Ura}
use base.Fraction.{full_share}
use lib.Dec.{T}
use mir.Syntax.{Lifetime, Mutability, w64, Ty, ty_int, ty_ref, deref, field, place, copy, aggregate, addr_of, Body, seq, assign}
use mir.Val.{Val, vint, vptr, vstruct, vnil, vcons, WT, has_ty}
use base.Fml.{Share, fat, froom}
use prog.Wp.{Heap, Env, Spot, spot_of, Calls, Loops}
use types.Logic.{Logic}
use types.Kit.{Item, ‵, nth, put, Post, runs, Step, step, ◌$◌}
use types.Run.{Reads, Walks, Opd, stop, fld, hop, from, load, addr, and_then, no_more}
use types.Part.{Part, agg, whole, sub, look_in}
use denote.Slice.{slice_ty, slice_val}
use Rattle.walk.proofs.Lines.{local, sets}

-- what a local holds: nothing, or a value
module _ {M : Type 1} {𝓤 : Ura M} (H : Heap 𝓤) (E : Env 𝓤 H) (i : ℕ) where
  abbrev Empty : Item 𝓤
  Empty = ‵ (froom (spot_of 𝓤 H E i).0 (spot_of 𝓤 H E i).1 (spot_of 𝓤 H E i).2)

  abbrev Full : Val → Item 𝓤
  Full v = ‵ (fat full_share (spot_of 𝓤 H E i).0 (spot_of 𝓤 H E i).1 (spot_of 𝓤 H E i).2 v)

module _ {M : Type 1} {𝓤 : Ura M} {𝓛 : Logic 𝓤} {K : Type 0} {Γ : List (Item 𝓤)} {ℓ : Lifetime} {μ : Mutability} {υ : Ty} {q : Share} {l b o m : ℕ} where
  pointer_in : K → (n : ℕ) → nth 𝓛 n Γ ≡ ‵ (fat q (slice_ty (ty_ref ℓ μ υ)) l zero (slice_val (b, o) m)) → Reads K 𝓛 Γ (ty_ref ℓ μ υ) l 0 (vptr b o)
  pointer_in t n e = look_in t n (subst (λ (j : Item 𝓤). Part K 𝓛 j q (ty_ref ℓ μ υ) l 0 (vptr b o) (λ u. ‵ (fat q (slice_ty (ty_ref ℓ μ υ)) l zero (vstruct (vcons u (vcons (vint w64 m) vnil)))))) (sym e) (sub t 0 refl (whole t)))

  count_in : K → (n : ℕ) → nth 𝓛 n Γ ≡ ‵ (fat q (slice_ty (ty_ref ℓ μ υ)) l zero (slice_val (b, o) m)) → Reads K 𝓛 Γ (ty_int w64) l 8 (vint w64 m)
  count_in t n e = look_in t n (subst (λ (j : Item 𝓤). Part K 𝓛 j q (ty_int w64) l 8 (vint w64 m) (λ u. ‵ (fat q (slice_ty (ty_ref ℓ μ υ)) l zero (vstruct (vcons (vptr b o) (vcons u vnil)))))) (sym e) (sub t 1 refl (whole t)))

module _ {M : Type 1} {𝓤 : Ura M} {𝓛 : Logic 𝓤} {K : Type 0} {E : Env 𝓤 𝓛.H} {Γ : List (Item 𝓤)} {i : ℕ} {ℓ : Lifetime} {μ : Mutability} {υ : Ty} {q : Share} {l b o m : ℕ} where
  open 𝓛 use {H}

  pub pointer : K → (n : ℕ) → spot_of 𝓤 H E i ≡ (slice_ty (ty_ref ℓ μ υ), l, zero) → nth 𝓛 n Γ ≡ ‵ (fat q (slice_ty (ty_ref ℓ μ υ)) l zero (slice_val (b, o) m)) → Opd K 𝓛 Γ E (copy (place i (field 0 ∷ []))) (vptr b o)
  pointer t n at e = load t (from t (subst (λ (s : Spot 𝓤 H). Walks K 𝓛 Γ E s (field 0 ∷ []) (ty_ref ℓ μ υ, l, 0)) (sym at) (fld t refl (stop t)))) (pointer_in t n e)

  pub counted : K → (n : ℕ) → spot_of 𝓤 H E i ≡ (slice_ty (ty_ref ℓ μ υ), l, zero) → nth 𝓛 n Γ ≡ ‵ (fat q (slice_ty (ty_ref ℓ μ υ)) l zero (slice_val (b, o) m)) → Opd K 𝓛 Γ E (copy (place i (field 1 ∷ []))) (vint w64 m)
  counted t n at e = load t (from t (subst (λ (s : Spot 𝓤 H). Walks K 𝓛 Γ E s (field 1 ∷ []) (ty_int w64, l, 8)) (sym at) (fld t refl (stop t)))) (count_in t n e)

module _ {M : Type 1} {𝓤 : Ura M} {𝓛 : Logic 𝓤} {K : Type 0} {E : Env 𝓤 𝓛.H} {Γ : List (Item 𝓤)} {i : ℕ} {ℓ : Lifetime} {μ : Mutability} {υ : Ty} {q : Share} {l b o m : ℕ} {C : Calls 𝓤 𝓛.H} {Λ : Loops 𝓤 𝓛.H} {z : Post 𝓤 𝓛.H} where
  open 𝓛 use {H}

  pub reborrows : K → {p s : ℕ} {τ : Ty} {rest : Body} (n np ns : ℕ) → spot_of 𝓤 H E i ≡ (slice_ty (ty_ref ℓ μ υ), l, zero) → nth 𝓛 n Γ ≡ ‵ (fat q (slice_ty (ty_ref ℓ μ υ)) l zero (slice_val (b, o) m))
      → nth 𝓛 np Γ ≡ Empty H E p → T (has_ty (spot_of 𝓤 H E p).0 (vptr b o))
      → nth 𝓛 n (put 𝓛 np (Full H E p (vptr b o)) Γ) ≡ ‵ (fat q (slice_ty (ty_ref ℓ μ υ)) l zero (slice_val (b, o) m)) → nth 𝓛 np (put 𝓛 np (Full H E p (vptr b o)) Γ) ≡ Full H E p (vptr b o)
      → nth 𝓛 ns (put 𝓛 np (Full H E p (vptr b o)) Γ) ≡ Empty H E s → T (has_ty (spot_of 𝓤 H E s).0 (slice_val (b, o) m)) × WT (slice_val (b, o) m)
      → Step K 𝓛 (put 𝓛 ns (Full H E s (slice_val (b, o) m)) (put 𝓛 np (Full H E p (vptr b o)) Γ)) (runs C Λ E rest z)
      Γ (runs C Λ E (seq (assign (place p []) (addr_of (place i (field 0 ∷ deref τ ∷ [])))) (seq (assign (place s []) (aggregate (copy (place p []) ∷ copy (place i (field 1 ∷ [])) ∷ []))) rest)) z)
  reborrows t {p} {s} {τ} n np ns at e ep tp e' ep' es ts = step (λ k.
      sets t (addr t (from t (subst (λ (x : Spot 𝓤 H). Walks K 𝓛 Γ E x (field 0 ∷ deref τ ∷ []) (τ, b, o)) (sym at) (fld t refl (hop t (pointer_in t n e) (stop t)))))) np ep (tp, tt) $
      sets t (agg t (and_then t (local t np ep') (and_then t (counted t n at e') (no_more t)))) ns es ts $ k)
