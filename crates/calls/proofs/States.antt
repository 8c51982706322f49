-- A state that is lent, as a C program lends it, in a walk by hand: as a `&State` it is copied out to a local, and what the reference owns stays; as a `&mut State` another is stored there.
--     copies_out   the line that copies it: the context begins with the token and what the reference owns, and has both again; the state's relation is then in hand
--     copies_held  the same of a `&mut State`
--     stores       the line that stores a state: the context begins with the token and what the reference owns, and has both again, at the new state
-- Assumes `Logic`.
use Rattle.walk.proofs.Words.{◌≡◌, refl, subst, ℕ, suc, List, [], ◌∷◌, Ura, full_share, Lifetime, deref, place, copy, rv_opd, RValue, Body, seq, assign, Val, vptr, Lft, GName, Share, Fml, fat, froom, flft, Env, spot_of, Calls, Loops, Item, ‵, nth, put, Post, runs, Seq, Step, step, ◌$◌, move, drop, fsplit, fsplit3, fjoin, fjoin3, feq_i}
use Rattle.walk.proofs.Words.{Rv, look, look_raw, store_raw, init, stop, hop, from, load, of_opd, assigns, Is, shows}
use prog.Wp.{Spot}
use types.Logic.{Logic}
use types.Run.{Finds}
use denote.Ref.{MutRef, ShrRef}
use denote.Steps.{opens, closes, owned, looks, shuts, peeks}
use denote.Struct.Steps.{spelt}
use denote.Struct.Laws as LL
use Rattle.geometry.specs.declared.State.{State}
use Rattle.geometry.specs.contracts.State as S
use Rattle.geometry.proofs.State.TheLaws as SL
use Rattle.table.proofs.Records.{array_state}

abbrev vals : State → List Val
vals st = array_state.val st ∷ []

-- a whole local, where it lies
found : {M : Type 1} {𝓤 : Ura M} {𝓛 : Logic 𝓤} {K : Type 0} {E : Env 𝓤 𝓛.H} {Γ : List (Item 𝓤)} {d : ℕ} {s : Spot 𝓤 𝓛.H} → K → spot_of 𝓤 𝓛.H E d ≡ s → Finds K 𝓛 Γ E (place d []) s
found {𝓤 = 𝓤} {𝓛 = 𝓛} {K = K} {E = E} {Γ = Γ} {d = d} t at = subst (λ (s : Spot 𝓤 𝓛.H). Finds K 𝓛 Γ E (place d []) s) at (from t (stop t))

module _ (ℓ : Lifetime) (κ : Lft) (q : Share) (b o : ℕ) (st : State) where
  abbrev Own : Fml
  Own = (ShrRef ℓ κ S.the_row).own_val (record { ref_ptr = (b, o); now = st }) (vptr b o ∷ [])

  module _ {M : Type 1} {𝓤 : Ura M} {𝓛 : Logic 𝓤} {K : Type 0} {E : Env 𝓤 𝓛.H} {C : Calls 𝓤 𝓛.H} {Λ : Loops 𝓤 𝓛.H} {z : Post 𝓤 𝓛.H} {rest : Body} {Γ : List (Item 𝓤)} where
    open 𝓛 use {H}

    pub copies_out : K → {i d l : ℕ} {q₁ : Share} (n m : ℕ) → nth 𝓛 n Γ ≡ ‵ (fat q₁ (spot_of 𝓤 H E i).0 (spot_of 𝓤 H E i).1 (spot_of 𝓤 H E i).2 (vptr b o)) → nth 𝓛 m Γ ≡ ‵ (froom SL.mir l 0) → spot_of 𝓤 H E d ≡ (SL.mir, l, 0)
        → (Is S.the_row st (vals st) → Seq K 𝓛 (‵ (flft κ q) ∷ ‵ Own ∷ put 𝓛 m (‵ (fat full_share SL.mir l 0 (array_state.val st))) Γ) (runs C Λ E rest z))
        → Seq K 𝓛 (‵ (flft κ q) ∷ ‵ Own ∷ Γ) (runs C Λ E (seq (assign (place d []) (rv_opd (copy (place i (deref SL.mir ∷ []))))) rest) z)
    copies_out t {i} {d} {l} n m e room at k =
        move t (1 ∷ []) $ fsplit t $ drop t $
        looks t tt S.the_row (LL.copied S.the_type SL.the_copy 𝓛).opens st b o (λ q' vs.
        spelt t S.the_row (Is S.the_row) (shows 𝓛 S.the_row) vals array_state.tells q' st vs b o $
        move t (1 ∷ []) $ peeks t S.the_row (Is S.the_row) (shows 𝓛 S.the_row) st (vals st) (λ is. move t (1 ∷ 0 ∷ []) $
        -- [a share of the state's cell; what it owns; what shuts it; what the reference holds of the state; …]
        assigns t (of_opd t (load t (from t (hop t (look t (suc (suc (suc (suc n)))) e) (stop t))) (look_raw t 0 {v = array_state.val st} refl))) (found t at)
        (init t (suc (suc (suc (suc m)))) room ((array_state.lawful 𝓛).typed st _ is).0) $
        shuts t tt S.the_row q' st (vals st) b o $ move t (1 ∷ []) $
        -- [what the reference holds of the state; the token; …]
        feq_i t (List Val) (vptr b o ∷ []) (vptr b o ∷ []) refl $ fjoin t $ move t (1 ∷ []) $ k is))

module _ (ℓ : Lifetime) (κ : Lft) (q : Share) (b o : ℕ) (γ : GName) where
  abbrev Lent : State → Fml
  Lent st = (MutRef ℓ κ S.the_row).own_val (record { ref_ptr = (b, o); ghost_name = γ; now = st }) (vptr b o ∷ [])

  module _ {M : Type 1} {𝓤 : Ura M} {𝓛 : Logic 𝓤} {K : Type 0} {E : Env 𝓤 𝓛.H} {C : Calls 𝓤 𝓛.H} {Λ : Loops 𝓤 𝓛.H} {z : Post 𝓤 𝓛.H} {rest : Body} {Γ : List (Item 𝓤)} where
    open 𝓛 use {H}

    pub copies_held : K → {i d l : ℕ} {q₁ : Share} (st : State) (n m : ℕ) → nth 𝓛 n Γ ≡ ‵ (fat q₁ (spot_of 𝓤 H E i).0 (spot_of 𝓤 H E i).1 (spot_of 𝓤 H E i).2 (vptr b o)) → nth 𝓛 m Γ ≡ ‵ (froom SL.mir l 0) → spot_of 𝓤 H E d ≡ (SL.mir, l, 0)
        → (Is S.the_row st (vals st) → Seq K 𝓛 (‵ (flft κ q) ∷ ‵ (Lent st) ∷ put 𝓛 m (‵ (fat full_share SL.mir l 0 (array_state.val st))) Γ) (runs C Λ E rest z))
        → Seq K 𝓛 (‵ (flft κ q) ∷ ‵ (Lent st) ∷ Γ) (runs C Λ E (seq (assign (place d []) (rv_opd (copy (place i (deref SL.mir ∷ []))))) rest) z)
    copies_held t {i} {d} {l} st n m e room at k =
        move t (1 ∷ []) $ fsplit3 t $ drop t $ opens t tt S.the_row {h = st} b o (λ vs. spelt t S.the_row (Is S.the_row) (shows 𝓛 S.the_row) vals array_state.tells full_share st vs b o $
        move t (1 ∷ []) $ peeks t S.the_row (Is S.the_row) (shows 𝓛 S.the_row) st (vals st) (λ is. move t (1 ∷ 0 ∷ []) $
        -- [the state's cell; what it owns; the open borrow; obs; auth; …]
        assigns t (of_opd t (load t (from t (hop t (look t (suc (suc (suc (suc (suc n))))) e) (stop t))) (look_raw t 0 {v = array_state.val st} refl))) (found t at)
        (init t (suc (suc (suc (suc (suc m))))) room ((array_state.lawful 𝓛).typed st _ is).0) $
        closes t tt S.the_row st (vals st) b o $
        -- [obs; the borrow; the token; …]
        feq_i t (List Val) (vptr b o ∷ []) (vptr b o ∷ []) refl $ fjoin3 t $ move t (1 ∷ 0 ∷ []) $ k is))

  module _ {M : Type 1} {𝓤 : Ura M} {𝓛 : Logic 𝓤} {K : Type 0} {E : Env 𝓤 𝓛.H} {C : Calls 𝓤 𝓛.H} {Λ : Loops 𝓤 𝓛.H} {z : Post 𝓤 𝓛.H} {rv : RValue} {rest : Body} {Γ : List (Item 𝓤)} where
    open 𝓛 use {H}

    pub stores : K → {i : ℕ} {q₁ : Share} (st new : State) → Is S.the_row new (vals new) → (n : ℕ) → nth 𝓛 n Γ ≡ ‵ (fat q₁ (spot_of 𝓤 H E i).0 (spot_of 𝓤 H E i).1 (spot_of 𝓤 H E i).2 (vptr b o))
        → ((c d e f g : Item 𝓤) → Rv K 𝓛 (c ∷ d ∷ e ∷ f ∷ g ∷ Γ) E rv (array_state.val new))
        → Step K 𝓛 (‵ (flft κ q) ∷ ‵ (Lent new) ∷ Γ) (runs C Λ E rest z) (‵ (flft κ q) ∷ ‵ (Lent st) ∷ Γ) (runs C Λ E (seq (assign (place i (deref SL.mir ∷ [])) rv) rest) z)
    stores t st new is n e val = step (λ s.
        move t (1 ∷ []) $ fsplit3 t $ drop t $ opens t tt S.the_row {h = st} b o (λ vs. spelt t S.the_row (Is S.the_row) (shows 𝓛 S.the_row) vals array_state.tells full_share st vs b o $
        -- [the state's cell; what it owns; the open borrow; obs; auth; …]
        assigns t (val _ _ _ _ _) (from t (hop t (look t (suc (suc (suc (suc (suc n))))) e) (stop t))) (store_raw t 0 refl ((array_state.lawful 𝓛).typed new _ is).0) $
        move t (1 ∷ []) $ drop t $ owned t S.the_row (Is S.the_row) (array_state.makes 𝓛) new _ is $ move t (1 ∷ 0 ∷ []) $ closes t tt S.the_row new (array_state.val new ∷ []) b o $
        -- [obs; the borrow; the token; …]
        feq_i t (List Val) (vptr b o ∷ []) (vptr b o ∷ []) refl $ fjoin3 t $ move t (1 ∷ 0 ∷ []) $ s))
