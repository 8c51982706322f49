-- A function's locals, all at once: at entry they are allocated, in their order, and at exit they are freed. It says nothing of the crate.
--     enters       the walk of a function begins: local i stands at 2 · i of the context, and what frees it stands behind it; the parameters' values are in the locals after the first, and the others are room
--     Begins τs ls     the locals ls have types τs from the second on: a `refl` at a function that is written out
--     holding      the same entries where each local holds nothing or a value: what a loop's invariant is written with
--     Frees        what the context has of the locals at exit, local by local: `full`, something lies there, or `room`, nothing does
--     leaves       the locals are freed, and the rest of the context is left
--     aside        the first n entries of the context go behind the others
-- Assumes `Logic`.
use mathlib.Core.Path.{◌≡◌, refl, subst}
use Prim.Native.Nat.{ℕ, zero, suc}
use mathlib.Core.List.{List, [], ◌∷◌, ◌++◌}
use mathlib.Core.Option.{Option, none, some}
use seplogic.Ra.Ura.{Ura}
use base.Fraction.{full_share}
use mir.Syntax.{Ty, Fn, Local, local}
use mir.Val.{Val}
use base.Logic.{SProp, ent, sep, id⊢, via, comm∗, assoc∗, assoc', mono_l, mono_r}
use base.Fml.{fat, froom, fdies}
use prog.Wp.{Heap, Env, Calls, Loops, WpFn}
use types.Logic.{Logic}
use types.Kit.{Item, ‵, mean, ⋆, push, pop, ++⊢, Goal, prop, runs, at_ret, allocs, params', passes, frees, Seq, Step, step, ◌$◌, by}
use types.Run.{forget, enter, alloc1, alloc0, params1, pass1, pass0, init, free1, free0}
use denote.Laws.{Typed}

-- an address for each local
abbrev pub Spots : List Local → Type 0
Spots [] = Unit {0}
Spots (l ∷ ls) = ℕ × Spots ls

module _ {M : Type 1} {𝓤 : Ura M} (𝓛 : Logic 𝓤) where
  open 𝓛 use {H}

  abbrev pub env_at : (ls : List Local) → Spots ls → Env 𝓤 H
  env_at [] bs = []
  env_at (local τ h ∷ ls) bs = (τ, bs.0) ∷ env_at ls bs.1

  abbrev pub rooms : (ls : List Local) → Spots ls → List (Item 𝓤)
  rooms [] bs = []
  rooms (local τ h ∷ ls) bs = ‵ (froom τ bs.0 zero) ∷ ‵ (fdies τ bs.0) ∷ rooms ls bs.1

  -- what the locals hold: nothing, or a value
  abbrev pub held : Ty → ℕ → Option Val → Item 𝓤
  held τ b none = ‵ (froom τ b zero)
  held τ b (some v) = ‵ (fat full_share τ b zero v)

  abbrev pub holding : (ls : List Local) → Spots ls → List (Option Val) → List (Item 𝓤)
  holding [] bs vs = []
  holding (l ∷ ls) bs [] = []
  holding (local τ h ∷ ls) bs (v ∷ vs) = held τ bs.0 v ∷ ‵ (fdies τ bs.0) ∷ holding ls bs.1 vs

  -- the same with values in the first of them, and with values in the first of those after one that has none
  abbrev pub filled : (ls : List Local) → Spots ls → List Val → List (Item 𝓤)
  filled [] bs vs = []
  filled (local τ h ∷ ls) bs [] = rooms (local τ h ∷ ls) bs
  filled (local τ h ∷ ls) bs (v ∷ vs) = ‵ (fat full_share τ bs.0 zero v) ∷ ‵ (fdies τ bs.0) ∷ filled ls bs.1 vs

  abbrev pub entered : (ls : List Local) → Spots ls → List Val → List (Item 𝓤)
  entered [] bs vs = []
  entered (local τ h ∷ ls) bs vs = ‵ (froom τ bs.0 zero) ∷ ‵ (fdies τ bs.0) ∷ filled ls bs.1 vs

  -- an entry behind others comes before them, and one before others goes behind them
  bring : (Δ : List (Item 𝓤)) (i : Item 𝓤) (Γ : List (Item 𝓤)) → ent 𝓤 (⋆ 𝓛 (Δ ++ (i ∷ Γ))) (⋆ 𝓛 (i ∷ (Δ ++ Γ)))
  bring [] i Γ = id⊢ 𝓤 _
  bring (d ∷ Δ) i Γ =
      let D : SProp 𝓤 = mean 𝓛 d in
      let I : SProp 𝓤 = mean 𝓛 i in
      via 𝓤 (sep 𝓤 D (sep 𝓤 I (⋆ 𝓛 (Δ ++ Γ)))) (via 𝓤 _ (pop 𝓛 d (Δ ++ (i ∷ Γ))) (mono_r 𝓤 D (via 𝓤 _ (bring Δ i Γ) (pop 𝓛 i (Δ ++ Γ)))))
      (via 𝓤 (sep 𝓤 (sep 𝓤 D I) (⋆ 𝓛 (Δ ++ Γ))) (assoc' 𝓤 D I (⋆ 𝓛 (Δ ++ Γ)))
      (via 𝓤 (sep 𝓤 (sep 𝓤 I D) (⋆ 𝓛 (Δ ++ Γ))) (mono_l 𝓤 (⋆ 𝓛 (Δ ++ Γ)) (comm∗ 𝓤 D I))
      (via 𝓤 (sep 𝓤 I (sep 𝓤 D (⋆ 𝓛 (Δ ++ Γ)))) (assoc∗ 𝓤 I D (⋆ 𝓛 (Δ ++ Γ))) (mono_r 𝓤 I (push 𝓛 d (Δ ++ Γ))))))

  bring2 : (Δ : List (Item 𝓤)) (i j : Item 𝓤) (Γ : List (Item 𝓤)) → ent 𝓤 (⋆ 𝓛 (Δ ++ (i ∷ j ∷ Γ))) (⋆ 𝓛 (i ∷ j ∷ (Δ ++ Γ)))
  bring2 Δ i j Γ = via 𝓤 _ (bring Δ i (j ∷ Γ)) (via 𝓤 _ (pop 𝓛 i (Δ ++ (j ∷ Γ))) (via 𝓤 _ (mono_r 𝓤 (mean 𝓛 i) (bring Δ j Γ)) (push 𝓛 i (j ∷ (Δ ++ Γ)))))

  send : (Δ : List (Item 𝓤)) (i : Item 𝓤) (Γ : List (Item 𝓤)) → ent 𝓤 (⋆ 𝓛 (i ∷ (Δ ++ Γ))) (⋆ 𝓛 (Δ ++ (i ∷ Γ)))
  send [] i Γ = id⊢ 𝓤 _
  send (d ∷ Δ) i Γ =
      let D : SProp 𝓤 = mean 𝓛 d in
      let I : SProp 𝓤 = mean 𝓛 i in
      via 𝓤 (sep 𝓤 I (sep 𝓤 D (⋆ 𝓛 (Δ ++ Γ)))) (via 𝓤 _ (pop 𝓛 i (d ∷ (Δ ++ Γ))) (mono_r 𝓤 I (pop 𝓛 d (Δ ++ Γ))))
      (via 𝓤 (sep 𝓤 (sep 𝓤 I D) (⋆ 𝓛 (Δ ++ Γ))) (assoc' 𝓤 I D (⋆ 𝓛 (Δ ++ Γ)))
      (via 𝓤 (sep 𝓤 (sep 𝓤 D I) (⋆ 𝓛 (Δ ++ Γ))) (mono_l 𝓤 (⋆ 𝓛 (Δ ++ Γ)) (comm∗ 𝓤 I D))
      (via 𝓤 (sep 𝓤 D (sep 𝓤 I (⋆ 𝓛 (Δ ++ Γ)))) (assoc∗ 𝓤 D I (⋆ 𝓛 (Δ ++ Γ)))
      (via 𝓤 (sep 𝓤 D (⋆ 𝓛 (Δ ++ (i ∷ Γ)))) (mono_r 𝓤 D (via 𝓤 _ (push 𝓛 i (Δ ++ Γ)) (send Δ i Γ))) (push 𝓛 d (Δ ++ (i ∷ Γ)))))))

  send2 : (Δ : List (Item 𝓤)) (i j : Item 𝓤) (Γ : List (Item 𝓤)) → ent 𝓤 (⋆ 𝓛 (i ∷ j ∷ (Δ ++ Γ))) (⋆ 𝓛 (Δ ++ (i ∷ j ∷ Γ)))
  send2 Δ i j Γ = via 𝓤 _ (via 𝓤 _ (pop 𝓛 i (j ∷ (Δ ++ Γ))) (via 𝓤 _ (mono_r 𝓤 (mean 𝓛 i) (send Δ j Γ)) (push 𝓛 i (Δ ++ (j ∷ Γ))))) (send Δ i (j ∷ Γ))

  abbrev pub turned : ℕ → List (Item 𝓤) → List (Item 𝓤)
  turned zero Γ = Γ
  turned (suc n) [] = []
  turned (suc n) (i ∷ Γ) = turned n (Γ ++ (i ∷ []))

  turn : (n : ℕ) (Γ : List (Item 𝓤)) → ent 𝓤 (⋆ 𝓛 Γ) (⋆ 𝓛 (turned n Γ))
  turn zero Γ = id⊢ 𝓤 _
  turn (suc n) [] = id⊢ 𝓤 _
  turn (suc n) (i ∷ Γ) = via 𝓤 _ (pop 𝓛 i Γ) (via 𝓤 _ (comm∗ 𝓤 (mean 𝓛 i) (⋆ 𝓛 Γ)) (via 𝓤 _ (++⊢ 𝓛 Γ (i ∷ [])) (turn n (Γ ++ (i ∷ [])))))

-- the types of as many locals as the list has
abbrev types_of : List Ty → List Local → List Ty
types_of [] ls = []
types_of (τ ∷ τs) [] = []
types_of (τ ∷ τs) (local σ h ∷ ls) = σ ∷ types_of τs ls

abbrev pub Begins : List Ty → List Local → Type 0
Begins τs [] = ⊥
Begins τs (l ∷ ls) = τs ≡ types_of τs ls

module _ {M : Type 1} {𝓤 : Ura M} {𝓛 : Logic 𝓤} {K : Type 0} where
  -- the first n entries go behind the others
  open 𝓛 use {H}

  pub aside : K → (n : ℕ) {Γ : List (Item 𝓤)} {G : Goal 𝓤 H} → Step K 𝓛 (turned 𝓛 n Γ) G Γ G
  aside t n {Γ} = step (λ s. by t (via 𝓤 _ (turn 𝓛 n Γ) s.prf))

  allocated : K → (ls : List Local) {Γ : List (Item 𝓤)} (Kt : Env 𝓤 H → Goal 𝓤 H) → ((bs : Spots ls) → Seq K 𝓛 (rooms 𝓛 ls bs ++ Γ) (Kt (env_at 𝓛 ls bs))) → Seq K 𝓛 Γ (allocs ls Kt)
  allocated t [] Kt k = alloc0 t $ k tt
  allocated t (local τ h ∷ ls) {Γ} Kt k = alloc1 t (λ b. allocated t ls (λ E. Kt ((τ, b) ∷ E)) (λ bs. by t
      (via 𝓤 _ (bring2 𝓛 (rooms 𝓛 ls bs) (‵ (froom τ b zero)) (‵ (fdies τ b)) Γ) (k (b, bs)).prf)))

  -- the parameters' values are stored
  stored : K → (Γ : List (Item 𝓤)) (g : Goal 𝓤 H) (τs : List Ty) (ls : List Local) (bs : Spots ls) (vs : List Val) → Typed (types_of τs ls) vs → Seq K 𝓛 (filled 𝓛 ls bs vs ++ Γ) g → Seq K 𝓛 (rooms 𝓛 ls bs ++ Γ) (passes (env_at 𝓛 ls bs) vs g)
  stored t Γ g [] [] bs [] ty k = pass0 t $ k
  stored t Γ g [] (local σ h ∷ ls) bs [] ty k = pass0 t $ k
  stored t Γ g [] ls bs (v ∷ vs) ty k = absurd ty
  stored t Γ g (τ ∷ τs) [] bs [] ty k = pass0 t $ k
  stored t Γ g (τ ∷ τs) [] bs (v ∷ vs) ty k = absurd ty
  stored t Γ g (τ ∷ τs) (local σ h ∷ ls) bs [] ty k = absurd ty
  stored t Γ g (τ ∷ τs) (local σ h ∷ ls) bs (v ∷ vs) ty k =
      let I : Item 𝓤 = ‵ (fat full_share σ bs.0 zero v) in
      let J : Item 𝓤 = ‵ (fdies σ bs.0) in
      pass1 t (init t 0 refl ty.0) $ by t (via 𝓤 _ (send2 𝓛 (rooms 𝓛 ls bs.1) I J Γ)
      (stored t (I ∷ J ∷ Γ) g τs ls bs.1 vs ty.1 (by t (via 𝓤 _ (bring2 𝓛 (filled 𝓛 ls bs.1 vs) I J Γ) k.prf))).prf)

  -- a function's walk begins
  pub enters : K → {Γ : List (Item 𝓤)} (C : Calls 𝓤 H) (Λ : Loops 𝓤 H) (f : Fn) (τs : List Ty) (vs : List Val) → Begins τs f.locals → Typed τs vs → {Kf : Val → SProp 𝓤}
      → ((bs : Spots f.locals) → Seq K 𝓛 (entered 𝓛 f.locals bs vs ++ Γ) (runs C Λ (env_at 𝓛 f.locals bs) f.body (at_ret (env_at 𝓛 f.locals bs) Kf)))
      → Seq K 𝓛 Γ (prop (WpFn 𝓤 H C Λ f vs Kf))
  enters t {Γ} C Λ f τs vs begins ty {Kf} k =
      enter t C Λ f vs Kf $ allocated t f.locals (λ E. params' E vs (runs C Λ E f.body (at_ret E Kf))) (λ bs. all f.locals begins bs (λ E. runs C Λ E f.body (at_ret E Kf)) (k bs))
    where
      all : (ls : List Local) → Begins τs ls → (bs : Spots ls) (g : Env 𝓤 H → Goal 𝓤 H) → Seq K 𝓛 (entered 𝓛 ls bs vs ++ Γ) (g (env_at 𝓛 ls bs)) → Seq K 𝓛 (rooms 𝓛 ls bs ++ Γ) (params' (env_at 𝓛 ls bs) vs (g (env_at 𝓛 ls bs)))
      all [] bad bs g k = absurd bad
      all (local σ h ∷ ls) are bs g k =
          let I : Item 𝓤 = ‵ (froom σ bs.0 zero) in
          let J : Item 𝓤 = ‵ (fdies σ bs.0) in
          params1 t $ by t (via 𝓤 _ (send2 𝓛 (rooms 𝓛 ls bs.1) I J Γ)
          (stored t (I ∷ J ∷ Γ) (g (env_at 𝓛 (local σ h ∷ ls) bs)) τs ls bs.1 vs (subst (λ (σs : List Ty). Typed σs vs) are ty) (by t (via 𝓤 _ (bring2 𝓛 (filled 𝓛 ls bs.1 vs) I J Γ) k.prf))).prf)

-- what the context has of the locals E, and what is left of it behind them
pub data Frees {M : Type 1} (𝓤 : Ura M) (H : Heap 𝓤) : Env 𝓤 H → List (Item 𝓤) → List (Item 𝓤) → Type 2 where
  end : {Γ : List (Item 𝓤)} → Frees 𝓤 H [] Γ Γ
  full : {τ : Ty} {b : ℕ} {v : Val} {E : Env 𝓤 H} {Γ Δ : List (Item 𝓤)} → Frees 𝓤 H E Γ Δ → Frees 𝓤 H ((τ, b) ∷ E) (‵ (fat full_share τ b zero v) ∷ ‵ (fdies τ b) ∷ Γ) Δ
  room : {τ : Ty} {b : ℕ} {E : Env 𝓤 H} {Γ Δ : List (Item 𝓤)} → Frees 𝓤 H E Γ Δ → Frees 𝓤 H ((τ, b) ∷ E) (‵ (froom τ b zero) ∷ ‵ (fdies τ b) ∷ Γ) Δ

module _ {M : Type 1} {𝓤 : Ura M} {𝓛 : Logic 𝓤} {K : Type 0} where
  -- the locals are freed
  open 𝓛 use {H}

  pub leaves : K → {E : Env 𝓤 H} {Γ Δ : List (Item 𝓤)} {g : Goal 𝓤 H} → Frees 𝓤 H E Γ Δ → Step K 𝓛 Δ g Γ (frees E g)
  leaves t end = free0 t
  leaves t (full f) = step (λ s. forget t 0 refl $ free1 t $ leaves t f $ s)
  leaves t (room f) = step (λ s. free1 t $ leaves t f $ s)
