-- One element of an array in a local, at any index, in a walk. It says nothing of the crate.
--     elem         element k of an array's cell, as `Types/Part.antt`'s `Part`: so `look_in` reads it and `store_in` overwrites it
-- Assumes `Logic`.
use mathlib.Core.Path.{◌≡◌, sym, ◌∙◌, ap, subst}
use Prim.Native.Nat.{ℕ, zero, suc, ◌+◌, ◌<◌}
use native.Mathlib.Nat.{not-suc-le-zero, le_of_suc-le-suc}
use mathlib.Core.List.{List, [], ◌∷◌}
use lib.ListN.{length, get_or, set, length-set}
use lib.Seq.{set-get_or}
use seplogic.Ra.Ura.{Ura}
use mir.Syntax.{Ty, ty_array}
use mir.Val.{Val, vstruct, of_list}
use base.Logic.{SProp, ent, sep, wand, all, all_e, apply∗}
use base.Fml.{Share, fat}
use prog.Memory.{size}
use prog.Model.{elems}
use types.Logic.{Logic}
use types.Kit.{‵, raw, ◌⊛◌, ◌$◌, ◌∵◌, !, qed, move, use1, use2, split, assume, frame, each, done}
use types.Part.{Part}
use denote.Index.{place}

module _ {M : Type 1} {𝓤 : Ura M} (𝓛 : Logic 𝓤) (q : Share) (τ : Ty) (b : ℕ) where
  -- the cells of us with element k's out of them: whatever it then holds gives them back
  open 𝓛 use {H}

  abbrev Back : List Val → ℕ → ℕ → Val → SProp 𝓤
  Back us k o u = wand 𝓤 (H.at q τ b (place (size τ) o k) u) (elems 𝓤 H q τ b o (set us k u))

  pick : (us : List Val) (k : ℕ) (d : Val) (o : ℕ) → k < length us → ent 𝓤 (elems 𝓤 H q τ b o us) (sep 𝓤 (H.at q τ b (place (size τ) o k) (get_or us k d)) (all 𝓤 (Back us k o)))
  pick [] k d o l = absurd (not-suc-le-zero l)
  pick (v ∷ us) zero d o l =
      qed 𝓛 (‵ (fat q τ b o v) ∷ raw (elems 𝓤 H q τ b (o + size τ) us) ∷ []) ∵ frame ! $
      each ! (Back (v ∷ us) zero o) (λ u. assume ! (‵ (fat q τ b o u)) $ done !)
  pick (v ∷ us) (suc k) d o l =
      qed 𝓛 (‵ (fat q τ b o v) ∷ raw (elems 𝓤 H q τ b (o + size τ) us) ∷ []) ∵ move ! (1 ∷ []) $
      use1 𝓛 (‵ (fat q τ b (place (size τ) (o + size τ) k) (get_or us k d)) ⊛ raw (all 𝓤 (Back us k (o + size τ)))) (pick us k d (o + size τ) (le_of_suc-le-suc l)) $ split ! $ frame ! $
      each ! (Back (v ∷ us) (suc k) o) (λ u. assume ! (‵ (fat q τ b (place (size τ) (o + size τ) k) u)) $ move ! (1 ∷ []) $
      use1 𝓛 (raw (Back us k (o + size τ) u)) (all_e 𝓤 (Back us k (o + size τ)) u) $ move ! (1 ∷ 0 ∷ []) $
      use2 𝓛 (raw (elems 𝓤 H q τ b (o + size τ) (set us k u))) (apply∗ 𝓤 (H.at q τ b (place (size τ) (o + size τ) k) u) (elems 𝓤 H q τ b (o + size τ) (set us k u))) $ move ! (1 ∷ 0 ∷ []) $ done !)

module _ {M : Type 1} {𝓤 : Ura M} {𝓛 : Logic 𝓤} {K : Type 0} where
  open 𝓛 use {H}

  pub elem : K → {q : Share} {τ : Ty} {n b o : ℕ} (us : List Val) (k : ℕ) (d : Val) → length us ≡ n → k < n
      → Part K 𝓛 (‵ (fat q (ty_array τ n) b o (vstruct (of_list us)))) q τ b (place (size τ) o k) (get_or us k d) (λ u. ‵ (fat q (ty_array τ n) b o (vstruct (of_list (set us k u)))))
  elem t {q} {τ} {n} {b} {o} us k d e l = record {
    out = qed 𝓛 (‵ (fat q (ty_array τ n) b o (vstruct (of_list us))) ∷ []) ∵ use1 𝓛 (raw (elems 𝓤 H q τ b o us)) (𝓛.laws.at_elems q τ n b o us) $
        use1 𝓛 (‵ (fat q τ b (place (size τ) o k) (get_or us k d)) ⊛ raw (all 𝓤 (Back 𝓛 q τ b us k o))) (pick 𝓛 q τ b us k d o (subst (λ (m : ℕ). k < m) (sym e) l)) $ split ! $ frame ! $
        each ! (λ (u : Val). wand 𝓤 (H.at q τ b (place (size τ) o k) u) (H.at q (ty_array τ n) b o (vstruct (of_list (set us k u))))) (λ u. assume ! (‵ (fat q τ b (place (size τ) o k) u)) $ move ! (1 ∷ []) $
        use1 𝓛 (raw (Back 𝓛 q τ b us k o u)) (all_e 𝓤 (Back 𝓛 q τ b us k o) u) $ move ! (1 ∷ 0 ∷ []) $
        use2 𝓛 (raw (elems 𝓤 H q τ b o (set us k u))) (apply∗ 𝓤 (H.at q τ b (place (size τ) o k) u) (elems 𝓤 H q τ b o (set us k u))) $
        use1 𝓛 (‵ (fat q (ty_array τ n) b o (vstruct (of_list (set us k u)))))
        (subst (λ (m : ℕ). ent 𝓤 (elems 𝓤 H q τ b o (set us k u)) (H.at q (ty_array τ m) b o (vstruct (of_list (set us k u))))) (length-set us k u ∙ e) (𝓛.laws.elems_at q τ b o (set us k u))) $ done !);
    same = ap (λ (vs : List Val). ‵ (fat q (ty_array τ n) b o (vstruct (of_list vs)))) (set-get_or us k d);
  }
