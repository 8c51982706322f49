-- The lines of a walk that come most often, each in one word. It says nothing of the crate.
--     local        a local's value, which stands at entry n of the context
--     big          a constant of more than a byte
--     sets         a line that fills a local, of which entry n is the room
--     lands_in     a call's result goes to a local, of which entry n is the room
--     lands_over   the same where the local holds something, which goes
--     tests        the test of a `while`: the turn goes on, or the loop is left
-- Assumes `Logic`.
use mathlib.Core.Path.{◌≡◌}
use Prim.Native.Nat.{ℕ, ◌<◌, ◌^◌}
use mathlib.Core.List.{List, []}
use seplogic.Ra.Ura.{Ura}
use base.Fraction.{full_share}
use lib.Dec.{T}
use mir.Syntax.{Width, place, copy, int_big, Opd as Operand, Rv as RValue, Body, seq, assign, cond, skip, exit}
use mathlib.Core.Bool.{Bool, not}
use mir.Val.{Val, vint, vbool, bits, Fits, WT, has_ty}
use base.Logic.{via, guard_i}
use base.Fml.{Share, fat, froom}
use prog.Wp.{Env, exits, spot_of, Calls, Loops}
use types.Logic.{Logic}
use types.Kit.{Item, ‵, nth, put, Post, post, prop, runs, lands, Seq, Step, ◌$◌}
use types.Run.{Opd, Rv, look, init, store, stop, from, load, assigns, land, first, skips, jumps, branches}

module _ {M : Type 1} {𝓤 : Ura M} {𝓛 : Logic 𝓤} {K : Type 0} {Γ : List (Item 𝓤)} {E : Env 𝓤 𝓛.H} where
  open 𝓛 use {H}

  pub local : K → {i : ℕ} {q : Share} {v : Val} (n : ℕ) → nth 𝓛 n Γ ≡ ‵ (fat q (spot_of 𝓤 H E i).0 (spot_of 𝓤 H E i).1 (spot_of 𝓤 H E i).2 v) → Opd K 𝓛 Γ E (copy (place i [])) v
  local t n e = load t (from t (stop t)) (look t n e)

  pub big : K → {w : Width} {n : ℕ} → n < 2 ^ bits w → Opd K 𝓛 Γ E (int_big w n) (vint w n)
  big t {w} {n} fits = record { go = λ Kt h. via 𝓤 (Kt (vint w n)) h (guard_i 𝓤 (Fits w n) (Kt (vint w n)) (record { fits = fits })) }

  module _ {C : Calls 𝓤 H} {Λ : Loops 𝓤 H} {q : Post 𝓤 H} where
    pub sets : K → {i : ℕ} {rv : RValue} {rest : Body} {v : Val} → Rv K 𝓛 Γ E rv v → (n : ℕ) → nth 𝓛 n Γ ≡ ‵ (froom (spot_of 𝓤 H E i).0 (spot_of 𝓤 H E i).1 (spot_of 𝓤 H E i).2) → T (has_ty (spot_of 𝓤 H E i).0 v) × WT v
        → Step K 𝓛 (put 𝓛 n (‵ (fat full_share (spot_of 𝓤 H E i).0 (spot_of 𝓤 H E i).1 (spot_of 𝓤 H E i).2 v)) Γ) (runs C Λ E rest q) Γ (runs C Λ E (seq (assign (place i []) rv) rest) q)
    sets t rv n e wt = assigns t rv (from t (stop t)) (init t n e wt)

    pub lands_in : K → {i : ℕ} {rest : Body} {v : Val} (n : ℕ) → nth 𝓛 n Γ ≡ ‵ (froom (spot_of 𝓤 H E i).0 (spot_of 𝓤 H E i).1 (spot_of 𝓤 H E i).2) → T (has_ty (spot_of 𝓤 H E i).0 v) × WT v
        → Step K 𝓛 (put 𝓛 n (‵ (fat full_share (spot_of 𝓤 H E i).0 (spot_of 𝓤 H E i).1 (spot_of 𝓤 H E i).2 v)) Γ) (runs C Λ E rest q) Γ (lands C Λ E (place i []) v rest q)
    lands_in t n e wt = land t (from t (stop t)) (init t n e wt)

    pub lands_over : K → {i : ℕ} {rest : Body} {u v : Val} (n : ℕ) → nth 𝓛 n Γ ≡ ‵ (fat full_share (spot_of 𝓤 H E i).0 (spot_of 𝓤 H E i).1 (spot_of 𝓤 H E i).2 u) → T (has_ty (spot_of 𝓤 H E i).0 v) × WT v
        → Step K 𝓛 (put 𝓛 n (‵ (fat full_share (spot_of 𝓤 H E i).0 (spot_of 𝓤 H E i).1 (spot_of 𝓤 H E i).2 v)) Γ) (runs C Λ E rest q) Γ (lands C Λ E (place i []) v rest q)
    lands_over t n e wt = land t (from t (stop t)) (store t n e wt)

    pub tests : K → {c : Operand} {n : ℕ} {b : Body} {y : Bool} → Opd K 𝓛 Γ E c (vbool y) → (T y → Seq K 𝓛 Γ (runs C Λ E b q)) → (T (not y) → Seq K 𝓛 Γ (prop (post 𝓤 H q (exits n))))
        → Seq K 𝓛 Γ (runs C Λ E (seq (cond c skip (exit n)) b) q)
    tests t o goes_on left = first t $ branches t o (λ h. skips t $ record { prf = (goes_on h).prf }) (λ h. jumps t $ record { prf = (left h).prf })
