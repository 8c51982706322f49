-- One record of a lent slice, as steps of a walk by hand. Of a `&[Record]` it is copied out. Of a `&mut [Record]` the borrow is opened and element i taken out, and it is closed at the list with another record there.
--     copies_at    the line that copies element i of a `&[Record]` to a local, through its address: the context begins with the token and what the slice owns, and has both again; the record's relation is then in hand
--     Own          what the `&mut [Record]` owns at the list l. Its machine value has the length n, which stays
--     opens_at     [κ]_q, the slice at zs  to  the cell of element i, what the record owns, the others, and what closes
--     closes_at    the same cell with the record r  to  [κ]_q, the slice at zs with r at i
-- Assumes `Logic`.
use types.Logic.{Logic}
use denote.Ref.{MutBor}
use Rattle.walk.proofs.Words.{◌≡◌, refl, sym, ◌∙◌, ap, subst, ℕ, suc, ◌+◌, ◌*◌, ◌<◌, List, [], ◌∷◌, length, get_or, set, length-set, Ura, full_share, Holds, Lifetime, deref, place as at_place, copy, rv_opd, Body, seq, assign, Val, vptr, WT, has_ty, Lft, GName, Share, Fml, fat, froom, flft}
use Rattle.walk.proofs.Words.{Env, spot_of, Calls, Loops, Item, Goal, Soaks, Seq, Step, step, ‵, nth, put, Post, runs, ◌$◌, move, drop, fsplit, fjoin, look, look_raw, stop, hop, from, load, of_opd, Is, shows, Bor, slice_val, Room, sets}
use base.Fml.{fobs, fauth, fobor}
use denote.Shadow.{pure_i, pure_l}
use denote.Memory.{mem, cell_at, shares}
use denote.Slice.{MutSlice, ShrSlice, heres, shr_slice_at, mut_slice_at, coded_holeys}
use denote.Struct.Laws as LL
use denote.Lend.{Held}
use denote.Index.{place, place_is, others, elem_out, elem_back, elem_put, looks_slice, shuts_slice, opens_slice, closes_slice}
use denote.Steps.{owned}
use Rattle.record.specs.Life.{free}
use Rattle.record.specs.declared.Record.{Record}
use Rattle.record.specs.contracts.Record as T
use Rattle.record.proofs.Record.TheLaws as TL
use Rattle.table.proofs.Records.{request}

abbrev mach : Record → Val
mach = request.val

abbrev vals : Record → List Val
vals r = mach r ∷ []

module _ (ℓ : Lifetime) (κ : Lft) (q : Share) (b o : ℕ) (ys : List Record) where
  abbrev x : Bor (List Record)
  x = record { ref_ptr = (b, o); now = ys }

  abbrev Shared : Fml
  Shared = (ShrSlice ℓ κ T.the_row).own_val x (slice_val (b, o) (length ys) ∷ [])

  module _ {M : Type 1} {𝓤 : Ura M} {𝓛 : Logic 𝓤} {K : Type 0} {E : Env 𝓤 𝓛.H} {C : Calls 𝓤 𝓛.H} {Λ : Loops 𝓤 𝓛.H} {z : Post 𝓤 𝓛.H} {rest : Body} {Γ : List (Item 𝓤)} where
    -- the address stands at entry n of the context, and the local's room at entry m
    open 𝓛 use {H}

    pub copies_at : K → {p d : ℕ} {q₁ : Share} (i : ℕ) → i < length ys → (n m : ℕ)
        → nth 𝓛 n Γ ≡ ‵ (fat q₁ (spot_of 𝓤 H E p).0 (spot_of 𝓤 H E p).1 (spot_of 𝓤 H E p).2 (vptr b (i * 64 + o)))
        → nth 𝓛 m Γ ≡ ‵ (froom (spot_of 𝓤 H E d).0 (spot_of 𝓤 H E d).1 (spot_of 𝓤 H E d).2)
        → (Is T.the_row (get_or ys i free) (vals (get_or ys i free)) → Holds (has_ty (spot_of 𝓤 H E d).0 (mach (get_or ys i free))) × WT (mach (get_or ys i free)))
        → (Is T.the_row (get_or ys i free) (vals (get_or ys i free))
        → Seq K 𝓛 (‵ (flft κ q) ∷ ‵ Shared ∷ put 𝓛 m (‵ (fat full_share (spot_of 𝓤 H E d).0 (spot_of 𝓤 H E d).1 (spot_of 𝓤 H E d).2 (mach (get_or ys i free)))) Γ) (runs C Λ E rest z))
        → Seq K 𝓛 (‵ (flft κ q) ∷ ‵ Shared ∷ Γ) (runs C Λ E (seq (assign (at_place d []) (rv_opd (copy (at_place p (deref TL.mir ∷ []))))) rest) z)
    copies_at t {p} {d} {q₁} i within n m e empty wt k =
        let e' : nth 𝓛 n Γ ≡ ‵ (fat q₁ (spot_of 𝓤 H E p).0 (spot_of 𝓤 H E p).1 (spot_of 𝓤 H E p).2 (vptr b (place (mem T.the_row).size o i))) =
        subst (λ (a : ℕ). nth 𝓛 n Γ ≡ ‵ (fat q₁ (spot_of 𝓤 H E p).0 (spot_of 𝓤 H E p).1 (spot_of 𝓤 H E p).2 (vptr b a))) (sym (place_is 64 o i)) e in
        -- its length and room are taken off; the elements are looked into, by a share of each, and what the slice holds of them stays
        move t (1 ∷ []) $ fsplit t $ pure_l t (shr_slice_at T.the_row x (slice_val (b, o) (length ys) ∷ [])) (λ room. move t (0 ∷ 1 ∷ []) $
        looks_slice t tt T.the_row (LL.copied T.the_type TL.the_copy 𝓛) ys b o (λ q'. elem_out t T.the_row (Is T.the_row) (shows 𝓛 T.the_row) vals request.tells q' ys i free b o within (λ is.
        -- [the element's cell; what it owns; the others; what shuts; what the slice owns; …]
        sets t (of_opd t (load t (from t (hop t (look t (suc (suc (suc (suc (suc n))))) e') (stop t))) (look_raw t 0 refl))) (suc (suc (suc (suc (suc m))))) empty (wt is) $
        elem_back t T.the_row q' ys i free (vals (get_or ys i free)) b o within $ shuts_slice t tt T.the_row q' ys b o $ move t (1 ∷ []) $
        pure_i t (shr_slice_at T.the_row x (slice_val (b, o) (length ys) ∷ [])) (tt, (tt, tt)) room $ fjoin t $ move t (1 ∷ []) $ k is)))

module _ (ℓ : Lifetime) (κ : Lft) (q : Share) (b o : ℕ) (γ : GName) (n : ℕ) where
  abbrev ref : List Record → MutBor (List Record)
  ref l = record { ref_ptr = (b, o); ghost_name = γ; now = l }

  abbrev pub Own : List Record → Fml
  Own l = (MutSlice ℓ κ T.the_row).own_val (ref l) (slice_val (b, o) n ∷ [])

  -- what closes the borrow that was opened at zs
  abbrev pub Open : {M : Type 1} {𝓤 : Ura M} → List Record → List (Item 𝓤) → List (Item 𝓤)
  Open zs Γ = ‵ (fobor κ q (Held T.the_row (length zs) b o γ)) ∷ ‵ (fobs γ ((coded_holeys T.the_row).code (heres T.the_row zs))) ∷ ‵ (fauth γ ((coded_holeys T.the_row).code (heres T.the_row zs))) ∷ Γ

  module _ {M : Type 1} {𝓤 : Ura M} {𝓛 : Logic 𝓤} {K : Type 0} {Γ : List (Item 𝓤)} {G : Goal 𝓤 𝓛.H} where
    pub opens_at : K → Soaks G → (zs : List Record) (i : ℕ) → i < length zs
        → Step K 𝓛 (‵ (cell_at full_share (T.the_row).mir (vals (get_or zs i free)) b (place (mem T.the_row).size o i)) ∷ ‵ ((T.the_row).own_val (get_or zs i free) (vals (get_or zs i free))) ∷ ‵ (others (shares T.the_row) full_share zs i b o) ∷ Open zs Γ) G
        (‵ (flft κ q) ∷ ‵ (Own zs) ∷ Γ) G
    opens_at t z zs i within = step (λ s. move t (1 ∷ []) $ fsplit t $ drop t $ fsplit t $ opens_slice t z T.the_row zs b o $
        elem_out t T.the_row (Is T.the_row) (shows 𝓛 T.the_row) vals request.tells full_share zs i free b o within (λ _. s))

    pub closes_at : K → Soaks G → (zs : List Record) (i : ℕ) → i < length zs → length zs ≡ n → Room T.the_row n → (r : Record) → Is T.the_row r (vals r) → {j : Item 𝓤}
        → Step K 𝓛 (‵ (flft κ q) ∷ ‵ (Own (set zs i r)) ∷ Γ) G (‵ (cell_at full_share (T.the_row).mir (vals r) b (place (mem T.the_row).size o i)) ∷ j ∷ ‵ (others (shares T.the_row) full_share zs i b o) ∷ Open zs Γ) G
    closes_at t z zs i within same fits r is = step (λ s.
        let e : length (set zs i r) ≡ n = length-set zs i r ∙ same in
        move t (1 ∷ []) $ drop t $ owned t T.the_row (Is T.the_row) (request.makes 𝓛) r _ is $ move t (1 ∷ 0 ∷ []) $ elem_put t T.the_row full_share zs i r (vals r) b o within $
        closes_slice t z T.the_row zs (set zs i r) (length-set zs i r) b o $ fjoin t $
        pure_i t (mut_slice_at T.the_row (ref (set zs i r)) (slice_val (b, o) n ∷ [])) (tt, (tt, tt)) (ap (λ (m : ℕ). slice_val (b, o) m ∷ []) (sym e), subst (Room T.the_row) (sym e) fits) $ fjoin t $ move t (1 ∷ 0 ∷ []) $ s)
