-- The loops that move the units of a mask: to a record's blocks to write, and from its read blocks to the result buffer. A turn of the code is
-- a turn of the definition.
-- Assumes nothing.
use Prim.Native.Nat.{ℕ, ◌+◌, ◌*◌, ◌≤◌, ◌<◌}
use mathlib.Core.Bool.{true, false, cond}
use mathlib.Core.List.{List}
use mathlib.Core.Path.{◌≡◌, refl, sym, ap, ap₂, ◌∙◌}
use native.Mathlib.Nat.{zero-mul, mul-le-mul_right}
use native.Mathlib.Numerals.{add-one}
use native.Mathlib.Omega.{arith}
use lib.Count.{ones}
use lib.ListN.{length}
use Rattle.terms.specs.Lists.{part, put, changes}
use Rattle.terms.specs.Sets.{bit}
use Rattle.terms.proofs.Lists.{length_put, length_part}
use Rattle.block.specs.Blocks.{carried}
use Rattle.block.proofs.Carried.{carried_whole}
use Rattle.geometry.specs.Store.{write_at, read_at}
use Rattle.geometry.specs.declared.State.{State}
use Rattle.geometry.proofs.Apart.{write_inside, read_inside}
use Rattle.geometry.proofs.Asked.{BoundsOf}
use Rattle.geometry.proofs.States.{state_bounds}
use Rattle.geometry.specs.Limits.{beyond_state}
use Rattle.record.specs.Life.{units_of}
use Rattle.array.specs.Admission.{keep_unit}
use Rattle.array.specs.Collection.{hand_unit}
use Rattle.array.specs.Lent.{rank, unit_bytes}
use Rattle.array.specs.Premises.{Keeping}
use Rattle.array.proofs.Rank.{rank_zero, rank_suc, rank_below}

-- the list l after the changes of the units below u, where the next masked unit is at this place among the moved bytes
pub record Turned (n B mask : ℕ) (f : ℕ → List ℕ → List ℕ) (l₀ l : List ℕ) (place u : ℕ) : Type 0 where
  pub below : u ≤ n
  pub at_rank : place ≡ rank mask u * B
  pub changed : l ≡ changes u f l₀
  pub as_long : length l ≡ length l₀

module _ (n B mask : ℕ) (f : ℕ → List ℕ → List ℕ) (l₀ : List ℕ) where
  pub turned_none : Turned n B mask f l₀ l₀ 0 0
  unfolding changes
  turned_none =
      record { below = omega arith; at_rank = sym (ap (λ (k : ℕ). k * B) (rank_zero mask) ∙ zero-mul B); changed = refl; as_long = refl }

  -- a masked unit is moved
  pub turned_more : (l l' : List ℕ) (place u : ℕ) → Turned n B mask f l₀ l place u → u < n → bit u mask ≡ true
      → l' ≡ f u l → length l' ≡ length l → Turned n B mask f l₀ l' (place + B) (u + 1)
  unfolding changes
  turned_more l l' place u t h e moved long =
      record {
        below = omega arith;
        at_rank =
            let k : rank mask (u + 1) ≡ rank mask u + 1 = rw add-one (rank_suc mask u ∙ rw e) in
            ap (λ (p : ℕ). p + B) t.at_rank ∙ sym (ap (λ (r : ℕ). r * B) k ∙ (let q : (rank mask u + 1) * B ≡ rank mask u * B + B = omega arith in q));
        changed = rw add-one (moved ∙ ap (f u) t.changed);
        as_long = long ∙ t.as_long;
      }

  -- another unit is passed over
  pub turned_pass : (l : List ℕ) (place u : ℕ) → Turned n B mask f l₀ l place u → u < n → bit u mask ≡ false
      → l ≡ f u l → Turned n B mask f l₀ l place (u + 1)
  unfolding changes
  turned_pass l place u t h e stays =
      record {
        below = omega arith;
        at_rank =
            let k : rank mask (u + 1) ≡ rank mask u = rw add-one (rank_suc mask u ∙ rw e (omega arith)) in
            t.at_rank ∙ sym (ap (λ (r : ℕ). r * B) k);
        changed = rw add-one (stays ∙ ap (f u) t.changed);
        as_long = t.as_long;
      }

  -- after the last turn all changes are made
  pub turned_all : (l : List ℕ) (place u : ℕ) → Turned n B mask f l₀ l place u → n ≤ u → l ≡ changes n f l₀
  turned_all l place u t h = t.changed ∙ ap (λ (k : ℕ). changes k f l₀) (let e : u ≡ n = omega (arith, t.below) in e)

-- a masked unit's bytes lie within those of all units of the mask
pub unit_inside : (B mask u bytes : ℕ) → bit u mask ≡ true → ones mask * B ≤ bytes → rank mask u * B + B ≤ bytes
unit_inside B mask u bytes e h = omega (arith, mul-le-mul_right B (rank_below mask u e))

-- a masked unit goes from one place to another, each with room for it; another unit stays where it is
module _ (n B mask : ℕ) (to from : ℕ → ℕ) (src l₀ : List ℕ) where
  abbrev move : ℕ → List ℕ → List ℕ
  move u l = cond (bit u mask) (put (to u) (part (from u) B src) l) l

  moved : (l l' : List ℕ) (place u at start : ℕ) → Turned n B mask move l₀ l place u → u < n → bit u mask ≡ true
      → at ≡ to u → start ≡ from u → at + B ≤ length l → start + B ≤ length src → l' ≡ carried l at src start B
      → Turned n B mask move l₀ l' (place + B) (u + 1)
  moved l l' place u at start t h e at-is start_is fits source carry =
      let whole = carry ∙ carried_whole l at src start B fits source in
      let size = length_part start B src source in
      turned_more n B mask move l₀ l l' place u t h e
      (whole ∙ sym (rw e (ap₂ (λ (a s : ℕ). put a (part s B src) l) (sym at-is) (sym start_is))))
      (ap length whole ∙ length_put at (part start B src) l (omega arith))

-- of record i, in a state within its limits
module _ (st : State) (i mask : ℕ) (units work : List ℕ) (limits : beyond_state st ≡ false) (below : i < st.records) (k : Keeping st mask units work) where
  bounds : BoundsOf st
  bounds = state_bounds st limits

  -- a masked unit's place among the bytes of the units has room for it
  pub keep_room : (f : ℕ → List ℕ → List ℕ) (l₀ l : List ℕ) (place u : ℕ) → Turned (units_of st) st.block mask f l₀ l place u
      → bit u mask ≡ true → place + st.block ≤ length units
  unfolding unit_bytes
  keep_room f l₀ l place u t e = omega (arith, t.at_rank, unit_inside st.block mask u (length units) e k.room)

  -- a turn that keeps a unit of the payload
  pub keep_more : (w : List ℕ) (from u : ℕ) → Turned (units_of st) st.block mask (keep_unit st i mask units) work w from u → u < units_of st
      → bit u mask ≡ true → (w' : List ℕ) (at : ℕ) → at ≡ write_at st.cards st.block i u → w' ≡ carried w at units from st.block
      → Turned (units_of st) st.block mask (keep_unit st i mask units) work w' (from + st.block) (u + 1)
  keep_more w from u t h e w' at at-is carry =
      let room = write_inside st.cards st.block st.records i u below (omega arith) in
      moved (units_of st) st.block mask (write_at st.cards st.block i) (λ v. rank mask v * st.block) units work w w' from u at from t h e at-is
      t.at_rank (omega (arith, t.as_long, k.work_right)) (keep_room (keep_unit st i mask units) work w from u t e) carry

  -- a turn that hands a read unit over to the result buffer, which the units are here
  pub hand_more : (l : List ℕ) (place u : ℕ) → Turned (units_of st) st.block mask (hand_unit st i mask work) units l place u → u < units_of st
      → bit u mask ≡ true → (l' : List ℕ) (at : ℕ) → at ≡ read_at st.cards st.block i u → l' ≡ carried l place work at st.block
      → Turned (units_of st) st.block mask (hand_unit st i mask work) units l' (place + st.block) (u + 1)
  hand_more l place u t h e l' at at-is carry =
      let room = read_inside st.cards st.block st.records i u below (omega arith) in
      moved (units_of st) st.block mask (λ v. rank mask v * st.block) (read_at st.cards st.block i) work units l l' place u place at t h e t.at_rank
      at-is (omega (arith, t.as_long, keep_room (hand_unit st i mask work) units l place u t e)) (omega (arith, k.work_right)) carry
