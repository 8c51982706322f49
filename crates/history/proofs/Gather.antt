-- The units of a mask one behind the other: how long they are, when two such rows of units are equal, and that collect hands over just these.
-- Assumes nothing.
use Prim.Native.Nat.{ℕ, zero, suc, ◌+◌, ◌*◌, ◌<◌}
use mathlib.Core.Bool.{Bool, true, false, cond}
use mathlib.Core.List.{List, [], ◌++◌, append_assoc, append-nil}
use mathlib.Core.Path.{◌≡◌, refl, sym, ap, ap₂, ◌∙◌}
use native.Mathlib.Omega.{arith}
use lib.ListN.{length, drop, length-append}
use lib.Seq.{take_at, drop-drop, drop-append-add}
use Rattle.terms.specs.Lists.{part, put, changes}
use Rattle.terms.specs.Sets.{bit}
use Rattle.geometry.specs.Store.{read_at}
use Rattle.geometry.specs.declared.State.{State}
use Rattle.record.specs.Life.{units_of}
use Rattle.array.proofs.Rank.{rank_zero, rank_suc}
use Rattle.array.specs.Collection.{hand_over}
use Rattle.array.specs.Lent.{rank}
use Rattle.history.specs.Row.{gathered}

module _ (mask : ℕ) where
  pub gathered_cong : (n : ℕ) (f g : ℕ → List ℕ) → ((u : ℕ) → u < n → bit u mask ≡ true → f u ≡ g u)
      → gathered n mask f ≡ gathered n mask g
  unfolding gathered
  gathered_cong zero f g same = refl
  gathered_cong (suc n) f g same =
      ap₂ (λ (a b : List ℕ). a ++ b) (gathered_cong n f g (λ u h m. same u (omega arith) m)) (last (bit n mask) refl)
    where
      last : (t : Bool) → bit n mask ≡ t → cond t (f n) [] ≡ cond t (g n) []
      last true e = same n (omega arith) e
      last false e = refl

  module _ (B : ℕ) (f : ℕ → List ℕ) where
    pub gathered_length : (n : ℕ) → ((u : ℕ) → u < n → bit u mask ≡ true → length (f u) ≡ B) → length (gathered n mask f) ≡ rank mask n * B
    unfolding gathered
    gathered_length zero sized = sym (ap (λ (k : ℕ). k * B) (rank_zero mask) ∙ (let e : 0 * B ≡ 0 = omega arith in e))
    gathered_length (suc n) sized =
        length-append (gathered n mask f) (cond (bit n mask) (f n) [])
        ∙ ap₂ (λ (a b : ℕ). a + b) (gathered_length n (λ u h m. sized u (omega arith) m)) (last (bit n mask) refl)
        ∙ sym (ap (λ (k : ℕ). k * B) (rank_suc mask n) ∙ spread (rank mask n) (cond (bit n mask) 1 0))
      where
        last : (t : Bool) → bit n mask ≡ t → length (cond t (f n) []) ≡ cond t 1 0 * B
        last true e = sized n (omega arith) e ∙ (let q : B ≡ 1 * B = omega arith in q)
        last false e = let q : 0 ≡ 0 * B = omega arith in q

        spread : (a b : ℕ) → (a + b) * B ≡ a * B + b * B
        spread a b = omega arith

    -- the units put one behind the other at the front of a buffer that has room: they, and what stands behind them
    handed : ℕ → List ℕ → List ℕ
    handed m result = changes m (λ u l. cond (bit u mask) (put (rank mask u * B) (f u) l) l) result

    handed_over : (n : ℕ) (result : List ℕ) → ((u : ℕ) → u < n → bit u mask ≡ true → length (f u) ≡ B)
        → handed n result ≡ gathered n mask f ++ drop (rank mask n * B) result
    unfolding handed gathered changes put
    handed_over zero result sized =
        sym (ap (λ (k : ℕ). drop k result) (ap (λ (k : ℕ). k * B) (rank_zero mask) ∙ (let e : 0 * B ≡ 0 = omega arith in e)))
    handed_over (suc n) result sized =
        ap (λ (l : List ℕ). cond (bit n mask) (put (rank mask n * B) (f n) l) l) (handed_over n result below)
        ∙ last (bit n mask) refl
      where
        below : (u : ℕ) → u < n → bit u mask ≡ true → length (f u) ≡ B
        below u h m = sized u (omega arith) m

        front : List ℕ
        front = gathered n mask f

        back : List ℕ
        back = drop (rank mask n * B) result

        long : length front ≡ rank mask n * B
        long = gathered_length n below

        seam : length (f n) ≡ B → put (rank mask n * B) (f n) (front ++ back) ≡ front ++ (f n ++ drop B back)
        seam e =
            ap₂ (λ (a b : List ℕ). a ++ (f n ++ b)) (take_at front back (rank mask n * B) long)
            (ap (λ (k : ℕ). drop k (front ++ back)) (ap₂ (λ (a b : ℕ). a + b) (sym long) e) ∙ drop-append-add front back B)

        last : (t : Bool) → bit n mask ≡ t
            → cond t (put (rank mask n * B) (f n) (front ++ back)) (front ++ back)
            ≡ (front ++ cond t (f n) []) ++ drop (rank mask (suc n) * B) result
        last true e =
            seam (sized n (omega arith) e)
            ∙ sym (append_assoc front (f n) (drop B back))
            ∙ ap (λ (l : List ℕ). (front ++ f n) ++ l)
            (drop-drop B (rank mask n * B) result
            ∙ ap (λ (k : ℕ). drop k result)
            (sym (ap (λ (k : ℕ). k * B) (rank_suc mask n ∙ ap (λ (t : Bool). rank mask n + cond t 1 0) e) ∙ (let q : (rank mask n + 1) * B ≡ rank mask n * B + B = omega arith in q))))
        last false e =
            ap₂ (λ (a b : List ℕ). a ++ b) (sym (append-nil front))
            (ap (λ (k : ℕ). drop k result)
            (sym (ap (λ (k : ℕ). k * B) (rank_suc mask n ∙ ap (λ (t : Bool). rank mask n + cond t 1 0) e) ∙ (let q : (rank mask n + 0) * B ≡ rank mask n * B = omega arith in q))))

-- what collect hands over of record i's read blocks
pub hand_over_law : (st : State) (i mask : ℕ) (work result : List ℕ)
    → ((u : ℕ) → u < units_of st → length (part (read_at st.cards st.block i u) st.block work) ≡ st.block)
    → hand_over st i mask work result
    ≡ gathered (units_of st) mask (λ u. part (read_at st.cards st.block i u) st.block work) ++ drop (rank mask (units_of st) * st.block) result
unfolding hand_over handed
hand_over_law st i mask work result sized =
    handed_over mask st.block (λ u. part (read_at st.cards st.block i u) st.block work) (units_of st) result (λ u h m. sized u h)
