-- Writing a text from a place on, a piece behind a piece: what is put behind a piece is put with it.
-- Assumes nothing.
use Prim.Native.Nat.{ℕ, ◌+◌, ◌≤◌, ◌<◌}
use mathlib.Core.Path.{◌≡◌, sym, ap, ◌∙◌}
use mathlib.Core.List.{List, [], ◌∷◌, ◌++◌, append_assoc}
use native.Mathlib.Numerals.{add-one}
use native.Mathlib.Nat.{add_assoc, add-zero}
use native.Mathlib.Omega.{arith}
use lib.ListN.{length, set, take, drop, length-append, take-append-drop}
use lib.Seq.{length-take-le, set_split, take_at, drop-append-add, drop-drop}
use Rattle.terms.specs.Lists.{put}
use Rattle.terms.proofs.Lists.{length_put}
use borrow.Rule.Slice.PartMut.{put_mid}

-- nothing
pub put_nothing : (l : List ℕ) (at : ℕ) → put at [] l ≡ l
unfolding put
put_nothing l at = rw add-zero (take-append-drop at l)

-- one byte
pub put_byte : (l : List ℕ) (i x : ℕ) → i < length l → set l i x ≡ put i (x ∷ []) l
unfolding put
put_byte l i x h = rw add-one (set_split l i x h)

-- what stands more than k behind the start, where the first k stand in front
drop_past : (p q : List ℕ) (k n : ℕ) → length p ≡ k → drop (k + n) (p ++ q) ≡ drop n q
drop_past p q k n e = rw (← e) (drop-append-add p q n)

module _ (l : List ℕ) where
  -- a piece behind a piece
  pub put_behind : (at : ℕ) (a b : List ℕ) → at + length a + length b ≤ length l → put (at + length a) b (put at a l) ≡ put at (a ++ b) l
  unfolding put
  put_behind at a b h =
      let front = take at l ++ a in
      let end = at + length a in
      let size : length front ≡ end = length-append (take at l) a ∙ ap (λ (k : ℕ). k + length a) (length-take-le at l (omega arith)) in
      let whole : take at l ++ (a ++ drop end l) ≡ front ++ drop end l = sym (append_assoc (take at l) a (drop end l)) in
      let past : drop (end + length b) (front ++ drop end l) ≡ drop (end + length b) l =
      drop_past front (drop end l) end (length b) size ∙ drop-drop (length b) end l in
      let far : at + length (a ++ b) ≡ end + length b = ap (λ (k : ℕ). at + k) (length-append a b) ∙ sym (add_assoc at (length a) (length b)) in
      rw (whole, take_at front (drop end l) end size, past, far) (simp append_assoc)

  -- a byte behind a piece
  pub put_next : (at : ℕ) (a : List ℕ) (x : ℕ) → at + length a < length l → set (put at a l) (at + length a) x ≡ put at (a ++ (x ∷ [])) l
  put_next at a x h = put_byte (put at a l) (at + length a) x (rw (length_put at a l (omega arith)) h) ∙ put_behind at a (x ∷ []) (omega arith)

-- the list with a text written over a part of it
pub put_part : (l : List ℕ) (at k : ℕ) (b t : List ℕ) → b ≡ t → k ≡ length t → put_mid at k l b ≡ put at t l
unfolding put
put_part l at k b t e f = rw (e, f) (ap (λ (rest : List ℕ). take at l ++ (t ++ rest)) (drop-drop (length t) at l))

-- what was put of a text was put of one that is the same
pub put_same : (l : List ℕ) (at : ℕ) {r : ℕ} {l' : List ℕ} (t u : List ℕ) → t ≡ u → r ≡ at + length u → l' ≡ put at u l → (r ≡ at + length t) × (l' ≡ put at t l)
put_same l at t u e r p = (r ∙ ap (λ (x : List ℕ). at + length x) (sym e), p ∙ ap (λ (x : List ℕ). put at x l) (sym e))
