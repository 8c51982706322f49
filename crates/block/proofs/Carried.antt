-- What a callee that was lent a middle part, `&mut dst[at..at + size]`, left of it, said of the whole; and the three cases of `carried`.
-- Assumes nothing.
use Prim.Native.Nat.{ℕ, ◌+◌, ◌-◌, ◌≤◌}
use mathlib.Core.Bool.{true, false, and-false}
use mathlib.Core.List.{List, ◌++◌}
use mathlib.Core.Path.{◌≡◌, sym, ap, ◌∙◌}
use native.Mathlib.Nat.{add-sub_cancel_left}
use native.Mathlib.Omega.{arith}
use borrow.Author.Tests.{le-leb, leb-true}
use borrow.Rule.Slice.PartMut.{put_mid, mid_of}
use lib.Dec.{leb}
use lib.ListN.{length, take, drop}
use lib.Seq.{drop-drop}
use Rattle.terms.specs.Lists.{part, put}
use Rattle.terms.proofs.Lists.{length_part}
use Rattle.block.specs.Blocks.{copied, carried}
use Rattle.block.proofs.Blocks.{copied_whole}

pub put_mid_is : (at size : ℕ) (l b : List ℕ) → length b ≡ size → put_mid at (at + size - at) l b ≡ put at b l
unfolding put
put_mid_is at size l b e =
    ap (λ (t : List ℕ). take at l ++ (b ++ t))
    (drop-drop (at + size - at) at l ∙ ap (λ (k : ℕ). drop k l) (let q : at + (at + size - at) ≡ at + length b = omega arith in q))

pub mid_part : (at size : ℕ) (l : List ℕ) → mid_of at (at + size - at) l ≡ part at size l
unfolding part
mid_part at size l = ap (λ (k : ℕ). take k (drop at l)) (add-sub_cancel_left at size)

module _ (dst : List ℕ) (at : ℕ) (src : List ℕ) (from size : ℕ) where
  pub carried_no_room : leb (at + size) (length dst) ≡ false → dst ≡ carried dst at src from size
  unfolding carried
  carried_no_room h = rw h

  pub carried_no_source : leb (from + size) (length src) ≡ false → dst ≡ carried dst at src from size
  unfolding carried
  carried_no_source h = rw (h, and-false (leb (at + size) (length dst)))

  pub carried_whole : at + size ≤ length dst → from + size ≤ length src → carried dst at src from size ≡ put at (part from size src) dst
  unfolding carried
  carried_whole h g = simp (le-leb (at + size) (length dst) h, le-leb (from + size) (length src) g)

  -- a copy between the two parts
  pub carried_copied : leb (at + size) (length dst) ≡ true → leb (from + size) (length src) ≡ true → (b : List ℕ)
      → b ≡ copied (mid_of at (at + size - at) dst) (mid_of from (from + size - from) src) → put_mid at (at + size - at) dst b ≡ carried dst at src from size
  carried_copied h g b e =
      let room : at + size ≤ length dst = leb-true (at + size) (length dst) h in
      let there : from + size ≤ length src = leb-true (from + size) (length src) g in
      let is : b ≡ part from size src =
      e ∙ rw (mid_part at size dst, mid_part from size src)
      (copied_whole (part at size dst) (part from size src) (length_part at size dst room ∙ sym (length_part from size src there))) in
      put_mid_is at size dst b (ap length is ∙ length_part from size src there)
      ∙ ap (λ (l : List ℕ). put at l dst) is
      ∙ sym (carried_whole room there)
