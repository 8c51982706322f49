-- The units of a mask put into a list, each at a place of its own, as admit keeps a payload's and collect hands over a read's: what stands at
-- each of the places, and that nothing else changes.
-- Assumes nothing.
use Prim.Native.Nat.{ℕ, zero, suc, ◌+◌, ◌≤◌, ◌<◌}
use mathlib.Core.Bool.{Bool, true, false, cond}
use mathlib.Core.List.{List}
use mathlib.Core.Logic.{◌⊎◌, inl, inr}
use mathlib.Core.Path.{◌≡◌, refl, sym, ap, ◌∙◌}
use native.Mathlib.Nat.{not-suc-le-zero}
use native.Mathlib.Omega.{arith}
use lib.ListN.{length, get_or}
use Rattle.terms.specs.Lists.{put, changes}
use Rattle.terms.specs.Sets.{bit}
use Rattle.terms.proofs.Rows.{true≢false}
use Rattle.terms.proofs.Sets.{below_suc}
use Rattle.geometry.proofs.Apart.{Apart}
use Rattle.array.proofs.Frames.{put_length, put_same, put_other}

-- unit u, where it is in the mask, put at its place
abbrev pub put_unit : ℕ → (ℕ → ℕ) → (ℕ → List ℕ) → ℕ → List ℕ → List ℕ
put_unit mask at block u l = cond (bit u mask) (put (at u) (block u) l) l

-- n units of B bytes, each with room at its place
module _ (B mask n : ℕ) (at : ℕ → ℕ) (block : ℕ → List ℕ) (l : List ℕ)
    (size : (u : ℕ) → u < n → bit u mask ≡ true → length (block u) ≡ B)
    (room : (u : ℕ) → u < n → bit u mask ≡ true → at u + B ≤ length l) where
  -- the list after the units below m
  abbrev put_to : ℕ → List ℕ
  put_to m = changes m (put_unit mask at block) l

  pub puts_length : (m : ℕ) → m ≤ n → length (put_to m) ≡ length l
  unfolding changes
  puts_length zero h = refl
  puts_length (suc m) h = go (bit m mask) refl (puts_length m (omega arith))
    where
      go : (t : Bool) → bit m mask ≡ t → length (put_to m) ≡ length l → length (cond t (put (at m) (block m) (put_to m)) (put_to m)) ≡ length l
      go true e same = put_length B (at m) (block m) (put_to m) (size m h e) (omega (arith, room m h e)) ∙ same
      go false e same = same

  -- a byte apart from every place stays
  pub puts_other : (m : ℕ) → m ≤ n → (o b : ℕ) → b < B → ((u : ℕ) → u < m → bit u mask ≡ true → Apart B (at u) o)
      → get_or (put_to m) (o + b) 0 ≡ get_or l (o + b) 0
  unfolding changes
  puts_other zero h o b hb apart = refl
  puts_other (suc m) h o b hb apart = go (bit m mask) refl (puts_other m (omega arith) o b hb (λ u k e. apart u (omega arith) e))
    where
      go : (t : Bool) → bit m mask ≡ t → get_or (put_to m) (o + b) 0 ≡ get_or l (o + b) 0
          → get_or (cond t (put (at m) (block m) (put_to m)) (put_to m)) (o + b) 0 ≡ get_or l (o + b) 0
      go true e same =
          put_other B (at m) (block m) (put_to m) (size m h e) (omega (arith, room m h e, puts_length m (omega arith))) o b (apart m (omega arith) e) hb
          ∙ same
      go false e same = same

  -- a unit's bytes stand at its place, where the places are apart
  pub puts_same : ((u v : ℕ) → u < n → v < n → bit u mask ≡ true → bit v mask ≡ true → ¬ (u ≡ v) → Apart B (at u) (at v))
      → (m : ℕ) → m ≤ n → (u b : ℕ) → u < m → bit u mask ≡ true → b < B → get_or (put_to m) (at u + b) 0 ≡ get_or (block u) b 0
  unfolding changes
  puts_same apart zero h u b k e hb = absurd (not-suc-le-zero k)
  puts_same apart (suc m) h u b k e hb = go (below_suc u m k) (bit m mask) refl (λ l. puts_same apart m (omega arith) u b l e hb)
    where
      wide : bit m mask ≡ true → at m + B ≤ length (put_to m)
      wide f = omega (arith, room m h f, puts_length m (omega arith))

      go : (u < m) ⊎ (u ≡ m) → (t : Bool) → bit m mask ≡ t → (u < m → get_or (put_to m) (at u + b) 0 ≡ get_or (block u) b 0)
          → get_or (cond t (put (at m) (block m) (put_to m)) (put_to m)) (at u + b) 0 ≡ get_or (block u) b 0
      go (inl l) true f ih =
          put_other B (at m) (block m) (put_to m) (size m h f) (wide f) (at u) b (apart m u h (omega arith) f e (λ d. omega arith)) hb ∙ ih l
      go (inl l) false f ih = ih l
      go (inr d) true f ih = rw d (put_same B (at m) (block m) (put_to m) (size m h f) (wide f) b hb)
      go (inr d) false f ih = absurd (true≢false (sym e ∙ ap (λ (v : ℕ). bit v mask) d ∙ f))
