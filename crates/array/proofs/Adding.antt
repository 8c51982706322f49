-- A loop that adds the blocks of the positions that a test takes: a turn adds one more, or passes a position over.
-- Assumes nothing.
use Prim.Native.Nat.{ℕ, ◌+◌, ◌*◌, ◌≤◌, ◌<◌}
use mathlib.Core.Bool.{Bool, true, false, cond}
use mathlib.Core.List.{List, []}
use mathlib.Core.Path.{◌≡◌, sym, ap, ◌∙◌}
use native.Mathlib.Nat.{mul-le-mul_right}
use native.Mathlib.Omega.{arith}
use Rattle.block.specs.Blocks.{added, summed}
use Rattle.block.proofs.Blocks.{summed_none, summed_more, added_zeros}

-- the block of a position ends within what has room for all
pub block_ends : (first size cards bytes p : ℕ) → p < cards → first + cards * size ≤ bytes → first + p * size + size ≤ bytes
block_ends first size cards bytes p h room =
    let m : (p + 1) * size ≤ cards * size = mul-le-mul_right size (let k : p + 1 ≤ cards = omega arith in k) in
    let q : (p + 1) * size ≡ p * size + size = omega arith in
    omega (arith, m, q, room)

-- the blocks of the positions below p that the test takes are added
pub record Added (cards : ℕ) (takes : ℕ → Bool) (block : ℕ → List ℕ) (s₀ s : List ℕ) (p : ℕ) : Type 0 where
  pub below : p ≤ cards
  pub sum : s ≡ summed p (λ q. cond (takes q) (block q) []) s₀

module _ (cards : ℕ) (takes : ℕ → Bool) (block : ℕ → List ℕ) (s₀ : List ℕ) where
  pub added_none : Added cards takes block s₀ s₀ 0
  added_none = record { below = omega arith; sum = sym (summed_none _ s₀) }

  pub added_more : (s s' : List ℕ) (p : ℕ) → Added cards takes block s₀ s p → p < cards → takes p ≡ true
      → (b : List ℕ) → b ≡ block p → s' ≡ added s b → Added cards takes block s₀ s' (p + 1)
  added_more s s' p a h e b is moved =
      record {
        below = omega arith;
        sum =
            moved
            ∙ ap (λ (t : List ℕ). added t b) a.sum
            ∙ ap (λ (t : List ℕ). added (summed p (λ q. cond (takes q) (block q) []) s₀) t) (is ∙ sym (rw e))
            ∙ sym (summed_more p (λ q. cond (takes q) (block q) []) s₀);
      }

  pub added_pass : (s : List ℕ) (p : ℕ) → Added cards takes block s₀ s p → p < cards → takes p ≡ false → Added cards takes block s₀ s (p + 1)
  added_pass s p a h e =
      record {
        below = omega arith;
        sum =
            a.sum
            ∙ sym (added_zeros (summed p (λ q. cond (takes q) (block q) []) s₀) 0)
            ∙ ap (λ (t : List ℕ). added (summed p (λ q. cond (takes q) (block q) []) s₀) t) (sym (rw e))
            ∙ sym (summed_more p (λ q. cond (takes q) (block q) []) s₀);
      }
