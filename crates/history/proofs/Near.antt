-- What holds of a stripe looks at its working positions and at a request's own blocks of the positions 0 to n, and at nothing else.
-- Assumes nothing.
use Prim.Native.Nat.{ℕ, ◌≤◌}
use mathlib.Core.Bool.{Bool}
use mathlib.Core.Path.{◌≡◌, ◌∙◌}
use native.Mathlib.Omega.{arith}
use Rattle.stripe.proofs.Chosen.{Chosen, degraded_read, plain_read, parity_failed, large_write, reconstruct_out, small_out, small_none, reconstruct_none, chosen_graph}
use Rattle.stripe.proofs.Places.{masked_below}
use Rattle.stripe.specs.Blocks.{Blocks}
use Rattle.stripe.specs.Group.{Group}
use Rattle.stripe.specs.Invariant.{Proper, Faithful}
use Rattle.stripe.specs.Request.{Request}

-- a degraded read misses one of its units
pub two_below : (n x : ℕ) (q : Request) → Proper n x q → q.graph ≡ 2 → q.missed ≤ n
two_below n x q p e = go (chosen_graph n q.mask q.missed q.write q.graph p.right_graph) e
  where
    go : {w : Bool} {g : ℕ} → Chosen n q.mask q.missed w g → g ≡ 2 → q.missed ≤ n
    go (degraded_read m) f = omega (arith, masked_below n q.mask q.missed m)
    go (plain_read m) f = absurd (omega arith)
    go (parity_failed m) f = absurd (omega arith)
    go (large_write m k) f = absurd (omega arith)
    go (reconstruct_out m) f = absurd (omega arith)
    go (small_out m) f = absurd (omega arith)
    go (small_none m k) f = absurd (omega arith)
    go (reconstruct_none m) f = absurd (omega arith)

-- the same in every position that counts, x missing
pub record Near {A : Type 0} (n x : ℕ) (b b' : Blocks A) : Type 0 where
  pub same_cell : (p : ℕ) → p ≤ n → ¬ (p ≡ x) → b'.cell p ≡ b.cell p
  pub same_got : (p : ℕ) → p ≤ n → b'.got p ≡ b.got p
  pub same_new : (p : ℕ) → p ≤ n → b'.new p ≡ b.new p

module _ (G : Group) (n x : ℕ) where
  -- the read block of X is one of the stripe's
  pub faithful_near : (q : Request) (renewed : ℕ → Bool) (R R' : ℕ → G.carrier) (b b' : Blocks G.carrier) → (q.graph ≡ 2 → q.missed ≤ n) → Near n x b b'
      → Faithful G n x q renewed R R' b → Faithful G n x q renewed R R' b'
  faithful_near q renewed R R' b b' x_below near f =
      record {
        old_row = f.old_row;
        new_row = f.new_row;
        read_same = f.read_same;
        others_same = f.others_same;
        kept = λ w p m. near.same_new p (omega (arith, masked_below n q.mask p m)) ∙ f.kept w p m;
        read = λ p l d. near.same_got p l ∙ f.read p l d;
        inferred = λ g d. near.same_got q.missed (x_below g) ∙ f.inferred g d;
        computed = λ g d. near.same_new n (omega arith) ∙ f.computed g d;
        written = λ p l d e. near.same_cell p l d ∙ f.written p l d e;
        unwritten = λ p l d e u. near.same_cell p l d ∙ f.unwritten p l d e u;
        either = λ p l d. near.same_cell p l d ∙ f.either p l d;
      }
