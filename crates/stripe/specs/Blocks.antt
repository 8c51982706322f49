-- What a stripe and a request's work store hold, by position, and what a done step does to them.
-- Assumes nothing.
use Rattle.std.specs.Prelude.{ℕ, suc, ◌≤◌, Bool, true, cond, ◌≡◌, eqb}
use Rattle.graph.specs.Steps.{Step, rd, xr, wr, nil}
use Rattle.graph.specs.Sums.{takes_read, takes_new, sums_to_read}
use Rattle.stripe.specs.Group.{Group, sum_to}
use Rattle.stripe.specs.Request.{Request}

-- the step reads or writes position p; the exclusive or is on none
pub data On (p : ℕ) : Step → Type 0 where
  by_read : On p (rd p)
  by_write : On p (wr p)

-- a stripe's contents, the request's read blocks and its blocks to write, each a function of the position
pub record Blocks (A : Type 0) : Type 0 where
  pub cell : ℕ → A
  pub got : ℕ → A
  pub new : ℕ → A

-- two that nobody can tell apart but by what the missing position x holds
pub record Alike {A : Type 0} (n x : ℕ) (b b' : Blocks A) : Type 0 where
  pub same_cell : (p : ℕ) → p ≤ n → ¬ (p ≡ x) → b.cell p ≡ b'.cell p
  pub same_got : (p : ℕ) → b.got p ≡ b'.got p
  pub same_new : (p : ℕ) → b.new p ≡ b'.new p

-- f with a at position p
unfoldable pub changed : {A : Type 0} → (ℕ → A) → ℕ → A → ℕ → A
changed f p a i = cond (eqb i p) a (f i)

-- the exclusive or of a request's graph: of the read blocks and the new units that it takes
unfoldable pub total : (G : Group) → ℕ → Request → Blocks G.carrier → G.carrier
total G n q b =
    G.add
    (sum_to G (suc n) (λ p. cond (takes_read n q.graph q.mask q.missed p) (b.got p) G.nought))
    (sum_to G (suc n) (λ p. cond (takes_new n q.graph q.mask p) (b.new p) G.nought))

-- a read step copies its position to the read blocks; the exclusive or goes to the read block of X in graph 2, else to the last block to
-- write; a write step copies its block to write to its position
unfoldable pub performed : (G : Group) → ℕ → Request → Step → Blocks G.carrier → Blocks G.carrier
performed G n q (rd p) b = record { cell = b.cell; got = changed b.got p (b.cell p); new = b.new }
performed G n q xr b =
    cond (sums_to_read q.graph)
    (record { cell = b.cell; got = changed b.got q.missed (total G n q b); new = b.new })
    (record { cell = b.cell; got = b.got; new = changed b.new n (total G n q b) })
performed G n q (wr p) b = record { cell = changed b.cell p (b.new p); got = b.got; new = b.new }
performed G n q nil b = b

-- the positions written since a request's admission, after one more step
unfoldable pub renewed_by : Step → (ℕ → Bool) → ℕ → Bool
renewed_by (rd p) renewed = renewed
renewed_by xr renewed = renewed
renewed_by (wr p) renewed = changed renewed p true
renewed_by nil renewed = renewed
