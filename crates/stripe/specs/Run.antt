-- All that can happen to a stripe while it has one open request, in any order: a request of this kind, mask and new units is admitted to a
-- stripe that holds the row R; its steps are done, or meet the missing position and have the graph chosen afresh; a position fails; what a
-- missing position holds changes. What is missing stays missing: a stripe that an open request holds is not filled.
-- Assumes nothing.
use Rattle.std.specs.Prelude.{ℕ, ◌≤◌, ◌<◌, Bool, true, ◌≡◌}
use Rattle.graph.specs.Steps.{step_of}
use Rattle.stripe.specs.Blocks.{Blocks, On, performed}
use Rattle.stripe.specs.Group.{Group}
use Rattle.stripe.specs.Invariant.{Idle}
use Rattle.stripe.specs.Request.{Request, ready_at, begun, advanced, chosen_afresh}

-- the runs that end with position x missing, the request's numbers q and the blocks b
pub data Run (G : Group) (n : ℕ) (write : Bool) (mask : ℕ) (R new : ℕ → G.carrier) : ℕ → Request → Blocks G.carrier → Type 0 where
  admitted : (x : ℕ) (cell got : ℕ → G.carrier) → Idle G n x R cell
      → Run G n write mask R new x (begun n write mask x) (record { cell = cell; got = got; new = new })
  stepped : {x : ℕ} {q : Request} {b : Blocks G.carrier} → Run G n write mask R new x q b
      → (k : ℕ) → ready_at n q k ≡ true → ¬ On x (step_of n k)
      → Run G n write mask R new x (advanced q k) (performed G n q (step_of n k) b)
  afresh : {x : ℕ} {q : Request} {b : Blocks G.carrier} → Run G n write mask R new x q b
      → (k : ℕ) → ready_at n q k ≡ true → On x (step_of n k) → x ≤ n
      → Run G n write mask R new x (chosen_afresh n q x) b
  failed : {x : ℕ} {q : Request} {b : Blocks G.carrier} → Run G n write mask R new x q b
      → n < x → (y : ℕ) → Run G n write mask R new y q b
  decayed : {x : ℕ} {q : Request} {b : Blocks G.carrier} → Run G n write mask R new x q b
      → (cell : ℕ → G.carrier) → ((p : ℕ) → p ≤ n → ¬ (p ≡ x) → cell p ≡ b.cell p)
      → Run G n write mask R new x q (record { cell = cell; got = b.got; new = b.new })
