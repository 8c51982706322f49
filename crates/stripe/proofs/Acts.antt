-- Document 01, "Steps and what must come before", the last part: what a step does to the blocks, and that it
-- alters nothing else; and what it and a fresh choice make of the request's numbers.
-- Assumes nothing.
use Prim.Native.Nat.{ℕ, ◌+◌}
use mathlib.Core.Bool.{true, false}
use mathlib.Core.List.{[], ◌∷◌}
use mathlib.Core.Path.{◌≡◌, refl}
use lib.ListN.{get_or}
use borrow.Author.Tests.{eq-eqb, ne_eqb}
use Rattle.terms.specs.Sets.{bit}
use Rattle.terms.proofs.Bits.{bit_none, bit_add_same}
use Rattle.graph.specs.Choice.{choose}
use Rattle.graph.specs.Steps.{Step, rd, xr, wr, number_of}
use Rattle.graph.specs.Sums.{sums_to_read}
use Rattle.stripe.specs.Blocks.{Blocks, changed, total, performed}
use Rattle.stripe.specs.Group.{Group}
use Rattle.stripe.specs.Invariant.{is_done}
use Rattle.stripe.specs.Request.{Request, begun, advanced, chosen_afresh}
use Rattle.stripe.proofs.Bytes.{bytes}
use Rattle.stripe.proofs.Computing.{computing}

module _ (G : Group) (n : ℕ) (q : Request) (b : Blocks G.carrier) where
  -- a read step copies its block to the read block of that position
  pub read_copies : (p : ℕ) → (performed G n q (rd p) b).got p ≡ b.cell p
  unfolding performed changed
  read_copies p = rw (eq-eqb p p refl)

  pub read_leaves : (p i : ℕ) → ¬ (i ≡ p) → (performed G n q (rd p) b).got i ≡ b.got i
  unfolding performed changed
  read_leaves p i h = rw (ne_eqb i p h)

  -- a write step copies its block to write to its position
  pub write_copies : (p : ℕ) → (performed G n q (wr p) b).cell p ≡ b.new p
  unfolding performed changed
  write_copies p = rw (eq-eqb p p refl)

  pub write_leaves : (p i : ℕ) → ¬ (i ≡ p) → (performed G n q (wr p) b).cell i ≡ b.cell i
  unfolding performed changed
  write_leaves p i h = rw (ne_eqb i p h)

  -- in graph 2 the exclusive or goes to the read block of X, in the others to the last block to write
  pub sum_infers : q.graph ≡ 2 → (performed G n q xr b).got q.missed ≡ total G n q b
  unfolding performed changed sums_to_read
  sum_infers e = rw (eq-eqb q.graph 2 e, eq-eqb q.missed q.missed refl)

  pub sum_computes : ¬ (q.graph ≡ 2) → (performed G n q xr b).new n ≡ total G n q b
  unfolding performed changed sums_to_read
  sum_computes e = rw (ne_eqb q.graph 2 e, eq-eqb n n refl)

  -- only a write step alters what the stripe holds, and only the exclusive or a block to write
  pub read_keeps : (p : ℕ) → ((performed G n q (rd p) b).cell ≡ b.cell) × ((performed G n q (rd p) b).new ≡ b.new)
  unfolding performed
  read_keeps p = (refl, refl)

  pub write_keeps : (p : ℕ) → ((performed G n q (wr p) b).got ≡ b.got) × ((performed G n q (wr p) b).new ≡ b.new)
  unfolding performed
  write_keeps p = (refl, refl)

-- a done step is marked, and counted
pub step_marks : (q : Request) (k : ℕ) → bit k q.done ≡ false → bit k (advanced q k).done ≡ true
unfolding advanced
step_marks q k h = bit_add_same k q.done h

pub step_counts : (q : Request) (k : ℕ) → (advanced q k).count ≡ q.count + 1
unfolding advanced
step_counts q k = refl

-- a fresh choice is the table's for the position that is missing now; it forgets the done steps, and is counted
pub afresh_chooses : (n : ℕ) (q : Request) (x : ℕ)
    → ((chosen_afresh n q x).graph ≡ choose n q.write q.mask x) × ((chosen_afresh n q x).missed ≡ x)
unfolding chosen_afresh
afresh_chooses n q x = (refl, refl)

pub afresh_forgets : (n : ℕ) (q : Request) (x : ℕ) (s : Step) → is_done n (chosen_afresh n q x) s ≡ false
unfolding chosen_afresh is_done
afresh_forgets n q x s = bit_none (number_of n s)

pub afresh_counts : (n : ℕ) (q : Request) (x : ℕ) → (chosen_afresh n q x).count ≡ q.count + 1
unfolding chosen_afresh
afresh_counts n q x = refl

-- ---- N = 4, units 11, 22, 44

-- parity is 77
pub units_77 : total bytes 3 (begun 3 true 7 4) (record { cell = λ p. 0; got = λ p. 0; new = λ p. get_or (0x11 ∷ 0x22 ∷ 0x44 ∷ []) p 0 }) ≡ 0x77
unfolding computing
units_77 = refl

-- writing 33 to unit 1 by graph 3: old parity, old units and new units together are 66
pub small_66 : total bytes 3 (begun 3 true 2 4)
    (record { cell = λ p. 0; got = λ p. get_or (0 ∷ 0x22 ∷ 0 ∷ 0x77 ∷ []) p 0; new = λ p. get_or (0 ∷ 0x33 ∷ []) p 0 }) ≡ 0x66
unfolding computing
small_66 = refl
