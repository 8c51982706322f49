-- What holds of a stripe at every moment: idle, and with an open request. x is the position missing now, above n where none is.
-- A row is a function on the positions 0 to n whose whole sum is nothing, so parity is one more position.
-- Assumes nothing.
use Rattle.std.specs.Prelude.{ℕ, suc, ◌+◌, ◌*◌, ◌≤◌, ◌<◌, ◌^◌, Bool, true, false, cond, ◌≡◌, ◌⊎◌, eqb}
use Rattle.terms.specs.Sets.{bit}
use Rattle.graph.specs.Choice.{choose}
use Rattle.graph.specs.Order.{closed}
use Rattle.graph.specs.Steps.{Step, rd, xr, wr, step_of, number_of, step_numbers, member, masked, unmasked}
use Rattle.stripe.specs.Blocks.{Blocks}
use Rattle.stripe.specs.Group.{Group, sum_to}
use Rattle.stripe.specs.Request.{Request}

-- the number of step numbers for which p holds
unfoldable pub tally : ℕ → (ℕ → Bool) → ℕ
tally ℕ.zero p = 0
tally (suc m) p = tally m p + cond (p m) 1 0

-- the steps of a request's graph, and its done ones
unfoldable pub steps_in : ℕ → Request → ℕ
steps_in n q = tally (step_numbers n) (λ k. member n q.graph q.mask q.missed (step_of n k))

unfoldable pub steps_done : ℕ → Request → ℕ
steps_done n q = tally (step_numbers n) (λ k. bit k q.done)

-- step s is done
unfoldable pub is_done : ℕ → Request → Step → Bool
is_done n q s = bit (number_of n s) q.done

-- of a request's numbers: its graph is the table's choice for the position that was missing, which is none or the one that is missing now;
-- its done steps belong to the graph, each with its forerunners; with none missing at the choice the count is the done steps; and with the
-- steps still wanting it stays within 2n+3
pub record Proper (n x : ℕ) (q : Request) : Type 0 where
  pub some_unit : ¬ (q.mask ≡ 0)
  pub units_only : q.mask < 2 ^ n
  pub right_graph : q.graph ≡ choose n q.write q.mask q.missed
  pub known_card : (n < q.missed) ⊎ (q.missed ≡ x)
  pub in_order : closed n q.graph q.mask q.missed q.done ≡ true
  pub first_choice : n < q.missed → q.count ≡ steps_done n q
  pub within_bound : q.count + steps_in n q ≤ steps_done n q + (2 * n + 3)

-- a position whose write is not done holds the old row for certain: of a read, at an unmasked unit, in graph 3, or in a graph chosen with
-- none missing
unfoldable pub Untouched : ℕ → Request → ℕ → Type 0
Untouched n q p = (q.write ≡ false) ⊎ ((unmasked n q.mask p ≡ true) ⊎ ((q.graph ≡ 3) ⊎ (n < q.missed)))

module _ (G : Group) where
  -- the sum of a row's positions is nothing
  unfoldable pub IsRow : ℕ → (ℕ → G.carrier) → Type 0
  IsRow n R = sum_to G (suc n) R ≡ G.nought

  -- the units after a write: new in the mask, as they were outside it
  unfoldable pub units_after : ℕ → (ℕ → G.carrier) → (ℕ → G.carrier) → ℕ → G.carrier
  units_after mask R new p = cond (bit p mask) (new p) (R p)

  -- the row after a request on R: a read's is R; a write's has these units, and parity is their sum
  unfoldable pub row_after : ℕ → Bool → ℕ → (ℕ → G.carrier) → (ℕ → G.carrier) → ℕ → G.carrier
  row_after n write mask R new p =
      cond write (cond (eqb p n) (sum_to G n (units_after mask R new)) (units_after mask R new p)) (R p)

  -- an idle stripe: working positions hold the row
  pub record Idle (n x : ℕ) (R cell : ℕ → G.carrier) : Type 0 where
    pub row : IsRow n R
    pub holds : (p : ℕ) → p ≤ n → ¬ (p ≡ x) → cell p ≡ R p

  -- an open request, R the old row and R' the new one; renewed are the positions written since its admission, by whichever graph
  pub record Faithful (n x : ℕ) (q : Request) (renewed : ℕ → Bool) (R R' : ℕ → G.carrier) (b : Blocks G.carrier) : Type 0 where
    pub old_row : IsRow n R
    pub new_row : IsRow n R'
    -- a read changes nothing, a write its masked units and parity
    pub read_same : q.write ≡ false → (p : ℕ) → R' p ≡ R p
    pub others_same : (p : ℕ) → unmasked n q.mask p ≡ true → R' p ≡ R p
    -- the new units are kept in the work store
    pub kept : q.write ≡ true → (p : ℕ) → masked n q.mask p ≡ true → b.new p ≡ R' p
    -- a done read holds the old row
    pub read : (p : ℕ) → p ≤ n → is_done n q (rd p) ≡ true → b.got p ≡ R p
    -- a done exclusive or holds the old row at X, or the new parity
    pub inferred : q.graph ≡ 2 → is_done n q xr ≡ true → b.got q.missed ≡ R q.missed
    pub computed : ¬ (q.graph ≡ 2) → is_done n q xr ≡ true → b.new n ≡ R' n
    -- a working position holds the new row once it is written, and the old one before where that is certain
    pub written : (p : ℕ) → p ≤ n → ¬ (p ≡ x) → is_done n q (wr p) ≡ true → b.cell p ≡ R' p
    pub unwritten : (p : ℕ) → p ≤ n → ¬ (p ≡ x) → is_done n q (wr p) ≡ false → Untouched n q p → b.cell p ≡ R p
    -- at every moment it holds one of the two, the new row where it is renewed: also after a fresh choice, which forgets what is written
    pub either : (p : ℕ) → p ≤ n → ¬ (p ≡ x) → b.cell p ≡ cond (renewed p) (R' p) (R p)
