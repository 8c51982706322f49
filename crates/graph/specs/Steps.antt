-- Document 01, "Steps and what must come before": the steps of each graph, and their numbers.
-- Assumes nothing.
use Rattle.std.specs.Prelude.{ℕ, ◌+◌, ◌-◌, ◌*◌, Bool, true, false, cond, not, ◌&&◌, ◌||◌, ltb, leb, eqb}
use Rattle.terms.specs.Sets.{bit}

-- a step reads a position of the stripe, is the exclusive or, writes a position, or is no step at all; position n is parity
pub data Step : Type 0 where
  rd : ℕ → Step
  xr : Step
  wr : ℕ → Step
  nil : Step

-- step numbers: i reads unit i; n reads parity; n+1 is the exclusive or; n+2+i writes unit i; 2n+2 writes parity
unfoldable pub step_of : ℕ → ℕ → Step
step_of n k = cond (leb k n) (rd k) (cond (eqb k (n + 1)) xr (cond (leb k (2 * n + 2)) (wr (k - (n + 2))) nil))

-- the number of a step
unfoldable pub number_of : ℕ → Step → ℕ
number_of n (rd p) = p
number_of n xr = n + 1
number_of n (wr p) = n + 2 + p
number_of n nil = 2 * n + 3

-- how many step numbers there are: 0 to 2n+2
abbrev pub step_numbers : ℕ → ℕ
step_numbers n = 2 * n + 3

-- what stands for graph g among six things, one for each graph, in their order; the seventh where g is no graph
unfoldable pub by_graph {ℓ} : {A : Type ℓ} → ℕ → A → A → A → A → A → A → A → A
by_graph g a1 a2 a3 a4 a5 a6 other =
    cond (eqb g 1) a1 (cond (eqb g 2) a2 (cond (eqb g 3) a3 (cond (eqb g 4) a4 (cond (eqb g 5) a5 (cond (eqb g 6) a6 other)))))

-- unit p is in the mask, or outside it
unfoldable pub masked : ℕ → ℕ → ℕ → Bool
masked n mask p = ltb p n && bit p mask

unfoldable pub unmasked : ℕ → ℕ → ℕ → Bool
unmasked n mask p = ltb p n && not (bit p mask)

-- position p is to be read: 1, the masked units; 2, every unit (but X), and parity; 3, the masked units and parity; 4, every unit outside the
-- mask
abbrev pub read_base : ℕ → ℕ → ℕ → ℕ → Bool
read_base n g mask p =
    by_graph g (masked n mask p) (leb p n) (masked n mask p || eqb p n) (unmasked n mask p) false false false

-- position p is read. A graph never has a step on the card that was out when it was chosen: x, and so X
unfoldable pub reads : ℕ → ℕ → ℕ → ℕ → ℕ → Bool
reads n g mask x p = read_base n g mask p && not (eqb p x)

-- there is an exclusive or: 2, 3, 4 and 5
unfoldable pub sums : ℕ → Bool
sums g = by_graph g false true true true true false false

-- position p is to be written: 3, 4 and 5, the masked units and parity (of 5 the mask is all units); 6, the masked units
abbrev pub write_base : ℕ → ℕ → ℕ → ℕ → Bool
write_base n g mask p =
    by_graph g
    false
    false
    (masked n mask p || eqb p n)
    (masked n mask p || eqb p n)
    (masked n mask p || eqb p n)
    (masked n mask p)
    false

-- position p is written: again not x
unfoldable pub writes : ℕ → ℕ → ℕ → ℕ → ℕ → Bool
writes n g mask x p = write_base n g mask p && not (eqb p x)

-- the step is in the graph
unfoldable pub member : ℕ → ℕ → ℕ → ℕ → Step → Bool
member n g mask x (rd p) = reads n g mask x p
member n g mask x xr = sums g
member n g mask x (wr p) = writes n g mask x p
member n g mask x nil = false
