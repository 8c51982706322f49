-- The place of a unit among those of a mask: one more behind each unit of the mask, and all of them before the end.
-- Assumes nothing.
use Prim.Native.Nat.{ℕ, zero, suc, ◌+◌, ◌/◌, ◌%◌, ◌^◌, ◌<◌}
use mathlib.Core.Bool.{true, cond}
use mathlib.Core.Path.{◌≡◌, refl, sym, ap, ◌∙◌}
use native.Mathlib.Nat.{mod-eq_of_lt, mod-lt, mod-one, div-add-mod', add_comm}
use native.Mathlib.Omega.{arith}
use borrow.Author.Tests.{eqb-true}
use lib.Count.{ones, ones_step, ones_cat}
use lib.Dec.{eqb}
use lib.Pow.{pow_pos, mod-pow-add}
use Rattle.terms.specs.Sets.{bit}
use Rattle.array.specs.Lent.{rank}

-- the units below unit u and the rest make them all
split : (mask u : ℕ) → ones mask ≡ ones (mask / 2 ^ u) + rank mask u
unfolding rank
split mask u =
    ap ones (sym (div-add-mod' mask (2 ^ u))) ∙ ones_cat u (mask / 2 ^ u) (mask % 2 ^ u) (mod-lt mask (pow_pos u))

-- none below unit 0
pub rank_zero : (mask : ℕ) → rank mask zero ≡ 0
unfolding rank ones
rank_zero mask = ap ones (mod-one mask)

-- a digit as a number of ones
digit : (d : ℕ) → d < 2 → ones d ≡ cond (eqb d 1) 1 0
unfolding ones
digit zero h = refl
digit (suc zero) h = refl
digit (suc (suc d)) h = absurd (omega arith)

-- one more behind unit u where it is in the mask
pub rank_suc : (mask u : ℕ) → rank mask (suc u) ≡ rank mask u + cond (bit u mask) 1 0
unfolding rank bit
rank_suc mask u =
    let e : suc u ≡ 1 + u = omega arith in
    ap (λ (k : ℕ). ones (mask % 2 ^ k)) e
    ∙ ap ones (mod-pow-add mask 1 u)
    ∙ ones_cat u (mask / 2 ^ u % 2) (mask % 2 ^ u) (mod-lt mask (pow_pos u))
    ∙ add_comm (ones (mask / 2 ^ u % 2)) (ones (mask % 2 ^ u))
    ∙ ap (λ (k : ℕ). ones (mask % 2 ^ u) + k) (digit (mask / 2 ^ u % 2) (omega arith))

-- a unit of the mask stands before the end
pub rank_below : (mask u : ℕ) → bit u mask ≡ true → rank mask u < ones mask
unfolding bit
rank_below mask u e =
    omega (arith, split mask u, ones_step (mask / 2 ^ u), eqb-true (mask / 2 ^ u % 2) 1 e)

-- all units of the mask stand below n
pub rank_all : (n mask : ℕ) → mask < 2 ^ n → rank mask n ≡ ones mask
unfolding rank
rank_all n mask h = ap ones (mod-eq_of_lt h)
