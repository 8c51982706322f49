-- The starred cases of document 01 hold: each is shown of the definitions, by computation.
-- Assumes nothing.
use Prim.Native.Nat.{ℕ, zero, suc, ◌+◌, ◌*◌, ◌<◌}
use mathlib.Core.Bool.{true, not, ◌||◌, ◌&&◌}
use mathlib.Core.List.{[]}
use mathlib.Core.Path.{◌≡◌, refl}
use native.Mathlib.Omega.{arith}
use lib.Count.{ones}
use lib.Dec.{eqb}
use Rattle.terms.specs.Reply.{accepted}
use Rattle.terms.specs.Sets.{bit, all_below}
use Rattle.terms.proofs.Sets.{all_below_elim}
use Rattle.graph.specs.Choice.{choose}
use Rattle.record.specs.Life.{units_of}
use Rattle.history.specs.Starred.{start4, writing, written, died, mended, three_done, chosen_afresh, longest, Starred}
use Rattle.history.specs.World.{collect, play, record_at}
use Rattle.history.proofs.Compute.{computed}

-- of both units of a stripe, N = 3
of_both : (P : ℕ → Type 0) → P 0 → P 1 → (u : ℕ) → u < 2 → P u
of_both P p q zero h = p
of_both P p q (suc zero) h = q
of_both P p q (suc (suc u)) h = absurd (omega arith)

pub starred : Starred
unfolding computed start4 writing written died mended three_done chosen_afresh longest
starred =
    record {
      block_0 = refl;
      block_7 = refl;
      block_10 = refl;
      card_3_stripe_1 = refl;
      one_unit = refl;
      two_units = refl;
      one_holding_x = λ x h.
          all_below_elim 4 (λ y. all_below 16 (λ mask. not (eqb (ones mask) 1 && bit y mask) || eqb (choose 4 true mask y) 4)) refl x h;
      three_without_x = λ x h.
          all_below_elim 4 (λ y. all_below 16 (λ mask. not (eqb (ones mask) 3 && not (bit y mask)) || eqb (choose 4 true mask y) 3)) refl x h;
      parity_77 = refl;
      by_graph_3 = refl;
      parity_66 = refl;
      by_graph_4 = refl;
      dead_parity_66 = refl;
      inferred_33 = refl;
      three_steps = of_both (λ u. (record_at (three_done u) 0).count ≡ 3) refl refl;
      one_afresh = of_both (λ u. ((record_at (chosen_afresh u) 0).count ≡ 4) × ((record_at (chosen_afresh u) 0).done ≡ 0)) (refl, refl) (refl, refl);
      all_steps = of_both (λ u. (play (longest u) (collect 0 [])).reply ≡ accepted (2 * units_of (longest u).state + 3) 0) refl refl;
      seven_steps = of_both (λ u. 2 * units_of (longest u).state + 3 ≡ 7) refl refl;
    }
