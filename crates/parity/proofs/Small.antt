-- A scan's answer has small numbers: what a packed answer has room for.
-- Assumes nothing.
use Prim.Native.Nat.{ℕ, ◌≤◌}
use mathlib.Core.Bool.{Bool, true, false, cond, not, ◌&&◌}
use mathlib.Core.List.{List, [], ◌∷◌}
use mathlib.Core.Path.{◌≡◌, refl}
use native.Mathlib.Omega.{arith}
use borrow.Author.Tests.{leb-true}
use lib.Dec.{leb, ltb, eqb}
use Rattle.terms.specs.Lists.{every}
use Rattle.terms.specs.Reply.{Reply, Row, row, accepted, refused, first_row, on_accept, refused_or13}
use Rattle.terms.proofs.Rows.{and_left, and_right}
use Rattle.terms.proofs.Sets.{lowest_le}
use Rattle.geometry.proofs.States.{state_bounds}
use Rattle.geometry.specs.Limits.{beyond_state}
use Rattle.geometry.specs.declared.State.{State}
use Rattle.parity.specs.Parity.{parity_byte, wrong_byte, wrong_stripe, disagreement}
use Rattle.parity.specs.Scan.{nothing_held, idle_scan_refusal, idle_scan_reply}

-- a table gives no number above those of its rows
pub first_row_le : (k : ℕ) (rows : List Row) → every (λ r. leb r.gives k) rows ≡ true → first_row rows ≤ k
unfolding first_row every
first_row_le k [] e = omega arith
first_row_le k (r ∷ rows) e =
    go r.test (leb-true r.gives k (and_left (leb r.gives k) (every (λ r. leb r.gives k) rows) e))
    (first_row_le k rows (and_right (leb r.gives k) (every (λ r. leb r.gives k) rows) e))
  where
    go : (b : Bool) → r.gives ≤ k → first_row rows ≤ k → cond b r.gives (first_row rows) ≤ k
    go true p q = p
    go false p q = q

-- a stripe or byte that is found is at most the number of them
pub wrong_stripe_le : (N S B : ℕ) (image : List ℕ) (pass : ℕ → Bool) → wrong_stripe N S B image pass ≤ S
unfolding wrong_stripe
wrong_stripe_le N S B image pass = lowest_le S (λ s. not (pass s) && ltb (wrong_byte N S B image s) B)

pub wrong_byte_le : (N S B : ℕ) (image : List ℕ) (s : ℕ) → wrong_byte N S B image s ≤ B
unfolding wrong_byte
wrong_byte_le N S B image s = lowest_le B (λ b. not (eqb (parity_byte N S B image s b) 0))

-- a reply with small values
pub record Small (r : Reply) : Type 0 where
  pub number : r.number ≤ 13
  pub first : r.first ≤ 1024
  pub second : r.second ≤ 512

-- 13's stripe and byte, of an array within its limits
pub disagreement_small : (N S B : ℕ) (image : List ℕ) (pass : ℕ → Bool) → S ≤ 1024 → B ≤ 512 → Small (disagreement N S B image pass)
unfolding disagreement
disagreement_small N S B image pass s b =
    record {
      number = omega arith;
      first = omega (arith, wrong_stripe_le N S B image pass);
      second = omega (arith, wrong_byte_le N S B image (wrong_stripe N S B image pass));
    }

-- a scan's reply, by a table whose first row is refusal 1 and the values of 13
pub scan_small : (b : Bool) (rows : List Row) (d : Reply) → every (λ r. leb r.gives 13) rows ≡ true → (b ≡ false → Small d)
    → Small (on_accept (first_row (row b 1 ∷ rows)) (accepted 0 0) (refused_or13 (first_row (row b 1 ∷ rows)) d))
unfolding first_row
scan_small true rows d e s = record { number = omega arith; first = omega arith; second = omega arith }
scan_small false rows d e s = go (eqb (first_row rows) 0) (eqb (first_row rows) 13)
  where
    go : (a c : Bool) → Small (cond a (accepted 0 0) (cond c d (refused (first_row rows))))
    go true c = record { number = omega arith; first = omega arith; second = omega arith }
    go false true = s refl
    go false false = record { number = first_row_le 13 rows e; first = omega arith; second = omega arith }

pub idle_small : (st : State) (image : List ℕ) → Small (idle_scan_reply st image)
unfolding idle_scan_reply idle_scan_refusal every
idle_small st image =
    scan_small (beyond_state st) _ _ refl
    (λ e.
    let limits = state_bounds st e in
    disagreement_small st.cards st.stripes st.block image nothing_held limits.stripes_high limits.block_high)
