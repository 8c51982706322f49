-- Laws of missing blocks: how `out_in` follows from the state's marks, and that where it names no card none is missing. What stands above asks these laws,
-- and does not look into the definition.
-- Assumes nothing.
use Prim.Native.Nat.{ℕ, ◌≤◌, ◌<◌}
use mathlib.Core.Bool.{true, false}
use mathlib.Core.Logic.{◌⊎◌}
use mathlib.Core.Path.{◌≡◌, sym, ◌∙◌}
use native.Mathlib.Omega.{arith}
use Rattle.std.proofs.lemmas.Bool.Decides.{nat_tests}
use Rattle.geometry.specs.Fill.{moved_on}
use Rattle.geometry.specs.Limits.{none, no_fill, under_way, beyond_state}
use Rattle.geometry.specs.Placement.{Missing, filled, out_in}
use Rattle.geometry.specs.Report.{with_lost, with_fill}
use Rattle.geometry.specs.declared.State.{State}
use Rattle.geometry.proofs.States.{state_out, state_filling}

-- it names the card that is out, or none
pub out_either : (st : State) (s : ℕ) → (out_in st s ≡ st.out) ⊎ (out_in st s ≡ none)
unfolding out_in
out_either st s = grind (arith, nat_tests)

-- none in a stripe below the fill place
pub out_filled : (st : State) (s : ℕ) → under_way st ≡ true → s < st.fill → out_in st s ≡ none
unfolding out_in filled
out_filled st s way l = grind (arith, nat_tests)

-- and the card that is out in the others, and in all where no fill is under way
pub out_unfilled : (st : State) (s : ℕ) → st.fill ≤ s → out_in st s ≡ st.out
unfolding out_in filled
out_unfilled st s l = grind (arith, nat_tests)

pub out_still : (st : State) (s : ℕ) → st.fill ≡ no_fill → out_in st s ≡ st.out
unfolding out_in filled
out_still st s e = grind (arith, nat_tests)

pub filled_none : (st : State) (s : ℕ) → filled st s ≡ true → out_in st s ≡ none
unfolding out_in
filled_none st s e = grind (arith, nat_tests)

-- of a state within its limits it names a card, or none
pub out_legal : (st : State) → beyond_state st ≡ false → (s : ℕ) → (out_in st s < st.cards) ⊎ (out_in st s ≡ none)
out_legal st within s = let o = state_out st within in let e = out_either st s in grind (arith, nat_tests)

-- with no card out it names none, and the mark of a lost array leaves it
pub out_none : (st : State) (s : ℕ) → st.out ≡ none → out_in st s ≡ none
unfolding out_in
out_none st s e = grind (arith, nat_tests)

pub out_lost : (st : State) (s : ℕ) → out_in (with_lost st) s ≡ out_in st s
unfolding out_in filled
out_lost st s = grind (arith, nat_tests)

-- a fresh card that dies ends its fill: in every stripe the missing card stays, or was none
pub out_ended : (st : State) (s : ℕ) → (out_in (with_fill st no_fill) s ≡ out_in st s) ⊎ (out_in st s ≡ none)
unfolding out_in filled
out_ended st s = grind (arith, nat_tests)

-- and so a block that was missing is missing still
pub missing_ended : (st : State) → st.cards ≤ none → (c s : ℕ) → Missing st c s → Missing (with_fill st no_fill) c s
missing_ended st high c s m =
    let e = out_ended st s in
    record { is_card = m.is_card; is_out = grind (arith, nat_tests) }

-- the start of a fill leaves it
pub out_started : (st : State) (s : ℕ) → st.fill ≡ no_fill → out_in (with_fill st 0) s ≡ out_in st s
unfolding out_in filled
out_started st s e = grind (arith, nat_tests)

-- moving on leaves it in every stripe but the one at the fill place, where it then names none
module _ (st : State) (way : under_way st ≡ true) (below : st.fill < st.stripes) (high : st.stripes ≤ 1024) where
  pub out_moved : (s : ℕ) → s < st.stripes → ¬ (s ≡ st.fill) → out_in (moved_on st) s ≡ out_in st s
  unfolding moved_on out_in filled
  out_moved s l d = grind (arith, nat_tests)

  pub out_moved_here : out_in (moved_on st) st.fill ≡ none
  unfolding moved_on out_in filled
  out_moved_here = grind (arith, nat_tests)

-- the block at the fill place is missing
pub fill_missing : (st : State) → beyond_state st ≡ false → under_way st ≡ true → Missing st st.out st.fill
unfolding out_in filled
fill_missing st within way =
    let o = state_out st within in
    let f = state_filling st within way in
    grind (arith, nat_tests)

-- where it is no card's number no block is missing
pub none_missing : (st : State) (c s : ℕ) → st.cards ≤ out_in st s → ¬ Missing st c s
none_missing st c s l m = grind arith

-- a block is missing or not
pub missing_dec : (st : State) (c s : ℕ) → Dec (Missing st c s)
missing_dec st c s = grind arith

-- a stripe misses at most one
pub missing_one : {st : State} {c d s : ℕ} → Missing st c s → Missing st d s → c ≡ d
missing_one m k = m.is_out ∙ sym k.is_out
