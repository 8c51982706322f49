-- `array::places::Row::sum_blocks` meets its contract: the two loops add up the sum, which is carried to its place.
-- Assumes nothing.
use Prim.Native.Nat.{ℕ, ◌+◌, ◌-◌, ◌*◌, ◌≤◌}
use mathlib.Core.List.{List}
use mathlib.Core.Path.{◌≡◌, ap, ap₂, ◌∙◌}
use native.Mathlib.Omega.{arith}
use Rattle.block.specs.Blocks.{carried, summed, zeros}
use Rattle.geometry.proofs.Apart.{read_inside, write_inside}
use Rattle.geometry.proofs.Asked.{BoundsOf}
use Rattle.geometry.proofs.States.{state_bounds}
use Rattle.array.specs.Sums.{taken_if, block_sum}
use Rattle.array.proofs.Performed.{read_row, write_row}
use Rattle.array.proofs.places.Row.sum_blocks.Goals as goal

-- a row of blocks has room where its last has
row_room : (N B first at bytes : ℕ) → 1 ≤ N → first + (N - 1) * B ≡ at → at + B ≤ bytes → first + N * B ≤ bytes
row_room N B first at bytes h e r =
    let n : N ≡ N - 1 + 1 = omega arith in
    let m : (N - 1 + 1) * B ≡ (N - 1) * B + B = omega arith in
    let q : N * B ≡ (N - 1) * B + B = ap (λ (k : ℕ). k * B) n ∙ m in
    omega (arith, e, q, r)

pub add_taken-requires : goal.add_taken-requires
add_taken-requires c =
    let row = c.args.self in
    let st = row.of.state in
    let bounds : BoundsOf c.args.self.of.state = state_bounds c.args.self.of.state c.args.self.of.limits in (
      omega (arith, bounds),
      rw (c.read_at-read.ensures, c.requires)
          (row_room st.cards st.block _ _ _ (omega (arith, bounds)) (read_row st.cards st.block row.number (st.cards - 1)) (read_inside st.cards st.block st.records row.number (st.cards - 1) row.below (omega (arith, bounds)))),
    )

pub add_taken-requires-2 : goal.add_taken-requires-2
add_taken-requires-2 c =
    let row = c.args.self in
    let st = row.of.state in
    let bounds : BoundsOf c.args.self.of.state = state_bounds c.args.self.of.state c.args.self.of.limits in (
      omega (arith, bounds),
      rw (c.write_at-new.ensures, c.requires)
          (row_room st.cards st.block _ _ _ (omega (arith, bounds)) (write_row st.cards st.block row.number (st.cards - 1)) (write_inside st.cards st.block st.records row.number (st.cards - 1) row.below (omega (arith, bounds)))),
    )

pub returns : goal.returns
unfolding block_sum
returns c =
    let a = c.args in
    let N = a.self.of.state.cards in
    let B = a.self.of.state.block in
    let work = a.work.now in
    c.carry.ensures
    ∙ ap (λ (s : List ℕ). carried work a.at s 0 B)
    (c.add_taken-2.ensures
    ∙ ap₂ (λ (f : ℕ) (s : List ℕ). summed N (taken_if a.news f B work) s) c.write_at-new.ensures
    (c.add_taken.ensures ∙ ap (λ (f : ℕ). summed N (taken_if a.reads f B work) (zeros 512)) c.read_at-read.ensures))
