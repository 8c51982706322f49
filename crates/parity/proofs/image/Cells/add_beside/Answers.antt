-- `Cells::add_beside` meets its contract. The outer loop's invariant: the first i bytes of the sum have the cards' blocks added, the others are as they
-- were, and `any` is zero exactly when those first i are. The inner one's: the byte has the first cards' added.
-- Assumes nothing.
use Prim.Native.Nat.{ℕ, ◌<◌}
use mathlib.Core.List.{List}
use mathlib.Core.Path.{◌≡◌, refl, sym, ap, ◌∙◌}
use native.Mathlib.Omega.{arith}
use lib.Bits.{bit_or}
use lib.Dec.{eqb}
use lib.ListN.{length, length-set}
use Rattle.block.specs.Blocks.{summed, all_zero}
use Rattle.block.proofs.Blocks.{xored, xored_none, xored_next, xored_cong, get_d_summed_in_order}
use Rattle.block.proofs.Filled.{filled, filled_none, filled_next, filled_store}
use Rattle.block.proofs.Zeros.{zeros_none, zeros_more}
use Rattle.parity.specs.Fitting.{beside}
use Rattle.parity.specs.Parity.{cell}
use Rattle.parity.proofs.Inside.{length_cell, long}
use Rattle.parity.proofs.Restored.{beside_card}
use Rattle.parity.proofs.Sums.{byte_of, filled_sum}
use Rattle.parity.proofs.image.Cells.add_beside.Invariants.{blocks}
use Rattle.parity.proofs.image.Cells.add_beside.Goals as goal

pub loop-i-init : goal.loop-i-init
loop-i-init g c =
    let f : ℕ → List ℕ = blocks c.args.self c.args.stripe c.args.but in
    let sum = c.args.sum.now in
    (filled_none (byte_of g.row.N f sum) sum, refl, sym (zeros_none (summed g.row.N f sum)))

pub loop-k-init : goal.loop-k-init
loop-k-init g c = xored_none (blocks c.args.self c.args.stripe c.args.but) c.loop-i.sum c.loop-i.i

pub cell-requires : goal.cell-requires
cell-requires g c =
    let below : beside c.args.but c.loop-k.k < c.args.self.cards = beside_card c.args.but c.loop-k.k g.row.N c.args.self.cards c.loop-k-test.true c.requires.1 c.requires.2 in
    (c.requires.0, omega (arith, c.beside.ensures))

pub bounds-cell-i : goal.bounds-cell-i
bounds-cell-i g c =
    let below : beside c.args.but c.loop-k.k < c.args.self.cards = beside_card c.args.but c.loop-k.k g.row.N c.args.self.cards c.loop-k-test.true c.requires.1 c.requires.2 in
    let whole : length c.cell.result.now ≡ c.args.self.size =
    long c.args.self.fitting c.args.stripe c.beside.result c.requires.0 (omega (arith, c.beside.ensures)) c.cell.ensures in
    omega arith

pub loop-k-preserved : goal.loop-k-preserved
loop-k-preserved g c =
    xored_next c.loop-k.k (blocks c.args.self c.args.stripe c.args.but) c.loop-i.sum c.loop-i.i
    (c.cell.ensures ∙ ap (cell c.args.self.stripes c.args.self.size c.args.self.image.now c.args.stripe) c.beside.ensures) c.loop-k.invariant

pub loop-i-preserved : goal.loop-i-preserved
loop-i-preserved g c =
    let f : ℕ → List ℕ = blocks c.args.self c.args.stripe c.args.but in
    let n : ℕ = g.row.N in
    let at = c.loop-i in
    let byte = c.loop-k.byte in
    let sum = c.args.sum.now in
    let inside : at.i < length sum = omega (arith, c.args.self.fitting.block) in
    let all : c.loop-k.k ≡ n = omega arith in
    let is : byte ≡ byte_of n f sum at.i =
    c.loop-k.invariant ∙ ap (λ (k : ℕ). xored k f at.sum at.i) all
    ∙ xored_cong n f at.sum sum at.i (filled_next (byte_of n f sum) sum at.sum at.i at.invariant.0 inside)
    ∙ sym (get_d_summed_in_order n f sum at.i inside) in (
      filled_store (byte_of n f sum) sum at.sum at.i byte at.invariant.0 inside is,
      length-set at.sum at.i byte ∙ at.invariant.1,
      ap (λ (x : ℕ). eqb (bit_or at.any x) 0) is ∙ zeros_more (summed n f sum) at.i at.any at.invariant.2,
    )

pub returns : goal.returns
returns g c =
    let f : ℕ → List ℕ = blocks c.args.self c.args.stripe c.args.but in
    let n : ℕ = g.row.N in
    let at = c.loop-i in
    let sum = c.args.sum.now in
    let size = c.args.self.size in
    let done : at.i ≡ size = omega arith in
    let whole : at.sum ≡ summed n f sum =
    at.invariant.0 ∙ ap (λ (k : ℕ). filled (byte_of n f sum) k sum) done
    ∙ filled_sum n f sum size (λ k l. length_cell c.args.self.fitting c.args.stripe (beside c.args.but k) c.requires.0 (beside_card c.args.but k n c.args.self.cards l c.requires.1 c.requires.2)) in (
      whole,
      at.invariant.2 ∙ ap (λ (k : ℕ). all_zero k (summed n f sum)) done ∙ ap (all_zero size) (sym whole),
    )
