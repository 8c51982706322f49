-- `array::performs::Standing::read` meets its contract: the card's block, a middle part of the image, is copied to a middle part of the work store.
-- Assumes nothing.
use Prim.Native.Nat.{◌+◌, ◌≤◌}
use native.Mathlib.Omega.{arith}
use lib.ListN.{length}
use Rattle.array.proofs.Performed.{card_below, read_room, performed_read}
use Rattle.array.proofs.StandingOf.{standing_of}
use borrow.Author.Rules.{rules}
use Rattle.array.proofs.performs.Standing.read.Goals as goal

pub overflow_add-end : goal.overflow_add-end
overflow_add-end c =
    let room : let a = c.args in c.read_at-at.result + a.self.row.of.state.block ≤ length a.work.now = read_room c.args.self.row.of.state c.args.self.row.number c.args.self.r c.args.work.now c.args.image.now (standing_of c.args.self c.args.work.now c.args.image.now c.requires.0) c.args.p _ c.requires.1 c.read_at-at.ensures in
    let h = room in search rules

pub slice_bounds-copy-end : goal.slice_bounds-copy-end
slice_bounds-copy-end c =
    omega (arith, read_room c.args.self.row.of.state c.args.self.row.number c.args.self.r c.args.work.now c.args.image.now (standing_of c.args.self c.args.work.now c.args.image.now c.requires.0) c.args.p _ c.requires.1 c.read_at-at.ensures)

pub cell-requires : goal.cell-requires
cell-requires c =
    (card_below c.args.self.row.of.state c.args.self.row.number c.args.self.r c.args.work.now c.args.image.now (standing_of c.args.self c.args.work.now c.args.image.now c.requires.0) c.args.p _ c.requires.1 c.card.ensures, c.args.self.stripe_below, c.requires.0.image_right)

pub returns : goal.returns
returns c =
    performed_read c.args.self.row.of.state c.args.self.row.number c.args.self.r c.args.work.now c.args.image.now (standing_of c.args.self c.args.work.now c.args.image.now c.requires.0) c.args.p _ _ _ _ c.requires.1
    c.card.ensures c.read_at-at.ensures c.cell.ensures c.copy.ensures
