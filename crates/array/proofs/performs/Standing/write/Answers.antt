-- `array::performs::Standing::write` meets its contract: the block to write, a part of the work store, is carried to a part of the image.
-- Assumes nothing.
use Rattle.array.proofs.Performed.{card_below, performed_write}
use Rattle.array.proofs.StandingOf.{standing_of}
use Rattle.array.proofs.performs.Standing.write.Goals as goal

pub cell_at-at-requires : goal.cell_at-at-requires
cell_at-at-requires c =
    (card_below c.args.self.row.of.state c.args.self.row.number c.args.self.r c.args.work.now c.args.image.now (standing_of c.args.self c.args.work.now c.args.image.now c.requires.0) c.args.p _ c.requires.1 c.card.ensures, c.args.self.stripe_below)

pub returns : goal.returns
returns c =
    performed_write c.args.self.row.of.state c.args.self.row.number c.args.self.r c.args.work.now c.args.image.now (standing_of c.args.self c.args.work.now c.args.image.now c.requires.0) c.args.p _ _ _ _ c.requires.1
    c.card.ensures c.cell_at-at.ensures c.write_at-from.ensures c.carry.ensures
