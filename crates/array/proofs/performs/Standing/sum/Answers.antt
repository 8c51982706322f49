-- `array::performs::Standing::sum` meets its contract: the sum of the blocks is what the exclusive or leaves.
-- Assumes nothing.
use Prim.Native.Nat.{ℕ}
use mathlib.Core.Path.{ap₂, ◌∙◌}
use Rattle.block.specs.Blocks.{carried}
use Rattle.array.specs.Sums.{block_sum}
use Rattle.array.proofs.Performed.{news_are, performed_sum, sum_room}
use Rattle.array.proofs.StandingOf.{standing_of}
use Rattle.array.proofs.performs.Standing.sum.Goals as goal

pub returns : goal.returns
returns c =
    let a = c.args in
    let st = a.self.row.of.state in
    let at = c.sum_at-at in
    let news = news_are c.args.self.row.of.state c.args.self.row.number c.args.self.r c.args.work.now c.args.image.now (standing_of c.args.self c.args.work.now c.args.image.now c.requires) _ (rw c.units.ensures at c.taken_news-news.ensures) in
    performed_sum c.args.self.row.of.state c.args.self.row.number c.args.self.r c.args.work.now c.args.image.now (standing_of c.args.self c.args.work.now c.args.image.now c.requires) _ _ at.ensures (rw at.ensures (sum_room c.args.self.row.of.state c.args.self.row.number c.args.self.r c.args.work.now c.args.image.now (standing_of c.args.self c.args.work.now c.args.image.now c.requires)))
    (c.sum_blocks.ensures
    ∙ ap₂ (λ (old new : ℕ). carried a.work.now at.result (block_sum st a.self.row.number old new a.work.now) 0 st.block) a.self.reads_are news)
