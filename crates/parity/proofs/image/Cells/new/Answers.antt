-- `Cells::new` meets its contract: refusals 1 and 2, and what has passed them.
-- Assumes nothing.
use mathlib.Core.Bool.{true, false}
use mathlib.Core.List.{List}
use mathlib.Core.Path.{◌≡◌, sym, ◌∙◌}
use Prim.Native.Nat.{ℕ}
use Rattle.std.specs.Prelude.{Option, Some, None, MatchOption, IfOk, IfErr}
use Rattle.std.specs.Option.{ok_or}
use Rattle.terms.specs.Reply.{refused, refusal_reply}
use Rattle.terms.specs.declared.refusal.Refusal.TheVariants.{WrongLength}
use Rattle.geometry.specs.Limits.{beyond_state}
use Rattle.geometry.specs.Store.{image_wrong}
use Rattle.geometry.specs.declared.State.{State}
use Rattle.parity.specs.Fitting.{LiesIn, image_refusal}
use Rattle.parity.specs.declared.image.Cells.{Cells}
use Rattle.parity.proofs.Inside.{legal_within}
use Rattle.parity.proofs.Replies.{image_beyond, image_length}
use Rattle.parity.proofs.image.Cells.new.Goals as goal

pub returns-then-beyond-clause-err : goal.returns-then-beyond-clause-err
returns-then-beyond-clause-err c = image_beyond c.args.state c.args.image.now (sym c.beyond.ensures ∙ c.if-beyond.true)

pub whole-requires : goal.whole-requires
whole-requires c = legal_within c.args.state (sym c.beyond.ensures ∙ c.if-beyond.false)

module _ (st : State) (image : List ℕ) (inside : beyond_state st ≡ false) where
  -- what the cells are of
  abbrev Lies : Cells → Type 0
  Lies cells = LiesIn st image cells.cards cells.stripes cells.size cells.image.now

  -- the image is of the right length, or refused by 2
  passed : (o : Option Cells) → MatchOption o (image_wrong st image ≡ true) (λ c. (image_wrong st image ≡ false) × Lies c)
      → IfOk (ok_or o WrongLength) (λ c. (beyond_state st ≡ false) × (image_wrong st image ≡ false) × Lies c)
      × IfErr (ok_or o WrongLength) (λ r. refusal_reply r ≡ refused (image_refusal st image))
  passed None m = (tt, image_length st image inside m)
  passed (Some c) m = ((inside, m.0, m.1), tt)

pub returns-clause-ok : goal.returns-clause-ok
returns-clause-ok c =
    rw c.ok_or.ensures.value (passed c.args.state c.args.image.now (sym c.beyond.ensures ∙ c.if-beyond.false) c.whole.result c.whole.ensures).0

pub returns-clause-err : goal.returns-clause-err
returns-clause-err c =
    rw c.ok_or.ensures.value (passed c.args.state c.args.image.now (sym c.beyond.ensures ∙ c.if-beyond.false) c.whole.result c.whole.ensures).1
