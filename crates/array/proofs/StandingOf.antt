-- What a record's step stands on, of the code's own value and of what it is lent.
-- Assumes nothing.
use mathlib.Core.List.{List}
use mathlib.Core.Path.{sym}
use Prim.Native.Nat.{ℕ}
use Rattle.array.specs.Premises.{Lengths, Standing}
use Rattle.array.specs.declared.performs.Standing as code
use Rattle.array.proofs.Accepted.{legal_state_law}

pub standing_of : (s : code.Standing) (work image : List ℕ) → Lengths s.row.of.state work image → Standing s.row.of.state work image s.row.number s.r
standing_of s work image l =
    record {
      limits = legal_state_law s.row.of.state s.row.of.limits;
      work_right = l.work_right;
      image_right = l.image_right;
      record_below = s.row.below;
      stripe_below = s.stripe_below;
      x_below = λ e. rw (sym s.x_is) (s.x_below e);
    }
