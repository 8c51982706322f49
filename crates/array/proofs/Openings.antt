-- Laws of opening over a table: its number, what an accepted one has passed and makes, and that a refused one frees nothing.
-- Assumes nothing.
use Prim.Native.Nat.{ℕ}
use mathlib.Core.Bool.{Bool, false, not, ◌&&◌, ◌||◌}
use mathlib.Core.List.{List, [], ◌∷◌}
use mathlib.Core.Path.{◌≡◌, refl, sym, ◌∙◌}
use borrow.Author.Tests.{eq-eqb, ne_eqb}
use lib.Dec.{eqb}
use lib.ListN.{length, replicate}
use Rattle.terms.specs.Lists.{every}
use Rattle.terms.specs.Reply.{accepted, row}
use Rattle.terms.proofs.Refusals.{Failed, giving, zero_failed}
use Rattle.terms.proofs.Rows.{or_false_left, or_false_right}
use Rattle.geometry.proofs.Lengths.{image_length, work_length}
use Rattle.geometry.specs.Limits.{none, beyond}
use Rattle.geometry.specs.Store.{image_wrong, work_wrong, image_size, work_size}
use Rattle.geometry.specs.declared.Geometry.{Geometry}
use Rattle.geometry.specs.declared.State.{State}
use Rattle.parity.specs.Parity.{right_parity, disagreement}
use Rattle.parity.specs.Scan.{nothing_held}
use Rattle.record.specs.Life.{free}
use Rattle.record.specs.declared.Record.{Record}
use Rattle.array.specs.Lent.{table_wrong}
use Rattle.array.specs.Opening.{zero_state, opening_by, opening}
use Rattle.array.specs.Refusals.{opened, open_refusal}
use Rattle.array.proofs.Lent.{table_length}
use Rattle.array.proofs.Replies.{number_is_13}

module _ (g : Geometry) (out : ℕ) (table : List Record) (work image : List ℕ) where
  abbrev st : State
  st = opened g out

  -- the number by which it is refused, 0 where it is accepted
  abbrev pub open_number : ℕ
  open_number = open_refusal g out (length table) work image

  pub open_number_law : (opening g out table work image).reply.number ≡ open_number
  unfolding opening opening_by disagreement
  open_number_law = number_is_13 open_number (accepted 0 0) (disagreement g.cards g.stripes g.block image nothing_held) refl refl

  abbrev wrong : Bool
  wrong = image_wrong st image || table_wrong st (length table) || work_wrong st work

  abbrev disagrees : Bool
  disagrees = eqb out none && not (right_parity g.cards g.stripes g.block image nothing_held)

  -- each test failed, as a fact
  pub record Opens : Type 0 where
    pub limits : beyond g out ≡ false
    pub image_right : length image ≡ image_size g.cards g.stripes g.block
    pub table_right : length table ≡ g.records
    pub work_right : length work ≡ work_size g.cards g.block g.records
    pub parity : disagrees ≡ false

  module _ (ok : open_number ≡ 0) where
    failed : Failed (row (beyond g out) 1 ∷ row wrong 2 ∷ row disagrees 13 ∷ [])
    unfolding open_refusal giving every
    failed = zero_failed _ refl ok

    pub open_passed : Opens
    unfolding Failed opened
    open_passed =
        let both : Bool = image_wrong st image || table_wrong st (length table) in
        let front = or_false_left both (work_wrong st work) failed.1.0 in
        record {
          limits = failed.0;
          image_right = image_length st image (or_false_left (image_wrong st image) (table_wrong st (length table)) front);
          table_right = table_length st (length table) (or_false_right (image_wrong st image) (table_wrong st (length table)) front);
          work_right = work_length st work (or_false_right both (work_wrong st work) failed.1.0);
          parity = failed.1.1.0;
        }

    pub open_accepted : opening g out table work image
        ≡ record { reply = accepted 0 0; state = opened g out; table = replicate (length table) free }
    unfolding opening opening_by
    open_accepted = rw (eq-eqb open_number 0 ok)

  -- the new state is all zero, and the table stays
  pub open_refused : ¬ (open_number ≡ 0)
      → ((opening g out table work image).state ≡ zero_state) × ((opening g out table work image).table ≡ table)
  unfolding opening opening_by
  open_refused d = (rw (ne_eqb open_number 0 d), rw (ne_eqb _ 0 (λ e. d (sym open_number_law ∙ e))))
