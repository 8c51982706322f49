-- What open answers, as the code meets its tests: refusals 1 and 2, and with none out the look at all stripes.
-- Assumes nothing.
use Prim.Native.Nat.{ℕ}
use mathlib.Core.Bool.{Bool, true, false, cond, not, ◌&&◌, ◌||◌}
use mathlib.Core.List.{List, [], ◌∷◌}
use mathlib.Core.Path.{◌≡◌, refl, sym, ap, ◌∙◌}
use native.Mathlib.Omega.{arith}
use lib.Dec.{eqb}
use lib.ListN.{replicate}
use borrow.Author.Tests.{eq-eqb, ne_eqb}
use Rattle.std.specs.Prelude.{Ok, Err}
use Rattle.terms.specs.Lists.{among}
use Rattle.terms.proofs.Answers.{number_not_0}
use Rattle.terms.proofs.Rows.{or_false_left, true≢false}
use Rattle.terms.specs.Reply.{Reply, row, first_row, accepted, refusal_reply}
use Rattle.terms.specs.declared.refusal.Refusal.{Refusal}
use Rattle.terms.specs.declared.refusal.Refusal.TheVariants as refusal
use Rattle.geometry.proofs.States.{still_beyond}
use Rattle.geometry.specs.Limits.{none, beyond, beyond_state}
use Rattle.geometry.specs.Store.{image_wrong, work_wrong}
use Rattle.geometry.specs.declared.Geometry.{Geometry}
use Rattle.geometry.specs.declared.State.{State}
use Rattle.parity.specs.Parity.{right_parity, disagreement}
use Rattle.parity.specs.Scan.{look_reply, idle_scan_reply, idle_scan_refusal, nothing_held}
use Rattle.parity.proofs.Replies.{last_row, idle_all}
use Rattle.array.specs.Lent.{table_wrong}
use Rattle.array.specs.Opening.{opening_by}
use Rattle.array.specs.Outcomes.{OpeningIs, opened_state}
use Rattle.array.specs.Refusals.{opened, open_refusal}

module _ (g : Geometry) (out : ℕ) (len : ℕ) (work image : List ℕ) where
  abbrev st : State
  st = opened g out

  abbrev number : ℕ
  number = open_refusal g out len work image

  abbrev wrong : Bool
  wrong = image_wrong st image || table_wrong st len || work_wrong st work

  -- an array that is opened has no fill under way, so that its geometry and the card out decide
  opened_beyond : beyond_state st ≡ beyond g out
  unfolding opened
  opened_beyond = still_beyond (opened g out) refl

  open_beyond : beyond_state st ≡ true → OpeningIs (opening_by g out len work image) (Err refusal.BeyondLimits)
  unfolding opening_by opened_state open_refusal first_row
  open_beyond e = let b : beyond g out ≡ true = sym opened_beyond ∙ e in record { reply = rw b; state = rw b }

  module _ (b : beyond_state st ≡ false) where
    inside : beyond g out ≡ false
    inside = sym opened_beyond ∙ b

    open_lengths : wrong ≡ true → OpeningIs (opening_by g out len work image) (Err refusal.WrongLength)
    unfolding opening_by opened_state open_refusal first_row
    open_lengths w = record { reply = simp (inside, w); state = simp (inside, w) }

    module _ (w : wrong ≡ false) where
      image_is : image_wrong st image ≡ false
      image_is = or_false_left (image_wrong st image) (table_wrong st len) (or_false_left (image_wrong st image || table_wrong st len) (work_wrong st work) w)

      abbrev right : Bool
      right = right_parity g.cards g.stripes g.block image nothing_held

      last : number ≡ first_row (row (eqb out none && not right) 13 ∷ [])
      unfolding open_refusal first_row
      last = simp (inside, w)

      accepts : number ≡ 0 → OpeningIs (opening_by g out len work image) (Ok (opened g out))
      unfolding opening_by opened_state
      accepts e = record { reply = rw e; state = rw e }

      -- a card is out: parity is not asked
      open_out : ¬ (out ≡ none) → OpeningIs (opening_by g out len work image) (Ok (opened g out))
      unfolding first_row
      open_out h = accepts (last ∙ simp (ne_eqb out none h))

      module _ (o : out ≡ none) where
        -- what the look at all stripes replies
        look_says : look_reply st image (among (replicate 8 1024)) ≡ cond right (accepted 0 0) (disagreement g.cards g.stripes g.block image nothing_held)
        unfolding idle_scan_reply idle_scan_refusal opened first_row
        look_says =
            idle_all st image b image_is refl o
            ∙ simp (b, image_is, eq-eqb out none o)
            (sym (last_row right (disagreement g.cards g.stripes g.block image nothing_held)))

        open_right : accepted 0 0 ≡ look_reply st image (among (replicate 8 1024)) → OpeningIs (opening_by g out len work image) (Ok (opened g out))
        unfolding disagreement first_row
        open_right e = go right refl (e ∙ look_says)
          where
            go : (p : Bool) → right ≡ p → accepted 0 0 ≡ cond p (accepted 0 0) (disagreement g.cards g.stripes g.block image nothing_held)
                → OpeningIs (opening_by g out len work image) (Ok (opened g out))
            go true h q = accepts (last ∙ simp (eq-eqb out none o, h))
            go false h q = absurd (let z : ◌≡◌ {A = ℕ} 0 13 = ap (λ (r : Reply). r.number) q in omega arith)

        open_wrong : (r : Refusal) → refusal_reply r ≡ look_reply st image (among (replicate 8 1024)) → OpeningIs (opening_by g out len work image) (Err r)
        unfolding opening_by opened_state first_row
        open_wrong r e = go right refl (e ∙ look_says)
          where
            go : (p : Bool) → right ≡ p → refusal_reply r ≡ cond p (accepted 0 0) (disagreement g.cards g.stripes g.block image nothing_held)
                → OpeningIs (opening_by g out len work image) (Err r)
            go true h q = absurd (true≢false (sym (ap (λ (p : Reply). eqb p.number 0) q) ∙ number_not_0 r))
            go false h q =
                let thirteen : number ≡ 13 = last ∙ simp (eq-eqb out none o, h) in record { reply = rw thirteen q; state = rw thirteen }

-- of the state that the code makes, which is the opened one
module _ (g : Geometry) (out : ℕ) (len : ℕ) (work image : List ℕ) (made : State) (is : made ≡ opened g out) where
  pub told_beyond : beyond_state made ≡ true → OpeningIs (opening_by g out len work image) (Err refusal.BeyondLimits)
  told_beyond e = open_beyond g out len work image (rw is at e)

  module _ (b : beyond_state made ≡ false) where
    pub told_lengths : (image_wrong made image || table_wrong made len || work_wrong made work) ≡ true
        → OpeningIs (opening_by g out len work image) (Err refusal.WrongLength)
    told_lengths w = open_lengths g out len work image (rw is at b) (rw is at w)

    module _ (w : (image_wrong made image || table_wrong made len || work_wrong made work) ≡ false) where
      pub told_out : ¬ (out ≡ none) → OpeningIs (opening_by g out len work image) (Ok made)
      told_out h = rw is (open_out g out len work image (rw is at b) (rw is at w) h)

      pub told_right : out ≡ none → accepted 0 0 ≡ look_reply made image (among (replicate 8 1024)) → OpeningIs (opening_by g out len work image) (Ok made)
      told_right o e = rw is (open_right g out len work image (rw is at b) (rw is at w) o (rw is at e))

      pub told_wrong : out ≡ none → (r : Refusal) → refusal_reply r ≡ look_reply made image (among (replicate 8 1024))
          → OpeningIs (opening_by g out len work image) (Err r)
      told_wrong o r e = open_wrong g out len work image (rw is at b) (rw is at w) o r (rw is at e)

pub ruleset open_tests = (told_beyond, told_lengths, told_out, told_right, told_wrong)
