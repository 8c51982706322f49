-- An accepted step whose card works: it is done. While a step is wanting the record works on; with the last one its stripe rests on the row
-- that the request leaves, and a read has the row's units.
-- Assumes nothing.
use Prim.Native.Nat.{ℕ, ◌*◌, ◌≤◌, ◌<◌}
use mathlib.Core.Bool.{Bool, true, false, cond, not}
use mathlib.Core.List.{List}
use mathlib.Core.Path.{◌≡◌, refl, sym, ◌∙◌, subst}
use native.Mathlib.Omega.{arith}
use borrow.Author.Tests.{eqb-true, lt-ltb}
use lib.ListN.{length, set}
use lib.Seq.{ext_get_or}
use Rattle.terms.specs.Lists.{part}
use Rattle.terms.specs.Sets.{bit}
use Rattle.terms.proofs.Lists.{length_part, get_d_part}
use Rattle.terms.proofs.Rows.{true≢false}
use Rattle.geometry.proofs.Apart.{read_inside}
use Rattle.geometry.proofs.Bounds.{bounds_legal}
use Rattle.geometry.specs.Placement.{block_of}
use Rattle.geometry.specs.Store.{read_at}
use Rattle.geometry.specs.declared.State.{State}
use Rattle.graph.specs.Order.{after, complete}
use Rattle.graph.specs.Steps.{Step, step_of, masked}
use Rattle.graph.specs.Sums.{sums_to_read}
use Rattle.record.specs.Life.{is_open, is_finished, is_write, units_of, chosen_at, missing_in, stepped}
use Rattle.record.specs.declared.Record.{Record}
use Rattle.array.proofs.Steppings.{Ready}
use Rattle.array.specs.Premises.{Standing}
use Rattle.array.proofs.Steps.{step_work_length, step_image_length, step_got_other, step_new_other, step_cell_other}
use Rattle.array.specs.Stepping.{meets_out, work_after, image_after}
use Rattle.stripe.proofs.Bytes.{bytes}
use Rattle.stripe.proofs.Heart.{numbers, heart}
use Rattle.stripe.specs.Blocks.{changed, renewed_by}
use Rattle.stripe.specs.Invariant.{Proper, Faithful}
use Rattle.stripe.specs.Request.{Request, advanced}
use Rattle.history.specs.Account.{Account, Entry, counted}
use Rattle.history.specs.Promise.{blocks_read}
use Rattle.history.specs.Row.{units_of_row}
use Rattle.history.specs.World.{World, record_at}
use Rattle.history.proofs.Gather.{gathered_cong}
use Rattle.history.proofs.Invariant.{Matches, Working, Resting, Sure, request_of, view_of}
use Rattle.history.proofs.Near.{faithful_near, two_below}
use Rattle.history.proofs.Places.{block_below}
use Rattle.history.proofs.Records.{stepped_fit, request_advanced}
use Rattle.history.proofs.Rows.{row_of, after_row, row_unit, after_elsewhere, after_size}
use Rattle.history.proofs.Step.{limits, fits, works, matches, no_other, is_ready, within, counted_matches, misses}
use Rattle.record.proofs.Clauses.{Fit, fit_sound}
use Rattle.history.proofs.Turn.{Turn, turned}
use Rattle.history.proofs.View.{done_near}

module _ (w : World) (a : Account) (sure : Sure w a) (i k : ℕ) (ok : Ready w.state w.table w.work w.image i k)
    (working : meets_out (missing_in w.state (record_at w i).stripe) (step_of (units_of w.state) k) ≡ false) where
  abbrev st : State
  st = w.state

  abbrev r : Record
  r = record_at w i

  abbrev e : Entry
  e = a.entry i

  abbrev n : ℕ
  n = units_of st

  abbrev x : ℕ
  x = missing_in st r.stripe

  abbrev step : Step
  step = step_of n k

  abbrev done : Record
  done = stepped st r k

  abbrev work' : List ℕ
  work' = work_after st i r step w.work w.image

  abbrev image' : List ℕ
  image' = image_after st i r step w.work w.image

  -- no step of the graph is wanting after this one
  abbrev last : Bool
  last = complete n r.graph r.mask (chosen_at st r) (after r.done k)

  some_card : 0 < st.cards
  some_card = omega (arith, (limits w a sure i k ok).cards_low)

  standing : Standing st w.work w.image i r
  standing =
      record {
        limits = bounds_legal _ _ _ _ (limits w a sure i k ok);
        image_right = sure.right.image_right;
        work_right = sure.right.work_right;
        record_below = ok.record_below;
        stripe_below = (fits w a sure i k ok).stripe_below;
        x_below = x_below;
      }
    where
      x_below : sums_to_read r.graph ≡ true → chosen_at st r < st.cards
      x_below two =
          let l : chosen_at st r ≤ n = two_below n x (request_of st r) (works w a sure i k ok).proper (two_is two) in
          omega (arith, some_card)
        where
          two_is : sums_to_read r.graph ≡ true → r.graph ≡ 2
          two_is f = eqb-true r.graph 2 (unfold sums_to_read in f)

  -- ---- the record's numbers and the stripe's bytes after the step

  proper : Proper n x (request_of st done)
  proper =
      subst (λ (q : Request). Proper n x q) (sym (request_advanced st r k))
      ((numbers n).stepped x (request_of st r) k (works w a sure i k ok).proper (is_ready w a sure i k ok))

  faithful : (b : ℕ) → b < st.block
      → Faithful bytes n x (request_of st done) (renewed_by step (works w a sure i k ok).renewed) (row_of st a.row r.stripe b) (row_of st (after_row st a.row e) r.stripe b)
      (view_of st work' image' i r.stripe b)
  unfolding stepped advanced
  faithful b hb =
      faithful_near bytes n x (request_of st done) _ _ _ _ _ (two_below n x (request_of st done) proper)
      (done_near st w.work w.image i r standing b hb x step (within w a sure i k ok))
      ((heart bytes n).stepped x (request_of st r) k _ _ _ _ (works w a sure i k ok).proper ((works w a sure i k ok).faithful b hb)
      (is_ready w a sure i k ok) (misses x step working))

  sound_done : Fit st done
  sound_done = stepped_fit st r k x sure.right.limits ok.record_open (fits w a sure i k ok) proper

  matches_done : (t : Bool) → last ≡ t → Matches st done (counted st a.row e t)
  unfolding stepped
  matches_done t f = counted_matches w a sure i k ok done t (rw f) refl refl refl refl

  -- ---- while a step is wanting the record works on

  works_on : Working st work' image' a.row (counted st a.row e false) i done
  unfolding stepped counted after_row
  works_on = record { proper = proper; renewed = renewed_by step (works w a sure i k ok).renewed; faithful = faithful }

  -- ---- with the last one its stripe rests, and a read has its units

  module _ (complete_now : last ≡ true) where
    rests : Resting st image' (after_row st a.row e) r.stripe
    unfolding stepped
    rests b hb = (heart bytes n).ended x (request_of st done) _ _ _ _ proper (faithful b hb) complete_now

    -- a read's block of unit u is the row's
    unit_read : is_write done ≡ false → (u : ℕ) → u < n → bit u r.mask ≡ true
        → part (read_at st.cards st.block i u) st.block work' ≡ a.row (block_of st.cards r.stripe u)
    unfolding stepped masked
    unit_read reading u hu m =
        ext_get_or 0 _ _ (long ∙ sym short)
        (λ b h.
        let hb : b < st.block = omega (arith, long) in
        get_d_part (read_at st.cards st.block i u) st.block work' b 0 hb
        ∙ (heart bytes n).ended_read x (request_of st done) _ _ _ _ proper (faithful b hb) complete_now reading u (rw (lt-ltb u n hu) m)
        ∙ row_unit st a.row r.stripe b u hu)
      where
        long : length (part (read_at st.cards st.block i u) st.block work') ≡ st.block
        long =
            length_part (read_at st.cards st.block i u) st.block work'
            (omega (
              arith,
              sure.right.work_right,
              step_work_length st w.work w.image i r standing step (within w a sure i k ok),
              read_inside st.cards st.block st.records i u ok.record_below (omega arith),
            ))

        short : length (a.row (block_of st.cards r.stripe u)) ≡ st.block
        short = sure.row_size (block_of st.cards r.stripe u) (block_below st.cards r.stripe u hu st.stripes standing.stripe_below)

    units_read : is_write done ≡ false → blocks_read st work' i done.mask ≡ (counted st a.row e true).due
    unfolding stepped counted blocks_read units_of_row
    units_read reading =
        rw (sym (matches w a sure i k ok).agree.same_kind ∙ reading, ← (matches w a sure i k ok).agree.same_mask, ← (matches w a sure i k ok).agree.same_stripe)
        (gathered_cong r.mask n _ _ (unit_read reading))

  -- ---- the turn, the last one or not

  -- open while a step is wanting, and finished after the last
  open_is : (t : Bool) → last ≡ t → is_open done ≡ not t
  unfolding stepped
  open_is true f = rw f
  open_is false f = rw f

  finished_is : (t : Bool) → last ≡ t → is_finished done ≡ t
  unfolding stepped
  finished_is true f = rw f
  finished_is false f = rw f

  -- the last step leaves the request's row
  abbrev row_now : Bool → ℕ → List ℕ
  row_now t = cond t (after_row st a.row e) a.row

  row_others : (t : Bool) (s u : ℕ) → ¬ (r.stripe ≡ s) → u < n → row_now t (block_of st.cards s u) ≡ a.row (block_of st.cards s u)
  row_others true s u d l = after_elsewhere st a.row e s u (λ f. d ((matches w a sure i k ok).agree.same_stripe ∙ f)) l
  row_others false s u d l = refl

  row_size : (t : Bool) (L : ℕ) → L < n * st.stripes → length (row_now t L) ≡ st.block
  row_size true L h = after_size st a.row e (matches w a sure i k ok).paid L (sure.row_size L h)
  row_size false L h = sure.row_size L h

  own_working : (t : Bool) → last ≡ t → is_open done ≡ true → Working st work' image' (row_now t) (counted st a.row e t) i done
  own_working true f o = true≢false (sym o ∙ open_is true f)
  own_working false f o = works_on

  own_read : (t : Bool) → last ≡ t → is_finished done ≡ true → is_write done ≡ false → blocks_read st work' i done.mask ≡ (counted st a.row e t).due
  own_read true f g reading = units_read f reading
  own_read false f g reading = true≢false (sym g ∙ finished_is false f)

  own_resting : (t : Bool) → last ≡ t → is_open done ≡ false → Resting st image' (row_now t) r.stripe
  own_resting true f o = rests f
  own_resting false f o = true≢false (sym (open_is false f) ∙ o)

  turn : (t : Bool) → last ≡ t → Turn w a i r.stripe done work' image' (row_now t) (counted st a.row e t)
  unfolding stepped
  turn t f =
      record {
        below = ok.record_below;
        same_work = step_work_length st w.work w.image i r standing step (within w a sure i k ok);
        same_image = step_image_length st w.work w.image i r standing step (within w a sure i k ok);
        got_others = step_got_other st w.work w.image i r standing step (within w a sure i k ok);
        new_others = step_new_other st w.work w.image i r standing step (within w a sure i k ok);
        cell_others = step_cell_other st w.work w.image i r standing step (within w a sure i k ok);
        row_others = λ s u d h l. row_others t s u d l;
        row_size = row_size t;
        old_here = λ o. refl;
        new_here = λ o. refl;
        alone = no_other w a sure i k ok;
        own_sound = fit_sound st done sound_done;
        own_entry = matches_done t f;
        own_working = own_working t f;
        own_read = own_read t f;
        own_resting = λ h o. own_resting t f o;
      }

  pub done_sure : (t : Bool) → last ≡ t → Sure (record { state = st; table = set w.table i done; work = work'; image = image' })
      (record { state = st; row = row_now t; entry = changed a.entry i (counted st a.row e t) })
  done_sure t f = turned w a sure i r.stripe done work' image' (row_now t) (counted st a.row e t) (turn t f)
