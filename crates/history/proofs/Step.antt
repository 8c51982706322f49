-- An accepted step of an open record: what both of its outcomes rest on, and the fresh choice, where it meets the card that is out.
-- Assumes nothing.
use Prim.Native.Nat.{ℕ, ◌+◌, ◌≤◌, ◌<◌}
use mathlib.Core.Bool.{Bool, true, false, cond, not, ◌&&◌}
use mathlib.Core.List.{List, []}
use mathlib.Core.Path.{◌≡◌, refl, sym, ap, ◌∙◌, subst}
use native.Mathlib.Omega.{arith}
use borrow.Author.Tests.{eqb-true, eq-eqb}
use lib.Dec.{eqb}
use lib.ListN.{length, set}
use Rattle.terms.proofs.Rows.{true≢false}
use Rattle.geometry.proofs.Bounds.{Bounds}
use Rattle.graph.specs.Order.{ready}
use Rattle.graph.specs.Steps.{Step, rd, xr, wr, nil, step_of}
use Rattle.record.specs.Life.{is_open, units_of, chosen_at, missing_in, afresh}
use Rattle.record.specs.declared.Record.{Record}
use Rattle.array.proofs.Steppings.{Ready}
use Rattle.array.specs.Premises.{Within}
use Rattle.array.specs.Refusals.{step_ready}
use Rattle.array.specs.Stepping.{meets_out}
use Rattle.stripe.proofs.Bytes.{bytes}
use Rattle.stripe.proofs.Heart.{numbers, heart}
use Rattle.stripe.proofs.Readied.{Kind, a_read, a_sum, a_write, readied}
use Rattle.stripe.specs.Blocks.{On, by_read, by_write, changed}
use Rattle.stripe.specs.Invariant.{Proper}
use Rattle.stripe.specs.Request.{Request, chosen_afresh}
use Rattle.history.specs.Account.{Account, counted}
use Rattle.history.specs.World.{World, record_at}
use Rattle.history.proofs.Facts.{bounds, open_fits}
use Rattle.history.proofs.Invariant.{Matches, Working, Sure, request_of}
use Rattle.history.proofs.Records.{afresh_fit, request_afresh}
use Rattle.history.proofs.Rows.{after_row}
use Rattle.record.proofs.Clauses.{Fit, fit_sound}
use Rattle.record.proofs.SoundTables.{Sound, sound_elim}
use Rattle.history.proofs.Turn.{Turn, turned}

-- ---- a step meets the missing position, or does not

pub meets_on : (x : ℕ) (s : Step) → meets_out x s ≡ true → On x s
unfolding meets_out
meets_on x (rd p) e = subst (λ (y : ℕ). On y (rd p)) (eqb-true p x e) by_read
meets_on x xr e = true≢false (sym e)
meets_on x (wr p) e = subst (λ (y : ℕ). On y (wr p)) (eqb-true p x e) by_write
meets_on x nil e = true≢false (sym e)

on_meets : (x : ℕ) (s : Step) → On x s → meets_out x s ≡ true
unfolding meets_out
on_meets x s by_read = eq-eqb x x refl
on_meets x s by_write = eq-eqb x x refl

pub misses : (x : ℕ) (s : Step) → meets_out x s ≡ false → ¬ On x s
misses x s e o = true≢false (sym (on_meets x s o) ∙ e)

pub kind_within : (n N k : ℕ) (s : Step) → n < N → Kind n k s → Within N s
kind_within n N k s h (a_read l) = omega arith
kind_within n N k s h a_sum = tt
kind_within n N k s h (a_write l) = omega arith

kind_below : (n x k : ℕ) (s : Step) → Kind n k s → On x s → x ≤ n
kind_below n x k s (a_read l) by_read = l
kind_below n x k s a_sum o = elim o [ ]
kind_below n x k s (a_write l) by_write = l

module _ (w : World) (a : Account) (sure : Sure w a) (i k : ℕ) (ok : Ready w.state w.table w.work w.image i k) where
  abbrev pub stepping_record : Record
  stepping_record = record_at w i

  abbrev r : Record
  r = stepping_record

  abbrev n : ℕ
  n = units_of w.state

  abbrev x : ℕ
  x = missing_in w.state r.stripe

  pub limits : Bounds w.state.cards w.state.stripes w.state.block w.state.records
  limits = bounds sure.right

  table_sound : Sound w.state w.table
  table_sound = sound_elim w.state w.table sure.right.is_sound

  in_table : i < length w.table
  in_table = omega (arith, ok.record_below, sure.right.table_right)

  pub fits : Fit w.state r
  fits = open_fits sure.right i ok.record_below ok.record_open

  pub works : Working w.state w.work w.image a.row (a.entry i) i r
  works = sure.working i ok.record_below ok.record_open

  pub matches : Matches w.state r (a.entry i)
  matches = sure.entries i ok.record_below

  pub no_other : (j : ℕ) → j < w.state.records → ¬ (i ≡ j) → is_open (record_at w j) ≡ true → ¬ (r.stripe ≡ (record_at w j).stripe)
  no_other j h d o e = d (table_sound.alone i j in_table (omega (arith, sure.right.table_right)) ok.record_open o e)

  pub is_ready : ready n r.graph r.mask (chosen_at w.state r) r.done k ≡ true
  unfolding step_ready
  is_ready = ok.is_ready

  pub within : Within w.state.cards (step_of n k)
  within =
      kind_within n w.state.cards k (step_of n k) (omega (arith, limits.cards_low))
      (readied n r.graph r.mask (chosen_at w.state r) r.done k is_ready).as_step

  -- the entry counts one more, and is otherwise of the same request
  pub counted_matches : (r' : Record) (last : Bool) → r'.phase ≡ cond last 2 1 → r'.write ≡ r.write → r'.stripe ≡ r.stripe
      → r'.mask ≡ r.mask → r'.count ≡ r.count + 1 → Matches w.state r' (counted w.state a.row (a.entry i) last)
  unfolding counted
  counted_matches r' last phase kind stripe mask count =
      record {
        agree = record {
          same_phase = phase ∙ ap (cond last 2) (sym (eqb-true r.phase 1 ok.record_open) ∙ matches.agree.same_phase);
          same_kind = ap (λ (v : ℕ). eqb v 1) kind ∙ matches.agree.same_kind;
          same_stripe = stripe ∙ matches.agree.same_stripe;
          same_mask = mask ∙ matches.agree.same_mask;
          same_count = count ∙ ap (λ (c : ℕ). c + 1) matches.agree.same_count;
        };
        paid = matches.paid;
        nothing_due = λ e. due last _ e;
      }
    where
      due : (t : Bool) (units : List ℕ) → (a.entry i).write ≡ true → cond (t && not (a.entry i).write) units (a.entry i).due ≡ []
      due true units e = rw e (matches.nothing_due e)
      due false units e = matches.nothing_due e

  -- ---- chosen afresh

  module _ (meets : meets_out x (step_of n k) ≡ true) where
    abbrev chosen : Record
    chosen = afresh w.state r

    on_step : On x (step_of n k)
    on_step = meets_on x (step_of n k) meets

    x_below : x ≤ n
    x_below =
        kind_below n x k (step_of n k) (readied n r.graph r.mask (chosen_at w.state r) r.done k is_ready).as_step on_step

    as_chosen : chosen_afresh n (request_of w.state r) x ≡ request_of w.state chosen
    as_chosen = sym (request_afresh w.state r)

    proper : Proper n x (request_of w.state chosen)
    proper = subst (λ (q : Request). Proper n x q) as_chosen ((numbers n).afresh x (request_of w.state r) k works.proper x_below is_ready on_step)

    works_afresh : Working w.state w.work w.image a.row (counted w.state a.row (a.entry i) false) i chosen
    unfolding afresh chosen_afresh counted after_row
    works_afresh =
        record {
          proper = proper;
          renewed = works.renewed;
          faithful = λ b hb.
              (heart bytes n).afresh x (request_of w.state r) k _ _ _ _ works.proper (works.faithful b hb) x_below is_ready on_step;
        }

    turn : Turn w a i r.stripe chosen w.work w.image a.row (counted w.state a.row (a.entry i) false)
    unfolding afresh
    turn =
        record {
          below = ok.record_below;
          same_work = refl;
          same_image = refl;
          got_others = λ j q b d hq hb. refl;
          new_others = λ j q b d hq hb. refl;
          cell_others = λ c t b d h l. refl;
          row_others = λ t u d h l. refl;
          row_size = sure.row_size;
          old_here = λ o. refl;
          new_here = λ o. refl;
          alone = no_other;
          own_sound = fit_sound w.state chosen (afresh_fit w.state r x fits proper);
          own_entry = counted_matches chosen false refl refl refl refl refl;
          own_working = λ o. works_afresh;
          own_read = λ f g. true≢false (sym f);
          own_resting = λ h o. true≢false o;
        }

    pub afresh_sure : Sure (record { state = w.state; table = set w.table i chosen; work = w.work; image = w.image })
        (record { state = w.state; row = a.row; entry = changed a.entry i (counted w.state a.row (a.entry i) false) })
    afresh_sure =
        turned w a sure i r.stripe chosen w.work w.image a.row (counted w.state a.row (a.entry i) false) turn
