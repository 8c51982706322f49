-- An accepted admission opens a record on a stripe that nobody holds: the world stays sure, the stripe now working towards the new row.
-- Assumes nothing.
use Prim.Native.Nat.{ℕ, ◌+◌, ◌*◌, ◌<◌}
use mathlib.Core.Bool.{Bool, true, false, cond}
use mathlib.Core.List.{List}
use mathlib.Core.Path.{◌≡◌, refl, sym, ap, ◌∙◌, subst}
use native.Mathlib.Omega.{arith}
use lib.Dec.{ltb, eqb}
use lib.ListN.{length, get_or, set}
use Rattle.terms.specs.Sets.{bit}
use Rattle.terms.proofs.Rows.{true≢false, and_right}
use Rattle.terms.proofs.Sets.{lowest_holds}
use Rattle.geometry.proofs.Bounds.{Bounds}
use Rattle.graph.specs.Steps.{masked}
use Rattle.record.specs.Life.{free, is_free, units_of, missing_in, admitted}
use Rattle.record.specs.Sound.{lowest_free}
use Rattle.record.specs.declared.Record.{Record}
use Rattle.array.proofs.Frames.{new_byte, got_byte}
use Rattle.array.proofs.Kept.{kept_length, kept_got, kept_other, kept_same}
use Rattle.array.proofs.Admissions.{Admitting}
use Rattle.array.specs.Admission.{keep_units}
use Rattle.array.specs.Lent.{unit_bytes, rank}
use Rattle.stripe.proofs.Bytes.{bytes}
use Rattle.stripe.proofs.Ends.{begun_faithful}
use Rattle.stripe.proofs.Heart.{numbers}
use Rattle.stripe.proofs.Places.{masked_below}
use Rattle.stripe.specs.Blocks.{changed}
use Rattle.stripe.specs.Invariant.{Proper, Faithful}
use Rattle.stripe.specs.Request.{Request, begun}
use Rattle.history.specs.Account.{Account, Entry, requested}
use Rattle.history.specs.World.{World, record_at}
use Rattle.history.proofs.Facts.{bounds}
use Rattle.history.proofs.Invariant.{Matches, Working, Sure, view_of}
use Rattle.history.proofs.Records.{admitted_fit, request_begun, mask_some, mask_units}
use Rattle.history.proofs.Rows.{row_of, after_row, row_is_row, after_read, after_masked, after_unmasked}
use Rattle.record.proofs.Clauses.{fit_sound, free_not_open}
use Rattle.record.proofs.SoundTables.{held_elim, holds_elim}
use Rattle.history.proofs.Turn.{Turn, turned}

module _ (w : World) (a : Account) (sure : Sure w a) (write : Bool) (s mask : ℕ) (payload : List ℕ)
    (ok : Admitting w.state w.table w.work w.image write s mask payload) where
  -- the lowest free record, the record and the entry made there, and the work store
  abbrev place : ℕ
  place = lowest_free w.table

  abbrev made : Record
  made = admitted w.state write s mask

  abbrev entry : Entry
  entry = requested write s mask payload

  abbrev stored : List ℕ
  stored = cond write (keep_units w.state place mask payload w.work) w.work

  limits : Bounds w.state.cards w.state.stripes w.state.block w.state.records
  limits = bounds sure.right

  below : place < w.state.records
  below = omega (arith, ok.some_free, sure.right.table_right)

  was_free : is_free (record_at w place) ≡ true
  unfolding lowest_free
  was_free = lowest_holds (length w.table) (λ i. is_free (get_or w.table i free)) ok.some_free

  some_card : 0 < w.state.cards
  some_card = omega (arith, limits.cards_low)

  -- ---- the work store: a write's units are kept, and nothing else changes

  paid : write ≡ true → length payload ≡ unit_bytes w.state mask
  paid e = ok.payload_right ∙ ap (λ (t : Bool). cond t (unit_bytes w.state mask) 0) e

  stored_length : length stored ≡ length w.work
  stored_length = go write refl
    where
      go : (t : Bool) → write ≡ t → length (cond t (keep_units w.state place mask payload w.work) w.work) ≡ length w.work
      go true e = kept_length w.state place below some_card mask payload (paid e) w.work sure.right.work_right
      go false e = refl

  stored_got : (j q b : ℕ) → q < w.state.cards → b < w.state.block
      → got_byte w.state.cards w.state.block stored j q b ≡ got_byte w.state.cards w.state.block w.work j q b
  stored_got j q b hq hb = go write refl
    where
      go : (t : Bool) → write ≡ t
          → got_byte w.state.cards w.state.block (cond t (keep_units w.state place mask payload w.work) w.work) j q b
          ≡ got_byte w.state.cards w.state.block w.work j q b
      go true e = kept_got w.state place below some_card mask payload (paid e) w.work sure.right.work_right j q b hq hb
      go false e = refl

  stored_other : (j q b : ℕ) → ¬ (place ≡ j) → q < w.state.cards → b < w.state.block
      → new_byte w.state.cards w.state.block stored j q b ≡ new_byte w.state.cards w.state.block w.work j q b
  stored_other j q b d hq hb = go write refl
    where
      go : (t : Bool) → write ≡ t
          → new_byte w.state.cards w.state.block (cond t (keep_units w.state place mask payload w.work) w.work) j q b
          ≡ new_byte w.state.cards w.state.block w.work j q b
      go true e =
          kept_other w.state place below some_card mask payload (paid e) w.work sure.right.work_right j q b hq hb (λ i h m. d i)
      go false e = refl

  stored_new : (u b : ℕ) → write ≡ true → masked (units_of w.state) mask u ≡ true → b < w.state.block
      → new_byte w.state.cards w.state.block stored place u b ≡ get_or payload (rank mask u * w.state.block + b) 0
  unfolding masked
  stored_new u b e m hb =
      rw e
      (kept_same w.state place below some_card mask payload (paid e) w.work sure.right.work_right u b
      (masked_below (units_of w.state) mask u m) (and_right (ltb u (units_of w.state)) (bit u mask) m) hb)

  -- ---- the stripe works towards the row that the request leaves

  working_begun : (b : ℕ) → b < w.state.block
      → Faithful bytes (units_of w.state) (missing_in w.state s) (begun (units_of w.state) write mask (missing_in w.state s)) (λ p. false)
      (row_of w.state a.row s b) (row_of w.state (after_row w.state a.row entry) s b) (view_of w.state stored w.image place s b)
  unfolding requested
  working_begun b hb =
      begun_faithful bytes (units_of w.state) (missing_in w.state s) write mask _ _ _
      (sure.resting s ok.stripe_below ok.not_held b hb)
      (row_is_row w.state (after_row w.state a.row entry) s b)
      (λ e p. ap (λ (f : ℕ → List ℕ). row_of w.state f s b p) (after_read w.state a.row entry e))
      (λ p m. after_unmasked w.state a.row entry p b m)
      (λ e p m. stored_new p b e m hb ∙ sym (after_masked w.state a.row entry p b e m hb))

  working_made : Working w.state stored w.image a.row entry place made
  unfolding admitted
  working_made =
      let n = units_of w.state in
      let x = missing_in w.state s in
      let as-made = sym (request_begun w.state write s mask) in
      record {
        proper = subst (λ (q : Request). Proper n x q) as-made
            ((numbers n).started x write mask (mask_some n mask ok.mask_legal) (mask_units n mask ok.mask_legal));
        renewed = λ p. false;
        faithful = λ b hb.
            subst (λ (q : Request). Faithful bytes n x q (λ p. false) (row_of w.state a.row s b)
            (row_of w.state (after_row w.state a.row entry) s b) (view_of w.state stored w.image place s b)) as-made
            (working_begun b hb);
      }

  matches_made : Matches w.state made entry
  unfolding admitted requested
  matches_made =
      record {
        agree = record { same_phase = refl; same_kind = kind write; same_stripe = refl; same_mask = refl; same_count = refl };
        paid = paid;
        nothing_due = λ e. refl;
      }
    where
      kind : (t : Bool) → eqb (cond t 1 0) 1 ≡ t
      kind true = refl
      kind false = refl

  turn : Turn w a place s made stored w.image a.row entry
  unfolding admitted
  turn =
      record {
        below = below;
        same_work = stored_length;
        same_image = refl;
        got_others = λ j q b d hq hb. stored_got j q b hq hb;
        new_others = stored_other;
        cell_others = λ c t b d h k. refl;
        row_others = λ t u d h k. refl;
        row_size = sure.row_size;
        old_here = λ o. true≢false (sym o ∙ free_not_open (record_at w place) was_free);
        new_here = λ o. refl;
        alone = λ j h d o e.
            holds_elim s (record_at w j) (held_elim w.table s ok.not_held j (omega (arith, sure.right.table_right))) o (sym e);
        own_sound = fit_sound w.state made (admitted_fit w.state write s mask ok.stripe_below ok.mask_legal);
        own_entry = matches_made;
        own_working = λ o. working_made;
        own_read = λ f g. true≢false (sym f);
        own_resting = λ h o. true≢false o;
      }

  pub admit_sure : Sure (record { state = w.state; table = set w.table place made; work = stored; image = w.image })
      (record { state = w.state; row = a.row; entry = changed a.entry place entry })
  admit_sure = turned w a sure place s made stored w.image a.row entry turn
