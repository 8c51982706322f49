-- An accepted opening leaves a sure world: every record is free, and every stripe rests on the row that is read off the image.
-- Assumes nothing.
use Prim.Native.Nat.{ℕ, ◌≤◌, ◌<◌}
use mathlib.Core.List.{List}
use mathlib.Core.Logic.{◌⊎◌, inl, inr}
use mathlib.Core.Path.{◌≡◌, refl, sym, ◌∙◌}
use native.Mathlib.Omega.{arith}
use borrow.Author.Tests.{eq-eqb, not-false}
use lib.ListN.{length, replicate, length-replicate, get_or-replicate}
use Rattle.terms.proofs.Rows.{true≢false}
use Rattle.geometry.proofs.Bounds.{Bounds, within_limits, within_limits_out}
use Rattle.geometry.proofs.Missing.{out_still}
use Rattle.geometry.proofs.States.{still_beyond}
use Rattle.geometry.proofs.Placing.{placed_in, missing_is}
use Rattle.geometry.specs.Limits.{none}
use Rattle.geometry.specs.Placement.{out_in}
use Rattle.geometry.specs.declared.Geometry.{Geometry}
use Rattle.geometry.specs.declared.State.{State}
use Rattle.parity.specs.Parity.{parity_byte}
use Rattle.parity.specs.Scan.{nothing_held}
use Rattle.record.specs.Life.{free, missing_in}
use Rattle.record.specs.declared.Record.{Record}
use Rattle.array.proofs.Openings.{Opens, open_number, open_number_law, open_passed, open_accepted}
use Rattle.array.specs.Opening.{opening}
use Rattle.array.specs.Refusals.{opened}
use Rattle.history.specs.Account.{Account, vacant}
use Rattle.history.specs.History.{opened_world, opened_account}
use Rattle.history.specs.Row.{opened_row}
use Rattle.history.specs.World.{World, record_at}
use Rattle.history.proofs.Invariant.{Sure, matches_vacant}
use Rattle.history.proofs.Parities.{right_elim}
use Rattle.history.proofs.ReadOff.{opened_size, opened_rests}
use Rattle.record.proofs.Clauses.{free_sound}
use Rattle.record.proofs.SoundTables.{sound_intro}

module _ (g : Geometry) (out : ℕ) (table : List Record) (work image : List ℕ) where
  module _ (ok : (opening g out table work image).reply.number ≡ 0) where
    abbrev st : State
    st = opened g out

    none_refused : open_number g out table work image ≡ 0
    none_refused = sym (open_number_law g out table work image) ∙ ok

    tests : Opens g out table work image
    tests = open_passed g out table work image none_refused

    bounds : Bounds g.cards g.stripes g.block g.records
    bounds = within_limits g out tests.limits

    -- with none out parity is right
    right_parity_law : (s b : ℕ) → s < g.stripes → b < g.block → st.cards ≤ missing_in st s → parity_byte g.cards g.stripes g.block image s b ≡ 0
    unfolding opened
    right_parity_law s b hs hb h = go (within_limits_out g out tests.limits)
      where
        go : (out < g.cards) ⊎ (out ≡ none) → parity_byte g.cards g.stripes g.block image s b ≡ 0
        go (inl l) =
            let below : out_in st s < st.cards = rw (out_still st s refl) l in
            absurd (omega (arith, missing_is st s (out_in st s) below, (placed_in st (omega (arith, bounds.cards_low))).position_below s (out_in st s) below))
        go (inr e) =
            right_elim g.cards g.stripes g.block image nothing_held (not-false _ (rw (eq-eqb out none e) at tests.parity)) s b hs hb refl

    abbrev start : World
    start = record { state = st; table = replicate (length table) free; work = work; image = image }

    abbrev first : Account
    first = record { state = st; row = opened_row st image; entry = λ i. vacant }

    all_free : (i : ℕ) → i < length table → record_at start i ≡ free
    all_free i h = get_or-replicate (length table) i free free h

    sure_start : Sure start first
    unfolding opened
    sure_start =
        record {
          right = record {
            limits = still_beyond (opened g out) refl ∙ tests.limits;
            image_right = tests.image_right;
            table_right = length-replicate (length table) free ∙ tests.table_right;
            work_right = tests.work_right;
            is_sound = sound_intro st start.table (record {
              each = λ i h. rw (all_free i (rw length-replicate at h)) (free_sound st);
              alone = λ i j hi hj o p e. true≢false (sym (rw (all_free i (rw length-replicate at hi)) at o));
            });
            whole = refl;
          };
          row_size = opened_size st image (omega (arith, bounds.cards_low)) (placed_in st (omega (arith, bounds.cards_low))) tests.image_right;
          entries = λ i h. rw (all_free i (omega (arith, tests.table_right))) (matches_vacant st);
          resting = λ s h free-now b hb.
              opened_rests st image (omega (arith, bounds.cards_low)) (placed_in st (omega (arith, bounds.cards_low))) tests.image_right s b hb
              (right_parity_law s b h hb);
          working = λ i h o. true≢false (sym (rw (all_free i (omega (arith, tests.table_right))) at o));
          read = λ i h f r. true≢false (sym (rw (all_free i (omega (arith, tests.table_right))) at f));
        }

    pub open_sure : Sure (opened_world g out table work image) (opened_account g out image)
    unfolding opened_world opened_account
    open_sure = rw (open_accepted g out table work image none_refused) sure_start

    pub open_state : (opened_world g out table work image).state ≡ opened g out
    unfolding opened_world
    open_state = rw (open_accepted g out table work image none_refused)
