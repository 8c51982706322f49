-- Every call of two worlds that differ at most in the bytes of missing blocks: the same answer, and such worlds again.
-- Assumes nothing.
use Prim.Native.Nat.{ℕ, ◌<◌}
use mathlib.Core.Bool.{Bool, true, false, cond}
use mathlib.Core.List.{List, []}
use mathlib.Core.Logic.{◌⊎◌, inl, inr}
use mathlib.Core.Path.{◌≡◌, refl, sym, ap, ◌∙◌}
use native.Mathlib.Omega.{arith}
use borrow.Author.Tests.{eqb-true, eqb-false}
use lib.Dec.{eqb}
use Rattle.terms.specs.Reply.{refused}
use Rattle.terms.proofs.Rows.{or_false_left, truth}
use Rattle.geometry.proofs.Lengths.{image_length}
use Rattle.geometry.proofs.States.{state_bounds, state_filling, moved_geometry}
use Rattle.geometry.specs.Fill.{moved_on}
use Rattle.geometry.specs.Limits.{none, no_fill, beyond_state}
use Rattle.geometry.proofs.Missing.{out_none, out_lost, out_moved, none_missing, missing_ended, fill_missing}
use Rattle.geometry.specs.Report.{marked, with_out, with_lost, with_fill}
use Rattle.geometry.specs.declared.State.{State}
use Rattle.graph.specs.Steps.{step_of}
use Rattle.parity.specs.Rest.{restored}
use Rattle.record.specs.Life.{units_of, chosen_at, missing_in}
use Rattle.record.specs.declared.Record.{Record}
use Rattle.array.proofs.Steppings.{Ready}
use Rattle.array.specs.Premises.{Within}
use Rattle.array.specs.Refusals.{step_ready}
use Rattle.array.specs.Stepping.{meets_out}
use Rattle.stripe.proofs.Readied.{readied}
use Rattle.history.specs.Answers.{answer_to, Alike}
use Rattle.history.specs.History.{Decayed}
use Rattle.history.specs.World.{World, Event, admit, step, report, collect, scan, start, rebuild, play, record_at}
use Rattle.history.proofs.Calls.{work_same, image_same}
use Rattle.history.proofs.Facts.{bounds, open_fits}
use Rattle.history.proofs.FillsAlike.{started_same, restored_same}
use Rattle.geometry.proofs.Placing.{placed_in}
use Rattle.history.proofs.Replies.{admit_taken, step_tests, step_afresh, step_done, report_tests, report_taken, start_tests, start_taken, rebuild_tests, rebuild_taken, rebuild_left, admit_left, step_left, refused_leaves}
use Rattle.history.proofs.Scans.{scan_same}
use Rattle.history.proofs.Step.{kind_within}
use Rattle.record.proofs.Clauses.{Fit}
use Rattle.history.proofs.Unseen.{admit_same, step_same, rebuild_same}

-- ---- images that agree on the cards that work

pub decayed_refl : (st : State) (image : List ℕ) → Decayed st image image
decayed_refl st image = record { same_length = refl; same_bytes = λ c s b hc hs hb d. refl }

pub decayed_trans : (st : State) (a b c : List ℕ) → Decayed st a b → Decayed st b c → Decayed st a c
decayed_trans st a b c p q =
    record {
      same_length = q.same_length ∙ p.same_length;
      same_bytes = λ d s e hd hs he w. q.same_bytes d s e hd hs he w ∙ p.same_bytes d s e hd hs he w;
    }

pub decayed_sym : (st : State) (a b : List ℕ) → Decayed st a b → Decayed st b a
decayed_sym st a b p =
    record { same_length = sym p.same_length; same_bytes = λ d s e hd hs he w. sym (p.same_bytes d s e hd hs he w) }

module _ (w : World) (image' : List ℕ) (same : Decayed w.state w.image image') where
  abbrev v : World
  v = record { state = w.state; table = w.table; work = w.work; image = image' }

  -- the same answer, and worlds that are alike
  abbrev Both : Event → Type 0
  Both e = (answer_to v e ≡ answer_to w e) × Alike (play w e).world (play v e).world

  -- the two worlds themselves
  here : Alike w v
  here = record { same_state = refl; same_table = refl; same_work = refl; same_image = same }

  -- worlds that have the same state, table and work store
  abbrev Differing : (st : State) (table : List Record) (work l l' : List ℕ) → Type 0
  Differing st table work l l' =
      Alike (record { state = st; table = table; work = work; image = l }) (record { state = st; table = table; work = work; image = l' })

  differing : (st : State) (table : List Record) (work l l' : List ℕ) → Decayed st l l' → Differing st table work l l'
  differing st table work l l' d = record { same_state = refl; same_table = refl; same_work = refl; same_image = d }

  -- a call that both refuse, by the same number: both worlds are left
  left_both : (e : Event) (k m : ℕ) → m ≡ k → play w e ≡ record { reply = refused k; world = w; result = [] }
      → play v e ≡ record { reply = refused m; world = v; result = [] } → Both e
  left_both e k m same_number p q =
      rw (p, q) (ap (λ (n : ℕ). record { reply = refused n; result = [] }) same_number, here)

  admit_both : (write : Bool) (s mask : ℕ) (payload : List ℕ) → Both (admit write s mask payload)
  admit_both write s mask payload = go (truth (eqb number 0))
    where
      number : ℕ
      number = (play w (admit write s mask payload)).reply.number

      also : (play v (admit write s mask payload)).reply.number ≡ number
      also = admit_same w image' same write s mask payload

      go : (eqb number 0 ≡ true) ⊎ (eqb number 0 ≡ false) → Both (admit write s mask payload)
      go (inl e) =
          let ok = eqb-true number 0 e in
          rw (admit_taken w write s mask payload ok, admit_taken v write s mask payload (also ∙ ok))
          (refl, differing _ _ _ w.image image' same)
      go (inr e) =
          let d = eqb-false number 0 e in
          left_both (admit write s mask payload) _ _ also (admit_left w write s mask payload d) (admit_left v write s mask payload (λ z. d (sym also ∙ z)))

  collect_both : (i : ℕ) (result : List ℕ) → Both (collect i result)
  unfolding play
  collect_both i result = (refl, record { same_state = refl; same_table = refl; same_work = refl; same_image = same })

  scan_both : Both scan
  unfolding play
  scan_both = (
    rw (scan_same w.state w.image image' same w.table),
    here,
  )

  -- with none out, images that agree on the cards that work agree on all, so also on those that work when one goes out
  out_same : (c : ℕ) → beyond_state w.state ≡ false → w.state.out ≡ none → Decayed (with_out w.state c) w.image image'
  out_same c limits o =
      record {
        same_length = same.same_length;
        same_bytes = λ d s b hd hs hb works.
            same.same_bytes d s b hd hs hb
            (none_missing w.state d s (omega (arith, out_none w.state s o, (state_bounds w.state limits).cards_high)));
      }

  -- a block that is not missing when the fill is over was not missing before
  ended_same : beyond_state w.state ≡ false → Decayed (with_fill w.state no_fill) w.image image'
  ended_same limits =
      record {
        same_length = same.same_length;
        same_bytes = λ d s b hd hs hb works.
            same.same_bytes d s b hd hs hb (λ m. works (missing_ended w.state (omega (arith, (state_bounds w.state limits).cards_high)) d s m));
      }

  lost_same : Decayed (with_lost w.state) w.image image'
  lost_same =
      record {
        same_length = same.same_length;
        same_bytes = λ c s b hc hs hb works. same.same_bytes c s b hc hs hb (λ m. works (record { is_card = m.is_card; is_out = m.is_out ∙ sym (out_lost w.state s) }));
      }

  -- a report alters the state, of both alike, and does not look at the image
  report_both : (c : ℕ) → Both (report c)
  report_both c = (unfold play in refl, go (truth (eqb number 0)))
    where
      number : ℕ
      number = (play w (report c)).reply.number

      also : (play v (report c)).reply.number ≡ number
      also = unfold play in refl

      marked_same : beyond_state w.state ≡ false → (o : Bool) → eqb w.state.out none ≡ o → (p : Bool)
          → Decayed (cond o (with_out w.state c) (cond p (with_fill w.state no_fill) (with_lost w.state))) w.image image'
      marked_same limits true o p = out_same c limits (eqb-true w.state.out none o)
      marked_same limits false o true = ended_same limits
      marked_same limits false o false = lost_same

      go : (eqb number 0 ≡ true) ⊎ (eqb number 0 ≡ false) → Alike (play w (report c)).world (play v (report c)).world
      go (inl e) =
          let ok = eqb-true number 0 e in
          rw (report_taken w c ok, report_taken v c (also ∙ ok))
          (differing _ _ _ w.image image' (unfold marked in marked_same (report_tests w c ok).limits (eqb w.state.out none) refl (eqb c w.state.out)))
      go (inr e) =
          let d = eqb-false number 0 e in
          rw (refused_leaves w (report c) d, refused_leaves v (report c) (λ z. d (sym also ∙ z))) here

  -- a start alters the state, of both alike, and leaves which blocks are missing
  start_both : Both start
  start_both = (unfold play in refl, go (truth (eqb number 0)))
    where
      number : ℕ
      number = (play w start).reply.number

      also : (play v start).reply.number ≡ number
      also = unfold play in refl

      go : (eqb number 0 ≡ true) ⊎ (eqb number 0 ≡ false) → Alike (play w start).world (play v start).world
      go (inl e) =
          let ok = eqb-true number 0 e in
          rw (start_taken w ok, start_taken v (also ∙ ok))
          (differing _ _ _ w.image image' (started_same w.state w.image image' same (start_tests w ok).still))
      go (inr e) =
          let d = eqb-false number 0 e in rw (refused_leaves w start d, refused_leaves v start (λ z. d (sym also ∙ z))) here

  -- a rebuild step restores the same block in both
  rebuild_both : Both rebuild
  rebuild_both = go (truth (eqb number 0))
    where
      number : ℕ
      number = (play w rebuild).reply.number

      also : (play v rebuild).reply.number ≡ number
      also = rebuild_same w image' same

      image_then : (play w rebuild).reply.number ≡ 0
          → Decayed (moved_on w.state) (restored w.state w.image w.state.out w.state.fill) (restored w.state image' w.state.out w.state.fill)
      image_then ok =
          let tests = rebuild_tests w ok in
          let limits = tests.lent.limits in
          let below = (state_filling w.state limits tests.way).0 in
          restored_same w.state w.image image' same (image_length w.state w.image (or_false_left _ _ tests.lent.lengths))
          w.state.out w.state.fill below (fill_missing w.state limits tests.way) (moved_on w.state) (moved_geometry w.state)
          (out_moved w.state tests.way below (state_bounds w.state limits).stripes_high)

      go : (eqb number 0 ≡ true) ⊎ (eqb number 0 ≡ false) → Both rebuild
      go (inl e) =
          let ok = eqb-true number 0 e in
          rw (rebuild_taken w ok, rebuild_taken v (also ∙ ok)) (refl, differing _ _ _ _ _ (image_then ok))
      go (inr e) = let d = eqb-false number 0 e in left_both rebuild _ _ also (rebuild_left w d) (rebuild_left v (λ z. d (sym also ∙ z)))

  -- ---- a step

  module _ (i k : ℕ) where
    abbrev r : Record
    r = record_at w i

    accepted_same : (play w (step i k)).reply.number ≡ 0 → (play v (step i k)).reply.number ≡ 0 → Both (step i k)
    accepted_same ok ok' = go (truth meets)
      where
        n : ℕ
        n = units_of w.state

        meets : Bool
        meets = meets_out (missing_in w.state r.stripe) (step_of n k)

        tests : Ready w.state w.table w.work w.image i k
        tests = step_tests w i k ok

        some_card : 0 < w.state.cards
        some_card = omega (arith, (bounds tests.right).cards_low)

        fits : Fit w.state r
        fits = open_fits tests.right i tests.record_below tests.record_open

        within : Within w.state.cards (step_of n k)
        within =
            kind_within n w.state.cards k (step_of n k) (omega (arith, some_card))
            (readied n r.graph r.mask (chosen_at w.state r) r.done k (unfold step_ready in tests.is_ready)).as_step

        go : (meets ≡ true) ⊎ (meets ≡ false) → Both (step i k)
        go (inl e) = rw (step_afresh w i k ok e, step_afresh v i k ok' e) (refl, differing _ _ _ w.image image' same)
        go (inr e) =
            rw (
              step_done w i k ok e,
              step_done v i k ok' e,
              work_same w.state w.work w.image image' same r i (placed_in w.state some_card) tests.right.image_right fits.stripe_below
                  (step_of n k) within e,
            ) (
              refl,
              differing _ _ _ _ _
                  (image_same w.state w.work w.image image' same r i (placed_in w.state some_card) tests.right.image_right fits.stripe_below
                  (step_of n k) within tests.record_below tests.right.work_right),
            )

    step_both : Both (step i k)
    step_both = go (truth (eqb number 0))
      where
        number : ℕ
        number = (play w (step i k)).reply.number

        also : (play v (step i k)).reply.number ≡ number
        also = step_same w image' same i k

        go : (eqb number 0 ≡ true) ⊎ (eqb number 0 ≡ false) → Both (step i k)
        go (inl e) = accepted_same (eqb-true number 0 e) (also ∙ eqb-true number 0 e)
        go (inr e) = let d = eqb-false number 0 e in left_both (step i k) _ _ also (step_left w i k d) (step_left v i k (λ z. d (sym also ∙ z)))

  pub both : (e : Event) → Both e
  both (admit write s mask payload) = admit_both write s mask payload
  both (step i k) = step_both i k
  both (report c) = report_both c
  both (collect i result) = collect_both i result
  both scan = scan_both
  both start = start_both
  both rebuild = rebuild_both
