-- What comes of a call, as laws over its answer's number: what an accepted one has passed, answers and leaves, that a refused one leaves the world,
-- and when one is accepted. Here, in Opened and in Unseen and Scans the calls' definitions are taken apart, and nowhere else.
-- Assumes nothing.
use Prim.Native.Nat.{ℕ, ◌<◌}
use mathlib.Core.Bool.{Bool, true, false, cond}
use mathlib.Core.List.{List, []}
use mathlib.Core.Logic.{◌⊎◌}
use mathlib.Core.Path.{◌≡◌, refl, sym, ap, ◌∙◌}
use lib.ListN.{set}
use Rattle.terms.specs.Reply.{accepted, refused}
use Rattle.geometry.specs.Fill.{start_refusal, moved_on}
use Rattle.geometry.specs.Limits.{none, no_fill, under_way}
use Rattle.geometry.specs.Report.{report_refusal, marked, with_fill}
use Rattle.parity.specs.Parity.{right_parity}
use Rattle.parity.specs.Rest.{restored}
use Rattle.record.specs.Life.{free, is_open, is_finished, is_write, missing_in, units_of, admitted, stepped, afresh}
use Rattle.record.specs.Sound.{held, lowest_free}
use Rattle.array.proofs.Admissions as admissions
use Rattle.array.proofs.Admissions.{Admitting, admit_number}
use Rattle.array.proofs.Collections as collections
use Rattle.array.proofs.Collections.{Collecting, collect_number}
use Rattle.array.proofs.Lent.{Right}
use Rattle.array.proofs.Rebuildings as rebuildings
use Rattle.array.proofs.Rebuildings.{Fills, rebuild_number}
use Rattle.array.proofs.Reports as reports
use Rattle.array.proofs.Reports.{Reports}
use Rattle.array.proofs.Scannings as scannings
use Rattle.array.proofs.Starts as starts
use Rattle.array.proofs.Starts.{Starts}
use Rattle.array.proofs.Steppings as steppings
use Rattle.array.proofs.Steppings.{Ready, step_number}
use Rattle.array.specs.Admission.{keep_units}
use Rattle.array.specs.Collection.{hand_over}
use Rattle.array.specs.Refusals.{result_short, step_ready}
use Rattle.array.specs.Stepping.{accepting, meets_out, work_after, image_after}
use Rattle.graph.specs.Steps.{step_of}
use Rattle.history.specs.World.{World, Event, admit, step, report, collect, scan, start, rebuild, play, record_at}

module _ (w : World) where
  pub admit_number_law : (write : Bool) (s mask : ℕ) (payload : List ℕ)
      → (play w (admit write s mask payload)).reply.number ≡ admit_number w.state w.table w.work w.image write s mask payload
  unfolding play
  admit_number_law write s mask payload = admissions.admit_number_law w.state w.table w.work w.image write s mask payload

  collect_number_law : (i : ℕ) (result : List ℕ) → (play w (collect i result)).reply.number ≡ collect_number w.state w.table w.work i result
  unfolding play
  collect_number_law i result = collections.collect_number_law w.state w.table w.work i result

  report_number : (c : ℕ) → (play w (report c)).reply.number ≡ report_refusal w.state c
  unfolding play
  report_number c = reports.report_number w.state c

  start_number : (play w start).reply.number ≡ start_refusal w.state
  unfolding play
  start_number = starts.start_number w.state

  pub rebuild_number_law : (play w rebuild).reply.number ≡ rebuild_number w.state w.table w.image
  unfolding play
  rebuild_number_law = rebuildings.rebuild_number_law w.state w.table w.image

  pub step_number_law : (i k : ℕ) → (play w (step i k)).reply.number ≡ step_number w.state w.table w.work w.image i k
  unfolding play
  step_number_law i k = steppings.step_number_law w.state w.table w.work w.image i k

  -- ---- an accepted call: what it has passed, and what it answers and leaves

  module _ (write : Bool) (s mask : ℕ) (payload : List ℕ) (ok : (play w (admit write s mask payload)).reply.number ≡ 0) where
    pub admit_tests : Admitting w.state w.table w.work w.image write s mask payload
    admit_tests = admissions.admit_passed w.state w.table w.work w.image write s mask payload (sym (admit_number_law write s mask payload) ∙ ok)

    pub admit_taken : play w (admit write s mask payload)
        ≡ record {
          reply = accepted (lowest_free w.table) 0;
          world = record {
            state = w.state;
            table = set w.table (lowest_free w.table) (admitted w.state write s mask);
            work = cond write (keep_units w.state (lowest_free w.table) mask payload w.work) w.work;
            image = w.image;
          };
          result = [];
        }
    unfolding play
    admit_taken =
        rw (admissions.admit_accepted w.state w.table w.work w.image write s mask payload (sym (admit_number_law write s mask payload) ∙ ok))

  module _ (i k : ℕ) (ok : (play w (step i k)).reply.number ≡ 0) where
    pub step_tests : Ready w.state w.table w.work w.image i k
    step_tests = steppings.step_passed w.state w.table w.work w.image i k (sym (step_number_law i k) ∙ ok)

    -- its card is out: chosen afresh
    pub step_afresh : meets_out (missing_in w.state (record_at w i).stripe) (step_of (units_of w.state) k) ≡ true
        → play w (step i k)
        ≡ record {
          reply = accepted (afresh w.state (record_at w i)).graph 0;
          world = record { state = w.state; table = set w.table i (afresh w.state (record_at w i)); work = w.work; image = w.image };
          result = [];
        }
    unfolding play accepting
    step_afresh meets = rw (steppings.step_accepted w.state w.table w.work w.image i k (sym (step_number_law i k) ∙ ok), meets)

    -- its card works: done
    pub step_done : meets_out (missing_in w.state (record_at w i).stripe) (step_of (units_of w.state) k) ≡ false
        → play w (step i k)
        ≡ record {
          reply = accepted 0 0;
          world = record {
            state = w.state;
            table = set w.table i (stepped w.state (record_at w i) k);
            work = work_after w.state i (record_at w i) (step_of (units_of w.state) k) w.work w.image;
            image = image_after w.state i (record_at w i) (step_of (units_of w.state) k) w.work w.image;
          };
          result = [];
        }
    unfolding play accepting
    step_done works = rw (steppings.step_accepted w.state w.table w.work w.image i k (sym (step_number_law i k) ∙ ok), works)

  module _ (c : ℕ) (ok : (play w (report c)).reply.number ≡ 0) where
    pub report_tests : Reports w.state c
    report_tests = reports.report_passed w.state c (sym (report_number c) ∙ ok)

    pub report_taken : play w (report c)
        ≡ record {
          reply = accepted 0 0;
          world = record { state = marked w.state c; table = w.table; work = w.work; image = w.image };
          result = [];
        }
    unfolding play
    report_taken = rw (reports.report_accepted w.state c (sym (report_number c) ∙ ok))

  module _ (ok : (play w start).reply.number ≡ 0) where
    pub start_tests : Starts w.state
    start_tests = starts.start_passed w.state (sym start_number ∙ ok)

    pub start_taken : play w start
        ≡ record {
          reply = accepted 0 0;
          world = record { state = with_fill w.state 0; table = w.table; work = w.work; image = w.image };
          result = [];
        }
    unfolding play
    start_taken = rw (starts.start_accepted w.state (sym start_number ∙ ok))

  module _ (ok : (play w rebuild).reply.number ≡ 0) where
    pub rebuild_tests : Fills w.state w.table w.image
    rebuild_tests = rebuildings.rebuild_passed w.state w.table w.image (sym rebuild_number_law ∙ ok)

    pub rebuild_taken : play w rebuild
        ≡ record {
          reply = accepted w.state.fill 0;
          world = record {
            state = moved_on w.state;
            table = w.table;
            work = w.work;
            image = restored w.state w.image w.state.out w.state.fill;
          };
          result = [];
        }
    unfolding play
    rebuild_taken = rw (rebuildings.rebuild_accepted w.state w.table w.image (sym rebuild_number_law ∙ ok))

  module _ (i : ℕ) (result : List ℕ) (ok : (play w (collect i result)).reply.number ≡ 0) where
    pub collect_tests : Collecting w.state w.table w.work i result
    collect_tests = collections.collect_passed w.state w.table w.work i result (sym (collect_number_law i result) ∙ ok)

    pub collect_taken : play w (collect i result)
        ≡ record {
          reply = accepted (record_at w i).count 0;
          world = record { state = w.state; table = set w.table i free; work = w.work; image = w.image };
          result = cond (is_write (record_at w i)) result (hand_over w.state i (record_at w i).mask w.work result);
        }
    unfolding play
    collect_taken = rw (collections.collect_accepted w.state w.table w.work i result (sym (collect_number_law i result) ∙ ok))

  -- ---- a refused call leaves the world

  pub admit_left : (write : Bool) (s mask : ℕ) (payload : List ℕ) → ¬ ((play w (admit write s mask payload)).reply.number ≡ 0)
      → play w (admit write s mask payload) ≡ record { reply = refused (play w (admit write s mask payload)).reply.number; world = w; result = [] }
  admit_left write s mask payload d =
      left ∙ ap (λ (m : ℕ). record { reply = refused m; world = w; result = [] }) (sym (admit_number_law write s mask payload))
    where
      left : play w (admit write s mask payload)
          ≡ record { reply = refused (admit_number w.state w.table w.work w.image write s mask payload); world = w; result = [] }
      left = unfold play in
          rw (admissions.admit_refused w.state w.table w.work w.image write s mask payload (λ z. d (admit_number_law write s mask payload ∙ z)))

  pub step_left : (i k : ℕ) → ¬ ((play w (step i k)).reply.number ≡ 0)
      → play w (step i k) ≡ record { reply = refused (play w (step i k)).reply.number; world = w; result = [] }
  step_left i k d = left ∙ ap (λ (m : ℕ). record { reply = refused m; world = w; result = [] }) (sym (step_number_law i k))
    where
      left : play w (step i k) ≡ record { reply = refused (step_number w.state w.table w.work w.image i k); world = w; result = [] }
      left = unfold play in rw (steppings.step_refused w.state w.table w.work w.image i k (λ z. d (step_number_law i k ∙ z)))

  pub rebuild_left : ¬ ((play w rebuild).reply.number ≡ 0)
      → play w rebuild ≡ record { reply = refused (play w rebuild).reply.number; world = w; result = [] }
  rebuild_left d = left ∙ ap (λ (m : ℕ). record { reply = refused m; world = w; result = [] }) (sym rebuild_number_law)
    where
      left : play w rebuild ≡ record { reply = refused (rebuild_number w.state w.table w.image); world = w; result = [] }
      left = unfold play in rw (rebuildings.rebuild_refused w.state w.table w.image (λ z. d (rebuild_number_law ∙ z)))

  pub refused_leaves : (e : Event) → ¬ ((play w e).reply.number ≡ 0) → (play w e).world ≡ w
  refused_leaves (admit write s mask payload) d = rw (admit_left write s mask payload d)
  refused_leaves (step i k) d = rw (step_left i k d)
  refused_leaves (report c) d = unfold play in rw (reports.report_refused w.state c (λ z. d (report_number c ∙ z)))
  refused_leaves (collect i result) d =
      unfold play in rw (collections.collect_refused w.state w.table w.work i result (λ z. d (collect_number_law i result ∙ z)))
  refused_leaves scan d = unfold play in refl
  refused_leaves start d = unfold play in rw (starts.start_refused w.state (λ z. d (start_number ∙ z)))
  refused_leaves rebuild d = rw (rebuild_left d)

  -- ---- what is lent is right: no call is refused by 1 to 4, and when the others are accepted

  module _ (right : Right w.state w.table w.work w.image) where
    pub lent : (e : Event) → ((play w e).reply.number ≡ 0) ⊎ (4 < (play w e).reply.number)
    lent (admit write s mask payload) =
        rw (admit_number_law write s mask payload) (admissions.admit_lently w.state w.table w.work w.image write s mask payload right)
    lent (step i k) = rw (step_number_law i k) (steppings.step_lently w.state w.table w.work w.image i k right)
    lent (report c) = rw (report_number c) (reports.report_lently w.state c right.limits right.whole)
    lent (collect i result) = rw (collect_number_law i result) (collections.collect_lently w.state w.table w.work i result w.image right)
    lent scan =
        unfold play in rw (scannings.scan_number_law w.state w.table w.image) (scannings.scan_lently w.state w.table w.image w.work right)
    lent start = rw start_number (starts.start_lently w.state right.limits right.whole)
    lent rebuild = rw rebuild_number_law (rebuildings.rebuild_lently w.state w.table w.image w.work right)

    pub start_grants : ¬ (w.state.out ≡ none) → w.state.fill ≡ no_fill → (play w start).reply.number ≡ 0
    start_grants one_out still =
        start_number ∙ starts.start_granted w.state (record { limits = right.limits; whole = right.whole; one_out = one_out; still = still })

    -- the stripe at the fill place is held, or it is not
    pub rebuild_grants : under_way w.state ≡ true → held w.table w.state.fill ≡ false → (play w rebuild).reply.number ≡ 0
    rebuild_grants way idle = rebuild_number_law ∙ rebuildings.rebuild_granted w.state w.table w.image w.work right way idle

    pub rebuild_waits : under_way w.state ≡ true → held w.table w.state.fill ≡ true → (play w rebuild).reply.number ≡ 8
    rebuild_waits way busy = rebuild_number_law ∙ rebuildings.rebuild_held w.state w.table w.image w.work right way busy

    pub rebuild_idle : (play w rebuild).reply.number ≡ 0 → held w.table w.state.fill ≡ false
    rebuild_idle ok =
        let tests = rebuild_tests ok in
        sym (rebuildings.idle_seen w.state w.table w.image w.work right tests.way) ∙ tests.seen_idle

    pub step_grants : (i k : ℕ) → i < w.state.records → is_open (record_at w i) ≡ true → step_ready w.state (record_at w i) k ≡ true
        → (play w (step i k)).reply.number ≡ 0
    step_grants i k h o ready = step_number_law i k ∙ steppings.step_granted w.state w.table w.work w.image i k (record { right = right; record_below = h; record_open = o; is_ready = ready })

    pub collect_grants : (i : ℕ) (result : List ℕ) → i < w.state.records → is_finished (record_at w i) ≡ true
        → result_short w.state (record_at w i) result ≡ false → (play w (collect i result)).reply.number ≡ 0
    collect_grants i result h f room =
        collect_number_law i result ∙ collections.collect_granted w.state w.table w.work i result w.image right (record { record_below = h; is_finished_law = f; room = room })

    pub scan_grants : w.state.out ≡ none → right_parity w.state.cards w.state.stripes w.state.block w.image (held w.table) ≡ true
        → (play w scan).reply ≡ accepted 0 0
    unfolding play
    scan_grants out parity = scannings.scan_granted w.state w.table w.image w.work right out parity
