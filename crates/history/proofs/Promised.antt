-- From the invariant to the promise: what is due and what is counted, that no call is refused for what it is lent, and that every open request
-- has a step to take.
-- Assumes nothing.
use Prim.Native.Nat.{ℕ, ◌+◌, ◌*◌, ◌≤◌, ◌<◌}
use mathlib.Core.Bool.{Bool, true, false, cond, not, ◌&&◌}
use mathlib.Core.List.{List, ◌++◌}
use mathlib.Core.Logic.{◌⊎◌, inl, inr}
use mathlib.Core.Path.{◌≡◌, refl, sym, ap, ap₂, ◌∙◌, subst}
use native.Mathlib.Omega.{arith}
use borrow.Author.Tests.{eqb-true, eq-eqb, leb-true, le-ltb}
use lib.Dec.{ltb, eqb}
use lib.ListN.{length, get_or, drop}
use Rattle.terms.specs.Lists.{part}
use Rattle.terms.specs.Reply.{accepted}
use Rattle.terms.proofs.Lists.{length_part}
use Rattle.terms.proofs.Rows.{and_right, truth}
use Rattle.terms.proofs.Sets.{lowest_holds}
use Rattle.geometry.proofs.Apart.{read_inside}
use Rattle.geometry.proofs.Missing.{filled_none, none_missing}
use Rattle.geometry.specs.Store.{read_at}
use Rattle.geometry.specs.declared.State.{State}
use Rattle.record.proofs.Soundness.{sound_record_law, sound_ready}
use Rattle.record.specs.Life.{free, is_free, is_open, is_finished, units_of}
use Rattle.record.specs.Sound.{all_zero, legal_mask, lacks_none, right_count, sound_record, held, lowest_free}
use Rattle.record.specs.declared.Record.{Record}
use Rattle.array.proofs.Rank.{rank_all}
use Rattle.array.specs.Collection.{hand_over}
use Rattle.array.specs.Lent.{rank, unit_bytes}
use Rattle.array.specs.Refusals.{result_short, step_ready}
use Rattle.history.specs.Account.{Account, Entry}
use Rattle.history.specs.Promise.{Vacant, Open, Finished, Idle, Works, Filling, Filled, stripe_for, card_for, parity_for, Agree, blocks_read, Promise}
use Rattle.history.specs.World.{World, admit, step, collect, rebuild, Outcome, play, record_at}
use Rattle.history.proofs.Facts.{bounds, fits}
use Rattle.history.proofs.Gather.{gathered_length, hand_over_law}
use Rattle.history.proofs.Invariant.{Sure}
use Rattle.history.proofs.Records.{mask_units}
use Rattle.history.proofs.Replies.{admit_tests, admit_taken, step_tests, collect_tests, collect_taken, rebuild_taken, lent, step_grants, collect_grants, rebuild_grants, rebuild_waits}
use Rattle.history.proofs.Stripes.{promised_unit, promised_parity, promised_inferred, promised_scan}
use Rattle.record.proofs.SoundTables.{held_intro, holds_not}
use Rattle.record.proofs.Clauses.{open_not_free, finished_not_free}

-- a free record that is sound has counted nothing
zero_count : (r : Record) → all_zero r ≡ true → r.count ≡ 0
unfolding all_zero
zero_count r e =
    let before : Bool = eqb r.phase 0 && eqb r.write 0 && eqb r.stripe 0 && eqb r.mask 0 && eqb r.graph 0 && eqb r.chosen 0 && eqb r.done 0 in
    eqb-true r.count 0 (and_right before (eqb r.count 0) e)

free_count : (st : State) (r : Record) → sound_record st r ≡ true → is_free r ≡ true → r.count ≡ 0
unfolding sound_record
free_count st r e f = zero_count r (rw f at e)

-- a world, and an account that has its state
module _ (w : World) (row : ℕ → List ℕ) (entry : ℕ → Entry) where
  abbrev a : Account
  a = record { state = w.state; row = row; entry = entry }

  abbrev st : State
  st = w.state

  module _ (sure : Sure w a) where
    agree : (i : ℕ) → i < st.records → Agree (record_at w i) (entry i)
    agree i h = (sure.entries i h).agree

    -- ---- the record is in the entry's phase, and the entry in the record's

    open_record : (i : ℕ) → Open a i → is_open (record_at w i) ≡ true
    open_record i o = eq-eqb (record_at w i).phase 1 ((agree i o.0).same_phase ∙ o.1)

    finished_record : (i : ℕ) → Finished a i → is_finished (record_at w i) ≡ true
    finished_record i f = eq-eqb (record_at w i).phase 2 ((agree i f.0).same_phase ∙ f.1)

    entry_phase : (i k : ℕ) → i < st.records → eqb (record_at w i).phase k ≡ true → (entry i).phase ≡ k
    entry_phase i k h e = sym (agree i h).same_phase ∙ eqb-true (record_at w i).phase k e

    -- a stripe that no open entry holds is held by no record
    not_held : (s : ℕ) → Idle a s → held w.table s ≡ false
    not_held s idle =
        held_intro w.table s
        (λ i b.
        let h : i < st.records = omega (arith, sure.right.table_right) in
        holds_not s (record_at w i) (λ o e. idle i (h, entry_phase i 1 h o) (sym (agree i h).same_stripe ∙ e)))

    -- ---- what is due of a finished record

    -- its read blocks are of B bytes
    block_read : (i u : ℕ) → i < st.records → u < units_of st → length (part (read_at st.cards st.block i u) st.block w.work) ≡ st.block
    block_read i u h hu =
        length_part (read_at st.cards st.block i u) st.block w.work
        (omega (arith, sure.right.work_right, read_inside st.cards st.block st.records i u h (omega arith)))

    reads : (i : ℕ) → Finished a i → (entry i).write ≡ false → blocks_read st w.work i (entry i).mask ≡ (entry i).due
    reads i f reading =
        rw (← (agree i f.0).same_mask) (sure.read i f.0 (finished_record i f) ((agree i f.0).same_kind ∙ reading))

    module _ (i : ℕ) (f : Finished a i) where
      abbrev e : Entry
      e = entry i

      -- of a read, m·B bytes
      due_length : e.write ≡ false → length e.due ≡ rank e.mask (units_of st) * st.block
      unfolding blocks_read
      due_length reading =
          ap length (sym (reads i f reading))
          ∙ gathered_length e.mask st.block _ (units_of st) (λ u hu m. block_read i u f.0 hu)

      mask_below : legal_mask (units_of st) e.mask ≡ true
      mask_below =
          rw (← (agree i f.0).same_mask)
          (fits sure.right i f.0 (finished_not_free (record_at w i) (finished_record i f))).mask_legal

      bytes_due : e.write ≡ false → unit_bytes st e.mask ≡ length e.due
      unfolding unit_bytes
      bytes_due reading =
          ap (λ (k : ℕ). k * st.block) (sym (rank_all (units_of st) e.mask (mask_units (units_of st) e.mask mask_below)))
          ∙ sym (due_length reading)

      -- what collect hands over
      handed : (result : List ℕ) → cond e.write result (hand_over st i e.mask w.work result) ≡ e.due ++ drop (length e.due) result
      unfolding blocks_read
      handed result = go e.write refl
        where
          go : (t : Bool) → e.write ≡ t → cond t result (hand_over st i e.mask w.work result) ≡ e.due ++ drop (length e.due) result
          go true g = rw ((sure.entries i f.0).nothing_due g)
          go false g =
              hand_over_law st i e.mask w.work result (λ u hu. block_read i u f.0 hu)
              ∙ ap₂ (λ (front : List ℕ) (k : ℕ). front ++ drop k result) (reads i f g) (sym (due_length g))

      roomy : (result : List ℕ) → length e.due ≤ length result → result_short st (record_at w i) result ≡ false
      unfolding result_short
      roomy result room = rw ((agree i f.0).same_kind, (agree i f.0).same_mask) (go e.write refl)
        where
          go : (t : Bool) → e.write ≡ t → (not t && ltb (length result) (unit_bytes st e.mask)) ≡ false
          go true g = refl
          go false g = le-ltb (length result) (unit_bytes st e.mask) (omega (arith, bytes_due g))

    -- ---- accepted calls

    -- the lowest free record
    was_free : lowest_free w.table < length w.table → is_free (record_at w (lowest_free w.table)) ≡ true
    unfolding lowest_free
    was_free some = lowest_holds (length w.table) (λ i. is_free (get_or w.table i free)) some

    takes_vacant : (write : Bool) (s mask : ℕ) (payload : List ℕ) → (play w (admit write s mask payload)).reply.number ≡ 0
        → Vacant a (play w (admit write s mask payload)).reply.first
    takes_vacant write s mask payload ok =
        let tests = admit_tests w write s mask payload ok in
        let below : lowest_free w.table < st.records = omega (arith, tests.some_free, sure.right.table_right) in
        rw (admit_taken w write s mask payload ok)
        (below, entry_phase (lowest_free w.table) 0 below (was_free tests.some_free))

    steps_open : (i k : ℕ) → (play w (step i k)).reply.number ≡ 0 → Open a i
    steps_open i k ok =
        let tests = step_tests w i k ok in
        (tests.record_below, entry_phase i 1 tests.record_below tests.record_open)

    module _ (i : ℕ) (result : List ℕ) (ok : (play w (collect i result)).reply.number ≡ 0) where
      collects_finished : Finished a i
      collects_finished =
          let tests = collect_tests w i result ok in
          (tests.record_below, entry_phase i 2 tests.record_below tests.is_finished_law)

      counts : (play w (collect i result)).reply ≡ accepted (entry i).steps 0
      counts =
          rw (collect_taken w i result ok)
          (ap (λ (c : ℕ). accepted c 0) (agree i collects_finished.0).same_count)

      collects : (play w (collect i result)).result ≡ (entry i).due ++ drop (length (entry i).due) result
      collects =
          rw (collect_taken w i result ok, (agree i collects_finished.0).same_kind, (agree i collects_finished.0).same_mask)
          (handed i collects_finished result)

    -- ---- counts

    most_open : (i : ℕ) → Open a i → (entry i).steps ≤ 2 * units_of st + 2
    unfolding right_count
    most_open i o =
        let r : Record = record_at w i in
        let count = (fits sure.right i o.0 (open_not_free r (open_record i o))).right_count_law in
        let l = leb-true r.count (2 * units_of st + 2) (and_right (not (lacks_none st r)) _ (rw (open_record i o) at count)) in
        omega (arith, (agree i o.0).same_count)

    most : (i : ℕ) → i < st.records → (entry i).steps ≤ 2 * units_of st + 3
    unfolding right_count
    most i h = rw (← (agree i h).same_count) (go (truth (is_free r)) (truth (is_open r)))
      where
        r : Record
        r = record_at w i

        go : (is_free r ≡ true) ⊎ (is_free r ≡ false) → (is_open r ≡ true) ⊎ (is_open r ≡ false) → r.count ≤ 2 * units_of st + 3
        go (inl f) o =
            omega (arith, free_count st r (sound_record_law st w.table sure.right.is_sound i) f)
        go (inr f) (inl o) =
            let l = most_open i (h, entry_phase i 1 h o) in
            omega (arith, (agree i h).same_count)
        go (inr f) (inr o) =
            let count = (fits sure.right i h f).right_count_law in
            leb-true r.count (2 * units_of st + 3) (and_right (lacks_none st r) _ (and_right (is_finished r) _ (rw o at count)))

    -- ---- an open record has a step

    goes_on : (i : ℕ) → Open a i → (k : ℕ) × ((play w (step i k)).reply.number ≡ 0)
    unfolding step_ready
    goes_on i o =
        let ready = sound_ready st (record_at w i) (sound_record_law st w.table sure.right.is_sound i) (open_record i o) in
        (ready.0, step_grants w sure.right i ready.0 o.0 (open_record i o) ready.1)

    -- ---- a fill

    -- in a filled stripe every card works
    nothing_missing : (c s : ℕ) → Filled a s → Works a c s
    nothing_missing c s full = none_missing st c s (omega (arith, filled_none st s full, (bounds sure.right).cards_high))

    fills : Filling a → Idle a st.fill → (play w rebuild).reply ≡ accepted st.fill 0
    fills way idle = ap (λ (o : Outcome). o.reply) (rebuild_taken w (rebuild_grants w sure.right way (not_held st.fill idle)))

    waits : Filling a → ((play w rebuild).reply.number ≡ 0) ⊎ ((play w rebuild).reply.number ≡ 8)
    waits way = go (truth (held w.table st.fill))
      where
        go : (held w.table st.fill ≡ true) ⊎ (held w.table st.fill ≡ false) → ((play w rebuild).reply.number ≡ 0) ⊎ ((play w rebuild).reply.number ≡ 8)
        go (inl busy) = inr (rebuild_waits w sure.right way busy)
        go (inr idle) = inl (rebuild_grants w sure.right way idle)

    promised : Promise play w a
    promised =
        record {
          same_state = refl;
          agrees = agree;
          takes_vacant = takes_vacant;
          steps_open = steps_open;
          collects_finished = collects_finished;
          reads = reads;
          counts = counts;
          collects = collects;
          collectable = λ i result f room. collect_grants w sure.right i result f.0 (finished_record i f) (roomy i f result room);
          units = λ L h idle. promised_unit w a sure L h (not_held _ idle);
          parity = λ s h idle. promised_parity w a sure s h (not_held s idle);
          inferred = λ L h idle. promised_inferred w a sure L h (not_held _ idle);
          filled_units = λ L h idle full. promised_unit w a sure L h (not_held _ idle) (nothing_missing (card_for a L) (stripe_for a L) full);
          filled_parity = λ s h idle full. promised_parity w a sure s h (not_held s idle) (nothing_missing (parity_for a s) s full);
          fills = fills;
          waits = waits;
          scans = promised_scan w a sure;
          most = most;
          most_open = most_open;
          is_sound = sure.right.is_sound;
          lent_right = lent w sure.right;
          progress = goes_on;
        }

-- of any account whose state is the world's
pub promise : (w : World) (a : Account) → w.state ≡ a.state → Sure w a → Promise play w a
promise w a same =
    subst
    (λ (st : State). Sure w (record { state = st; row = a.row; entry = a.entry }) → Promise play w (record { state = st; row = a.row; entry = a.entry }))
    same (promised w a.row a.entry)
