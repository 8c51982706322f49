-- A turn: one record is replaced, and what else changes is that record's blocks and one stripe. Then every other record and stripe stays sure,
-- and the whole world is, if the record and the stripe themselves are.
-- Assumes nothing.
use Prim.Native.Nat.{ℕ, ◌*◌, ◌≤◌, ◌<◌}
use mathlib.Core.Bool.{true, false}
use mathlib.Core.List.{List}
use mathlib.Core.Logic.{◌⊎◌, inl, inr}
use mathlib.Core.Path.{◌≡◌, refl, sym, ap, ◌∙◌, subst}
use native.Mathlib.Omega.{arith}
use borrow.Author.Tests.{eqb-true, eqb-false, eq-eqb, ne_eqb}
use lib.Dec.{eqb}
use lib.ListN.{length, set, length-set}
use lib.Seq.{get_or-set_same, get_or-set_other}
use Rattle.terms.proofs.Lists.{part_cong}
use Rattle.terms.proofs.Rows.{truth}
use Rattle.geometry.proofs.Apart.{read_inside}
use Rattle.geometry.proofs.Bounds.{Bounds}
use Rattle.geometry.specs.Placement.{card_of_position, block_of}
use Rattle.geometry.specs.Store.{read_at}
use Rattle.parity.specs.Parity.{byte_at}
use Rattle.record.specs.Life.{free, is_open, is_finished, is_write, units_of, missing_in}
use Rattle.record.specs.Sound.{sound_record, held, holds}
use Rattle.record.specs.declared.Record.{Record}
use Rattle.array.proofs.Frames.{new_byte, got_byte}
use Rattle.stripe.proofs.Heart.{heart}
use Rattle.stripe.specs.Blocks.{changed}
use Rattle.history.specs.Account.{Account, Entry}
use Rattle.history.specs.Promise.{blocks_read}
use Rattle.history.specs.World.{World, record_at}
use Rattle.stripe.proofs.Bytes.{bytes}
use Rattle.history.proofs.Facts.{bounds, open_fits}
use Rattle.history.proofs.Gather.{gathered_cong}
use Rattle.history.proofs.Invariant.{Matches, Working, Resting, Sure, request_of}
use Rattle.history.proofs.Near.{faithful_near, two_below}
use Rattle.history.proofs.Rows.{row_of, after_row, row_cong, after_cong}
use Rattle.record.proofs.SoundTables.{Sound, sound_elim, sound_intro, held_elim, held_intro, holds_not, holds_elim}

-- record i becomes r', the work store, the image and the row become these, and the account's entry e'; the state stays. Of stripe s
pub record Turn (w : World) (a : Account) (i s : ℕ) (r' : Record) (work' image' : List ℕ) (row' : ℕ → List ℕ) (e' : Entry) : Type 0 where
  pub below : i < w.state.records
  -- nothing else changes
  pub same_work : length work' ≡ length w.work
  pub same_image : length image' ≡ length w.image
  pub got_others : (j q b : ℕ) → ¬ (i ≡ j) → q < w.state.cards → b < w.state.block
      → got_byte w.state.cards w.state.block work' j q b ≡ got_byte w.state.cards w.state.block w.work j q b
  pub new_others : (j q b : ℕ) → ¬ (i ≡ j) → q < w.state.cards → b < w.state.block
      → new_byte w.state.cards w.state.block work' j q b ≡ new_byte w.state.cards w.state.block w.work j q b
  pub cell_others : (c t b : ℕ) → ¬ (s ≡ t) → t < w.state.stripes → b < w.state.block
      → byte_at w.state.stripes w.state.block image' c t b ≡ byte_at w.state.stripes w.state.block w.image c t b
  pub row_others : (t u : ℕ) → ¬ (s ≡ t) → t < w.state.stripes → u < units_of w.state
      → row' (block_of w.state.cards t u) ≡ a.row (block_of w.state.cards t u)
  pub row_size : (L : ℕ) → L < units_of w.state * w.state.stripes → length (row' L) ≡ w.state.block
  -- record i is open on no other stripe, and no other record on this one
  pub old_here : is_open (record_at w i) ≡ true → (record_at w i).stripe ≡ s
  pub new_here : is_open r' ≡ true → r'.stripe ≡ s
  pub alone : (j : ℕ) → j < w.state.records → ¬ (i ≡ j) → is_open (record_at w j) ≡ true → ¬ (s ≡ (record_at w j).stripe)
  -- record i and stripe s themselves
  pub own_sound : sound_record w.state r' ≡ true
  pub own_entry : Matches w.state r' e'
  pub own_working : is_open r' ≡ true → Working w.state work' image' row' e' i r'
  pub own_read : is_finished r' ≡ true → is_write r' ≡ false
      → blocks_read w.state work' i r'.mask ≡ e'.due
  pub own_resting : s < w.state.stripes → is_open r' ≡ false → Resting w.state image' row' s

module _ (w : World) (a : Account) (sure : Sure w a) (i s : ℕ) (r' : Record) (work' image' : List ℕ) (row' : ℕ → List ℕ) (e' : Entry)
    (turn : Turn w a i s r' work' image' row' e') where
  abbrev after : World
  after = record { state = w.state; table = set w.table i r'; work = work'; image = image' }

  abbrev noted : Account
  noted = record { state = w.state; row = row'; entry = changed a.entry i e' }

  here : record_at after i ≡ r'
  here = get_or-set_same w.table i r' free (omega (arith, turn.below, sure.right.table_right))

  there : (j : ℕ) → ¬ (i ≡ j) → record_at after j ≡ record_at w j
  there j d = get_or-set_other w.table i j r' free (λ e. d (sym e))

  entry_here : noted.entry i ≡ e'
  unfolding changed
  entry_here = rw (eq-eqb i i refl)

  entry_there : (j : ℕ) → ¬ (i ≡ j) → noted.entry j ≡ a.entry j
  unfolding changed
  entry_there j d = rw (ne_eqb j i (λ e. d (sym e)))

  -- of each record: it is i, or another
  each : {P : ℕ → Type 0} → P i → ((j : ℕ) → ¬ (i ≡ j) → P j) → (j : ℕ) → P j
  each {P} own other j = go (truth (eqb i j))
    where
      go : (eqb i j ≡ true) ⊎ (eqb i j ≡ false) → P j
      go (inl e) = subst P (eqb-true i j e) own
      go (inr e) = other j (eqb-false i j e)

  same_length : length after.table ≡ length w.table
  same_length = length-set w.table i r'

  old : Sound w.state w.table
  old = sound_elim w.state w.table sure.right.is_sound

  small : (j : ℕ) → j < length after.table → j < w.state.records
  small j h = omega (arith, same_length, sure.right.table_right)

  -- ---- the table stays sound

  sound_each : (j : ℕ) → j < length after.table → sound_record w.state (record_at after j) ≡ true
  sound_each =
      each {P = λ j. j < length after.table → sound_record w.state (record_at after j) ≡ true} (λ h. rw here turn.own_sound)
      (λ j d h. rw (there j d) (old.each j (omega (arith, same_length))))

  -- no other record is open on the stripe of record i
  own_apart : (j : ℕ) → j < w.state.records → ¬ (i ≡ j) → is_open r' ≡ true → is_open (record_at w j) ≡ true → r'.stripe ≡ (record_at w j).stripe → ⊥
  own_apart j h d o p e = turn.alone j h d p (sym (turn.new_here o) ∙ e)

  sound_alone : (j k : ℕ) → j < length after.table → k < length after.table → is_open (record_at after j) ≡ true
      → is_open (record_at after k) ≡ true → (record_at after j).stripe ≡ (record_at after k).stripe → j ≡ k
  sound_alone =
      each {P = λ j. (k : ℕ) → j < length after.table → k < length after.table → is_open (record_at after j) ≡ true
      → is_open (record_at after k) ≡ true → (record_at after j).stripe ≡ (record_at after k).stripe → j ≡ k}
      (each {P = λ k. i < length after.table → k < length after.table → is_open (record_at after i) ≡ true
      → is_open (record_at after k) ≡ true → (record_at after i).stripe ≡ (record_at after k).stripe → i ≡ k}
      (λ hi hk o p e. refl)
      (λ k d hi hk o p e.
      absurd (own_apart k (small k hk) d (rw here at o) (rw (there k d) at p) (rw (here, there k d) at e))))
      (λ j d. each {P = λ k. j < length after.table → k < length after.table → is_open (record_at after j) ≡ true
      → is_open (record_at after k) ≡ true → (record_at after j).stripe ≡ (record_at after k).stripe → j ≡ k}
      (λ hj hi o p e.
      absurd (own_apart j (small j hj) d (rw here at p) (rw (there j d) at o) (sym (rw (here, there j d) at e))))
      (λ k c hj hk o p e.
      old.alone j k (omega (arith, same_length)) (omega (arith, same_length)) (rw (there j d) at o) (rw (there k c) at p)
      (rw (there j d, there k c) at e)))

  -- ---- other stripes

  row_there : (t b : ℕ) → ¬ (s ≡ t) → t < w.state.stripes → row_of w.state row' t b ≡ row_of w.state a.row t b
  row_there t b d h = row_cong w.state a.row t b row' (λ u hu. turn.row_others t u d h hu)

  -- a stripe that nobody holds now, and that is not s, was held by nobody
  not_held : (t : ℕ) → ¬ (s ≡ t) → held after.table t ≡ false → held w.table t ≡ false
  not_held t d free-now =
      held_intro w.table t
      (each {P = λ j. j < length w.table → holds t (record_at w j) ≡ false}
      (λ h. holds_not t (record_at w i) (λ o e. d (sym (turn.old_here o) ∙ e)))
      (λ j c h. ap (holds t) (sym (there j c)) ∙ held_elim after.table t free-now j (omega (arith, same_length))))

  resting_there : (t : ℕ) → ¬ (s ≡ t) → t < w.state.stripes → held after.table t ≡ false → Resting w.state image' row' t
  resting_there t d h free-now b hb =
      rw (row_there t b d h)
      ((heart bytes (units_of w.state)).decayed_idle (missing_in w.state t) _ _ _
      (λ p l m. turn.cell_others (card_of_position w.state t p) t b d h hb)
      (sure.resting t h (not_held t d free-now) b hb))

  -- nobody holds s now: record i does not
  resting_here : s < w.state.stripes → held after.table s ≡ false → Resting w.state image' row' s
  resting_here h free-now = turn.own_resting h (shut (truth (is_open r')))
    where
      own : holds s r' ≡ false
      own = ap (holds s) (sym here) ∙ held_elim after.table s free-now i (omega (arith, same_length, turn.below, sure.right.table_right))

      shut : (is_open r' ≡ true) ⊎ (is_open r' ≡ false) → is_open r' ≡ false
      shut (inl o) = absurd (holds_elim s r' own o (turn.new_here o))
      shut (inr o) = o

  resting_each : (t : ℕ) → t < w.state.stripes → held after.table t ≡ false → Resting w.state image' row' t
  resting_each t h free-now = go (truth (eqb s t))
    where
      go : (eqb s t ≡ true) ⊎ (eqb s t ≡ false) → Resting w.state image' row' t
      go (inl e) =
          let same = eqb-true s t e in
          subst (Resting w.state image' row') same (resting_here (rw (← same) at h) (rw (← same) at free-now))
      go (inr e) = resting_there t (eqb-false s t e) h free-now

  -- ---- other records

  limits : Bounds w.state.cards w.state.stripes w.state.block w.state.records
  limits = bounds sure.right

  position_below : (q : ℕ) → q ≤ units_of w.state → q < w.state.cards
  position_below q l = omega (arith, limits.cards_low)

  module _ (j : ℕ) (d : ¬ (i ≡ j)) (h : j < w.state.records) where
    working_there : is_open (record_at w j) ≡ true → Working w.state work' image' row' (a.entry j) j (record_at w j)
    working_there o =
        let off = turn.alone j h d o in
        let t = (record_at w j).stripe in
        let ht = (open_fits sure.right j h o).stripe_below in
        record {
          proper = (sure.working j h o).proper;
          renewed = (sure.working j h o).renewed;
          faithful = λ b hb.
              rw (
                row_there t b off ht,
                row_cong w.state (after_row w.state a.row (a.entry j)) t b (after_row w.state row' (a.entry j))
                    (λ u hu. after_cong w.state a.row (a.entry j) row' (block_of w.state.cards t u) (turn.row_others t u off ht hu)),
              )
              (faithful_near bytes (units_of w.state) (missing_in w.state t) (request_of w.state (record_at w j)) _ _ _ _ _
              (two_below (units_of w.state) (missing_in w.state t) (request_of w.state (record_at w j)) (sure.working j h o).proper)
              (record {
                same_cell = λ p l m. turn.cell_others (card_of_position w.state t p) t b off ht hb;
                same_got = λ p l. turn.got_others j p b d (position_below p l) hb;
                same_new = λ p l. turn.new_others j p b d (position_below p l) hb;
              })
              ((sure.working j h o).faithful b hb));
        }

    read_there : (mask : ℕ) → blocks_read w.state work' j mask ≡ blocks_read w.state w.work j mask
    unfolding blocks_read
    read_there mask =
        gathered_cong mask (units_of w.state) _ _
        (λ u hu m.
        let room = read_inside w.state.cards w.state.block w.state.records j u h (omega arith) in
        part_cong (read_at w.state.cards w.state.block j u) w.state.block work' (read_at w.state.cards w.state.block j u) w.work 0
        (omega (arith, turn.same_work, sure.right.work_right)) (omega (arith, sure.right.work_right))
        (λ b hb. turn.got_others j u b d (omega arith) hb))

  -- ---- the whole

  pub turned : Sure after noted
  turned =
      record {
        right = record {
          limits = sure.right.limits;
          image_right = turn.same_image ∙ sure.right.image_right;
          table_right = same_length ∙ sure.right.table_right;
          work_right = turn.same_work ∙ sure.right.work_right;
          is_sound = sound_intro w.state after.table (record { each = sound_each; alone = sound_alone });
          whole = sure.right.whole;
        };
        row_size = turn.row_size;
        entries = each {P = λ j. j < w.state.records → Matches w.state (record_at after j) (noted.entry j)}
            (λ h. rw (here, entry_here) turn.own_entry)
            (λ j d h. rw (there j d, entry_there j d) (sure.entries j h));
        resting = resting_each;
        working = each {P = λ j. j < w.state.records → is_open (record_at after j) ≡ true
            → Working w.state work' image' row' (noted.entry j) j (record_at after j)}
            (λ h o. rw (here, entry_here) (turn.own_working (rw here at o)))
            (λ j d h o. rw (there j d, entry_there j d) (working_there j d h (rw (there j d) at o)));
        read = each {P = λ j. j < w.state.records → is_finished (record_at after j) ≡ true → is_write (record_at after j) ≡ false
            → blocks_read w.state work' j (record_at after j).mask ≡ (noted.entry j).due}
            (λ h f g. rw (here, entry_here) (turn.own_read (rw here at f) (rw here at g)))
            (λ j d h f g. rw (there j d, entry_there j d) (read_there j d h (record_at w j).mask ∙ sure.read j h (rw (there j d) at f) (rw (there j d) at g)));
      }
