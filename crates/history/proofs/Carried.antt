-- What may happen to the state and the image while the table and the work store stay. The geometry is the same; and each stripe is carried on: its
-- missing card stays or was none, and the positions that are not missing now hold what they held; or no open request holds it, and it rests on the
-- row as the state and the image now are. Then the world stays sure.
-- So go a report (Report), decay of what is missing (Decay), the start of a fill, and a stripe whose missing block is put right (PutRight, Fills).
-- An open request's stripe always goes on: its missing card stays, or was none. So it turns from none to a card once at most while the request is open,
-- and no request is chosen afresh twice: that is why 2n+3 stands, whatever fails and is filled meanwhile.
-- Assumes nothing.
use Prim.Native.Nat.{ℕ, ◌≤◌, ◌<◌}
use mathlib.Core.Bool.{Bool, true, false}
use mathlib.Core.List.{List}
use mathlib.Core.Logic.{◌⊎◌, inl, inr, ⊎_elim}
use mathlib.Core.Path.{◌≡◌, refl, sym, ap, subst, ◌∙◌}
use native.Mathlib.Omega.{arith}
use lib.ListN.{length}
use Rattle.terms.proofs.Rows.{truth}
use Rattle.geometry.proofs.Bounds.{Bounds}
use Rattle.geometry.proofs.Placing.{missing_none}
use Rattle.geometry.specs.Limits.{none, no_fill, geometry_of, state_of, beyond_state}
use Rattle.geometry.specs.Placement.{out_in}
use Rattle.geometry.specs.declared.Geometry.{Geometry}
use Rattle.geometry.specs.declared.State.{State}
use Rattle.record.proofs.Clauses.{Fit, fit, fit_sound, chosen_none, chosen_missing, chosen_any, open_chosen, finished_chosen}
use Rattle.record.specs.Life.{is_free, is_open, units_of, missing_in}
use Rattle.record.specs.Sound.{sound_record, legal_chosen, right_graph, right_steps, right_count, lacks_none, held}
use Rattle.record.specs.declared.Record.{Record}
use Rattle.array.specs.Lent.{unit_bytes}
use Rattle.stripe.proofs.Bytes.{bytes}
use Rattle.stripe.proofs.Heart.{numbers, heart}
use Rattle.stripe.specs.Blocks.{Blocks}
use Rattle.stripe.specs.Invariant.{Proper, Idle, Faithful}
use Rattle.stripe.specs.Request.{Request}
use Rattle.history.specs.Account.{Account, Entry}
use Rattle.history.specs.Promise.{blocks_read}
use Rattle.history.specs.Row.{written_row, unit_in}
use Rattle.history.specs.World.{World, record_at}
use Rattle.history.proofs.Facts.{bounds, open_fits}
use Rattle.history.proofs.Invariant.{Matches, Working, Sure, Resting, cells_of}
use Rattle.history.proofs.Rows.{row_of, after_row}
use Rattle.record.proofs.SoundTables.{Sound, sound_elim, sound_intro, held_elim, holds_elim}

-- ---- of one stripe: position x was missing and y is now, the same one or none was; and positions but y hold what they held

module _ (n x y : ℕ) (moves : (y ≡ x) ⊎ (n < x)) where
  proper_on : (q : Request) → Proper n x q → Proper n y q
  proper_on q P = go moves
    where
      go : (y ≡ x) ⊎ (n < x) → Proper n y q
      go (inl e) = subst (λ (z : ℕ). Proper n z q) (sym e) P
      go (inr l) = (numbers n).failed x y q P l

  faithful_on : (q : Request) (renewed : ℕ → Bool) (R R' : ℕ → ℕ) (b : Blocks ℕ) (cell : ℕ → ℕ) → ((p : ℕ) → p ≤ n → ¬ (p ≡ y) → cell p ≡ b.cell p)
      → Faithful bytes n x q renewed R R' b → Faithful bytes n y q renewed R R' (record { cell = cell; got = b.got; new = b.new })
  faithful_on q renewed R R' b cell same F = (heart bytes n).decayed y q renewed R R' b cell same (go moves)
    where
      go : (y ≡ x) ⊎ (n < x) → Faithful bytes n y q renewed R R' b
      go (inl e) = subst (λ (z : ℕ). Faithful bytes n z q renewed R R' b) (sym e) F
      go (inr l) = (heart bytes n).failed x y q renewed R R' b F l

  idle_on : (R before after : ℕ → ℕ) → ((p : ℕ) → p ≤ n → ¬ (p ≡ y) → after p ≡ before p) → Idle bytes n x R before → Idle bytes n y R after
  idle_on R before after same I = (heart bytes n).decayed_idle y R before after same (go moves)
    where
      go : (y ≡ x) ⊎ (n < x) → Idle bytes n y R before
      go (inl e) = subst (λ (z : ℕ). Idle bytes n z R before) (sym e) I
      go (inr l) = (heart bytes n).failed_idle x y R before I l

-- ---- of a world, whose state turns to st and whose image to this one

module _ (w : World) (a : Account) (st : State) (image : List ℕ) where
  -- a stripe goes on as it was
  pub record GoesOn (s : ℕ) : Type 0 where
    pub stays : (out_in st s ≡ out_in w.state s) ⊎ (out_in w.state s ≡ none)
    pub same_cells : (b p : ℕ) → b < w.state.block → p ≤ units_of w.state → ¬ (p ≡ missing_in st s)
        → cells_of st image s b p ≡ cells_of w.state w.image s b p

  -- a stripe that no open request holds rests on the row anew
  pub record RestsAnew (s : ℕ) : Type 0 where
    pub idle : held w.table s ≡ false
    pub rests : Resting st image a.row s

  pub record Carried : Type 0 where
    pub same_geometry : geometry_of st ≡ geometry_of w.state
    pub same_length : length image ≡ length w.image
    pub within : beyond_state st ≡ false
    pub whole : st.lost ≡ 0
    pub each : (s : ℕ) → s < w.state.stripes → GoesOn s ⊎ RestsAnew s

module _ (w : World) (a : Account) (sure : Sure w a) where
  limits : Bounds w.state.cards w.state.stripes w.state.block w.state.records
  limits = bounds sure.right

  -- of this world's geometry
  module _ (out lost fill : ℕ) (image : List ℕ) (carried : Carried w a (state_of (geometry_of w.state) out lost fill) image) where
    abbrev st : State
    st = w.state

    abbrev st' : State
    st' = state_of (geometry_of w.state) out lost fill

    abbrev n : ℕ
    n = units_of st

    -- the missing position stays, or there was none
    moves : (s : ℕ) → (out_in st' s ≡ out_in st s) ⊎ (out_in st s ≡ none) → (missing_in st' s ≡ missing_in st s) ⊎ (n < missing_in st s)
    moves s (inl e) = inl (rw e)
    moves s (inr e) =
        let m : missing_in st s ≡ st.cards = missing_none st s (out_in st s) (omega (arith, e, limits.cards_high)) in
        inr (omega (arith, m, limits.cards_low))

    -- an open record's chosen-with card is none, or the one that stays
    chosen_stays : (r : Record) → is_open r ≡ true → (out_in st' r.stripe ≡ out_in st r.stripe) ⊎ (out_in st r.stripe ≡ none)
        → legal_chosen st r ≡ true → legal_chosen st' r ≡ true
    chosen_stays r o h e = go (open_chosen st r o e) h
      where
        go : (r.chosen ≡ none) ⊎ (r.chosen ≡ out_in st r.stripe) → (out_in st' r.stripe ≡ out_in st r.stripe) ⊎ (out_in st r.stripe ≡ none)
            → legal_chosen st' r ≡ true
        go (inl f) h = chosen_none st' r f
        go (inr f) (inl g) = chosen_missing st' r o (f ∙ sym g)
        go (inr f) (inr g) = chosen_none st' r (f ∙ g)

    -- a finished one's is none, or any card
    chosen_past : (r : Record) → is_open r ≡ false → legal_chosen st r ≡ true → legal_chosen st' r ≡ true
    chosen_past r o e = ⊎_elim (λ f. chosen_none st' r f) (λ f. chosen_any st' r o f) (finished_chosen st r o e)

    -- no open record is of a stripe that no open request holds
    not_open : (i : ℕ) → i < st.records → held w.table (record_at w i).stripe ≡ false → is_open (record_at w i) ≡ true → ⊥
    not_open i h idle o =
        holds_elim (record_at w i).stripe (record_at w i) (held_elim w.table (record_at w i).stripe idle i (omega (arith, sure.right.table_right))) o refl

    sound_stays : (i : ℕ) → i < st.records → sound_record st (record_at w i) ≡ true → sound_record st' (record_at w i) ≡ true
    sound_stays i h e = go (is_free r) refl
      where
        r : Record
        r = record_at w i

        known : Fit st r → (is_open r ≡ true) ⊎ (is_open r ≡ false) → GoesOn w a st' image r.stripe ⊎ RestsAnew w a st' image r.stripe
            → legal_chosen st' r ≡ true
        known was (inl o) (inl g) = chosen_stays r o g.stays was.chosen_legal
        known was (inl o) (inr g) = absurd (not_open i h g.idle o)
        known was (inr o) g = chosen_past r o was.chosen_legal

        all : is_free r ≡ false → Fit st' r
        all f =
            let was = fit st r e f in
            unfold right_graph right_steps right_count lacks_none in
            record {
              going = was.going;
              kind = was.kind;
              stripe_below = was.stripe_below;
              mask_legal = was.mask_legal;
              graph_legal = was.graph_legal;
              chosen_legal = known was (truth (is_open r)) (carried.each r.stripe was.stripe_below);
              right_graph_law = was.right_graph_law;
              right_steps_law = was.right_steps_law;
              right_count_law = was.right_count_law;
            }

        go : (t : Bool) → is_free r ≡ t → sound_record st' r ≡ true
        go true f = unfold sound_record in rw f (rw f at e)
        go false f = fit_sound st' r (all f)

    sound_now : Sound st' w.table
    sound_now =
        let was = sound_elim st w.table sure.right.is_sound in
        record { each = λ i h. sound_stays i (omega (arith, sure.right.table_right)) (was.each i h); alone = was.alone }

    matches_now : (r : Record) (e : Entry) → Matches st r e → Matches st' r e
    unfolding unit_bytes
    matches_now r e m =
        record {
          agree = m.agree;
          paid = m.paid;
          nothing_due = m.nothing_due;
        }

    works_now : (i : ℕ) → i < st.records → is_open (record_at w i) ≡ true
        → Working st' w.work image a.row (a.entry i) i (record_at w i)
    unfolding row_of after_row written_row unit_in
    works_now i h o = go (carried.each r.stripe (open_fits sure.right i h o).stripe_below)
      where
        r : Record
        r = record_at w i

        go : GoesOn w a st' image r.stripe ⊎ RestsAnew w a st' image r.stripe → Working st' w.work image a.row (a.entry i) i r
        go (inl g) =
            let was = sure.working i h o in
            let on = moves r.stripe g.stays in
            record {
              proper = proper_on n (missing_in st r.stripe) (missing_in st' r.stripe) on _ was.proper;
              renewed = was.renewed;
              faithful = λ b hb.
                  faithful_on n (missing_in st r.stripe) (missing_in st' r.stripe) on _ _ _ _ _ (cells_of st' image r.stripe b)
                  (λ p l d. g.same_cells b p hb l d) (was.faithful b hb);
            }
        go (inr g) = absurd (not_open i h g.idle o)

    rests_now : (s : ℕ) → s < st.stripes → held w.table s ≡ false → Resting st' image a.row s
    unfolding row_of
    rests_now s h free-now = go (carried.each s h)
      where
        go : GoesOn w a st' image s ⊎ RestsAnew w a st' image s → Resting st' image a.row s
        go (inl g) =
            λ b hb.
            idle_on n (missing_in st s) (missing_in st' s) (moves s g.stays) _ _ (cells_of st' image s b) (λ p l d. g.same_cells b p hb l d)
            (sure.resting s h free-now b hb)
        go (inr g) = g.rests

    sure_now : (book : State)
        → Sure (record { state = st'; table = w.table; work = w.work; image = image }) (record { state = book; row = a.row; entry = a.entry })
    unfolding blocks_read
    sure_now book =
        record {
          right = record {
            limits = carried.within;
            image_right = carried.same_length ∙ sure.right.image_right;
            table_right = sure.right.table_right;
            work_right = sure.right.work_right;
            is_sound = sound_intro st' w.table sound_now;
            whole = carried.whole;
          };
          row_size = sure.row_size;
          entries = λ i h. matches_now (record_at w i) (a.entry i) (sure.entries i h);
          resting = rests_now;
          working = works_now;
          read = sure.read;
        }

  -- of any state of the same geometry, whatever state the account notes
  pub carried_sure : (st : State) (image : List ℕ) → Carried w a st image → (book : State)
      → Sure (record { state = st; table = w.table; work = w.work; image = image }) (record { state = book; row = a.row; entry = a.entry })
  carried_sure st image carried =
      subst
      (λ (g : Geometry). Carried w a (state_of g st.out st.lost st.fill) image → (book : State)
      → Sure (record { state = state_of g st.out st.lost st.fill; table = w.table; work = w.work; image = image }) (record { state = book; row = a.row; entry = a.entry }))
      (sym carried.same_geometry) (sure_now st.out st.lost st.fill image) carried

-- ---- the state alone changes: the geometry is the same, and in each stripe the missing card stays or was none

pub record Onward (st st' : State) : Type 0 where
  pub same_geometry : geometry_of st' ≡ geometry_of st
  pub stays : (s : ℕ) → s < st.stripes → (out_in st' s ≡ out_in st s) ⊎ (out_in st s ≡ none)

-- the bytes of the positions are the same where the geometry is
pub same_cells : (st st' : State) → geometry_of st' ≡ geometry_of st → (image : List ℕ) (s b p : ℕ) → cells_of st' image s b p ≡ cells_of st image s b p
same_cells one other same image s b p = ap (λ (g : Geometry). cells_of (state_of g none 0 no_fill) image s b p) same

pub onward_sure : (w : World) (a : Account) → Sure w a → (st : State) → Onward w.state st → beyond_state st ≡ false → st.lost ≡ 0 → (book : State)
    → Sure (record { state = st; table = w.table; work = w.work; image = w.image }) (record { state = book; row = a.row; entry = a.entry })
onward_sure w a sure st on within whole =
    carried_sure w a sure st w.image
    (record {
      same_geometry = on.same_geometry;
      same_length = refl;
      within = within;
      whole = whole;
      each = λ s h.
          inl (record { stays = on.stays s h; same_cells = λ b p hb l d. same_cells w.state st on.same_geometry w.image s b p });
    })
