-- A survey that is made record by record is the survey of the table.
-- Assumes nothing.
use Prim.Native.Nat.{ℕ, zero, suc, ◌+◌, ◌≤◌, ◌<◌}
use mathlib.Core.Bool.{Bool, true, false, cond, not, ◌&&◌, not-not}
use mathlib.Core.List.{List}
use mathlib.Core.Logic.{⊎_elim}
use mathlib.Core.Path.{◌≡◌, refl, sym, ap, ◌∙◌}
use native.Mathlib.Numerals.{add-one}
use native.Mathlib.Omega.{arith}
use borrow.Author.Tests.{ltb-true, ltb-false, lt-ltb, le-ltb, leb-true, le-leb, eqb-true, eqb-false, eq-eqb, ne_eqb, not-true}
use lib.Dec.{ltb, leb, eqb}
use lib.ListN.{length, get_or, set, get_or-eq_default}
use Rattle.terms.proofs.Lists.{get_d_tabulate, every_elim, every_intro}
use Rattle.terms.proofs.Rows.{truth, and_left, and_right, and_both}
use Rattle.terms.proofs.Sets.{all_below_elim, all_below_intro, all_below_cong, lowest_le, lowest_is, lowest_none, lowest_holds, lowest_before}
use Rattle.terms.specs.Lists.{tabulate, every}
use Rattle.terms.specs.Sets.{all_below, lowest}
use Rattle.geometry.proofs.States.{state_bounds}
use Rattle.geometry.specs.Limits.{beyond_state}
use Rattle.geometry.specs.declared.State.{State}
use Rattle.graph.proofs.Few.{few}
use Rattle.graph.proofs.Rules.{both_ways}
use Rattle.record.proofs.Clashes.{eqb_sym, apart_elim, apart_intro}
use Rattle.record.proofs.Clauses.{fit, open_not_free}
use Rattle.record.proofs.Filling.{entry, entry_at, filling, filling_more, filling_same, filling_is}
use Rattle.record.specs.Asked.{few_in, no_stripe, held_stripe, sound_record_in}
use Rattle.record.specs.Life.{free, is_free, is_open, units_of}
use Rattle.record.specs.Seen.{looks_at_many, to_see, started, held_before, fine, still_sound, still_free, seen, seen_to}
use Rattle.record.specs.Sound.{all_zero, sound_record, clash, apart, sound, holds, lowest_free}
use Rattle.record.specs.Survey.{looks_at, unseen, survey_of}
use Rattle.record.specs.declared.Record.{Record}
use Rattle.record.specs.declared.Survey.{Survey}

-- ---- which tables are looked at

pub record Looked (st : State) (n : ℕ) : Type 0 where
  pub few_records : n ≤ 8
  pub few_units_law : few_in st ≡ true
  pub few_stripes : st.stripes ≤ no_stripe

pub looked : (st : State) (n : ℕ) → looks_at_many st n ≡ true → Looked st n
unfolding looks_at_many
looked st n e =
    let ab = and_left (leb n 8 && leb st.cards 8) (leb st.stripes 1024) e in
    let c = leb-true st.cards 8 (and_right (leb n 8) (leb st.cards 8) ab) in
    record {
      few_records = leb-true n 8 (and_left (leb n 8) (leb st.cards 8) ab);
      few_units_law = few (units_of st) (omega arith);
      few_stripes = leb-true st.stripes 1024 (and_right (leb n 8 && leb st.cards 8) (leb st.stripes 1024) e);
    }

-- ---- one record

-- the stripe that it holds tells whether it holds a stripe
pub holds_stripe : (q : Record) (s : ℕ) → s < no_stripe → eqb (held_stripe q) s ≡ holds s q
unfolding held_stripe holds
holds_stripe q s h = go (is_open q)
  where
    go : (b : Bool) → eqb (cond b q.stripe no_stripe) s ≡ (b && eqb q.stripe s)
    go true = refl
    go false = ne_eqb no_stripe s (λ e. omega arith)

held_free : held_stripe free ≡ no_stripe
unfolding held_stripe
held_free = refl

pub free_holds : (s : ℕ) → not (holds s free) ≡ true
unfolding holds
free_holds s = refl

-- two records clash where the first is open, and the second holds its stripe
clash_held : (r q : Record) → (is_open r ≡ true → r.stripe < no_stripe) → (is_open r && eqb (held_stripe q) r.stripe) ≡ clash r q
unfolding clash holds
clash_held r q below = go (is_open r) refl
  where
    go : (b : Bool) → is_open r ≡ b → (b && eqb (held_stripe q) r.stripe) ≡ (b && is_open q && eqb r.stripe q.stripe)
    go true o = holds_stripe q r.stripe (below o) ∙ ap (◌&&◌ (is_open q)) (eqb_sym q.stripe r.stripe)
    go false o = refl

-- none before i is one, or it does not matter
any_of : (i : ℕ) (x : Bool) (p : ℕ → Bool) → not (x && not (all_below i (λ j. not (p j)))) ≡ all_below i (λ j. not (x && p j))
any_of i true p = not-not (all_below i (λ j. not (p j)))
any_of i false p = sym (all_below_intro i (λ j. true) (λ j h. refl))

-- ---- the lowest number, as a loop finds it

module _ (n : ℕ) (p : ℕ → Bool) where
  -- the lowest of those below i, and n where there is none
  unfoldable lowest_to : ℕ → ℕ
  lowest_to i = cond (ltb (lowest i p) i) (lowest i p) n

  lowest_more : (i : ℕ) → i < n → cond (p i && eqb (lowest_to i) n) i (lowest_to i) ≡ lowest_to (suc i)
  unfolding lowest_to
  lowest_more i h =
      ⊎_elim
      (λ a.
      let b = ltb-true (lowest i p) i a in
      let same : lowest (suc i) p ≡ lowest i p = lowest_is (suc i) p (lowest i p) (omega arith) (lowest_holds i p b) (lowest_before i p) in
      rw (a, same, lt-ltb (lowest i p) (suc i) (omega arith), ne_eqb (lowest i p) n (λ q. omega arith)) (none_of (p i) (lowest i p)))
      (λ a.
      let b = ltb-false (lowest i p) i a in
      let le = lowest_le i p in
      let at : lowest i p ≡ i = omega arith in
      let before : (j : ℕ) → j < i → p j ≡ false = λ j k. lowest_before i p j (omega arith) in
      rw (a, eq-eqb n n refl) (at_last (p i) refl before))
      (truth (ltb (lowest i p) i))
    where
      none_of : (b : Bool) (x : ℕ) → cond (b && false) i x ≡ x
      none_of true x = refl
      none_of false x = refl

      at_last : (b : Bool) → p i ≡ b → ((j : ℕ) → j < i → p j ≡ false) → cond (b && true) i n ≡ cond (ltb (lowest (suc i) p) (suc i)) (lowest (suc i) p) n
      at_last true q before = rw (lowest_is (suc i) p i (omega arith) q before, lt-ltb i (suc i) (omega arith))
      at_last false q before =
          let none : lowest (suc i) p ≡ suc i =
          lowest_none (suc i) p
          (λ j k. ⊎_elim (λ x. ap p (eqb-true j i x) ∙ q) (λ x. before j (omega (arith, eqb-false j i x))) (truth (eqb j i))) in
          rw (none, le-ltb (suc i) (suc i) (omega arith))

  -- at the end it is the lowest of all
  lowest_end : lowest_to n ≡ lowest n p
  unfolding lowest_to
  lowest_end =
      ⊎_elim (λ a. rw a)
      (λ a.
      let b = ltb-false (lowest n p) n a in
      let le = lowest_le n p in
      let at : n ≡ lowest n p = omega arith in
      rw a at)
      (truth (ltb (lowest n p) n))

-- ---- the survey, record by record

-- two surveys are equal where all that they tell is
same_survey : (v w : Survey) → v.len ≡ w.len → v.sound ≡ w.sound → v.held ≡ w.held → v.free ≡ w.free → v ≡ w
same_survey v w a b c d = λ i. record { len = a i; sound = b i; held = c i; free = d i }

module _ (st : State) (l : List Record) where
  abbrev rec : ℕ → Record
  rec i = get_or l i free

  -- record i is sound, and clashes with none before it
  unfoldable fits : ℕ → Bool
  fits i = sound_record st (rec i) && all_below i (λ j. not (clash (rec i) (rec j)))

  -- every record fits where the table is sound
  all_fit : all_below (length l) fits ≡ sound st l
  unfolding fits sound
  all_fit =
      both_ways (all_below (length l) fits) (every (sound_record st) l && apart l)
      (λ e.
      let f = all_below_elim (length l) fits e in
      and_both (every (sound_record st) l) (apart l)
      (every_intro (sound_record st) l free (λ i h. and_left (sound_record st (rec i)) (all_below i (λ j. not (clash (rec i) (rec j)))) (f i h)))
      (apart_intro l
      (λ i j h k.
      not-true (clash (rec i) (rec j))
      (all_below_elim i (λ j. not (clash (rec i) (rec j))) (and_right (sound_record st (rec i)) (all_below i (λ j. not (clash (rec i) (rec j)))) (f i h)) j k))))
      (λ e.
      all_below_intro (length l) fits
      (λ i h.
      and_both (sound_record st (rec i)) (all_below i (λ j. not (clash (rec i) (rec j))))
      (every_elim (sound_record st) l i free (and_left (every (sound_record st) l) (apart l) e) h)
      (all_below_intro i (λ j. not (clash (rec i) (rec j)))
      (λ j k. ap not (apart_elim l (and_right (every (sound_record st) l) (apart l) e) i j h (omega arith) (λ q. omega arith))))))

  -- what is known after the first i records
  unfoldable survey_to : ℕ → Survey
  survey_to i = record {
    len = length l;
    sound = all_below i fits;
    held = filling 8 (λ k. held_stripe (rec k)) no_stripe i;
    free = lowest_to (length l) (λ k. is_free (rec k)) i;
  }

  module _ (looks : looks_at_many st (length l) ≡ true) where
    abbrev of_table : Looked st (length l)
    of_table = looked st (length l) looks

    held_passed : (i s : ℕ) → i ≤ 8 → held_before (survey_to i) s i ≡ not (all_below i (λ j. not (eqb (held_stripe (rec j)) s)))
    unfolding held_before survey_to filling
    held_passed i s h =
        ap not
        (all_below_cong i (λ j. not (eqb (get_or (tabulate 8 (entry (λ k. held_stripe (rec k)) no_stripe i)) j 0) s)) (λ j. not (eqb (held_stripe (rec j)) s))
        (λ j k.
        ap (λ (x : ℕ). not (eqb x s))
        (get_d_tabulate 8 (entry (λ k. held_stripe (rec k)) no_stripe i) j 0 (omega arith) ∙ entry_at (λ k. held_stripe (rec k)) no_stripe i j k)))

    -- a record of a table that is looked at is fine where it is sound
    fine_sound : (i : ℕ) → fine st (rec i) ≡ sound_record st (rec i)
    unfolding fine sound_record_in sound_record
    fine_sound i = rw of_table.few_units_law (go (is_free (rec i)) (all_zero (rec i)) _)
      where
        go : (b p q : Bool) → cond b p (cond b p q) ≡ cond b p q
        go true p q = refl
        go false p q = refl

    -- one more record fits
    sound_more : (i : ℕ) → i ≤ 8 → still_sound st (survey_to i) i (rec i) ≡ (survey_to (suc i)).sound
    unfolding still_sound all_below fits survey_to
    sound_more i h = ap (◌&&◌ (all_below i fits)) (rw (fine_sound i) (go (sound_record st (rec i)) refl))
      where
        go : (b : Bool) → sound_record st (rec i) ≡ b
            → (b && not (is_open (rec i) && held_before (survey_to i) (rec i).stripe i)) ≡ (b && all_below i (λ j. not (clash (rec i) (rec j))))
        go false e = refl
        go true e =
            ap (λ (b : Bool). not (is_open (rec i) && b)) (held_passed i (rec i).stripe h)
            ∙ any_of i (is_open (rec i)) (λ j. eqb (held_stripe (rec j)) (rec i).stripe)
            ∙ all_below_cong i (λ j. not (is_open (rec i) && eqb (held_stripe (rec j)) (rec i).stripe)) (λ j. not (clash (rec i) (rec j)))
            (λ j k.
            ap not
            (clash_held (rec i) (rec j)
            (λ o.
            let b = (fit st (rec i) e (open_not_free (rec i) o)).stripe_below in
            let s = of_table.few_stripes in
            omega arith)))

    same_len : (i : ℕ) → (survey_to i).len ≡ (survey_to (suc i)).len
    unfolding survey_to
    same_len i = refl

    held_more : (i : ℕ) → i < 8 → cond (is_open (rec i)) (set (survey_to i).held i (rec i).stripe) (survey_to i).held ≡ (survey_to (suc i)).held
    unfolding survey_to held_stripe
    held_more i h = rw (← add-one i) (go (is_open (rec i)) refl)
      where
        f : ℕ → ℕ
        f k = held_stripe (rec k)

        go : (b : Bool) → is_open (rec i) ≡ b → cond b (set (filling 8 f no_stripe i) i (rec i).stripe) (filling 8 f no_stripe i) ≡ filling 8 f no_stripe (i + 1)
        go true o = ap (set (filling 8 f no_stripe i) i) (sym (rw o)) ∙ filling_more 8 f no_stripe i h
        go false o = filling_same 8 f no_stripe i (rw o)

    free_more : (i : ℕ) → i < length l → still_free (survey_to i) i (rec i) ≡ (survey_to (suc i)).free
    unfolding survey_to still_free
    free_more i h = lowest_more (length l) (λ k. is_free (rec k)) i h

    seen_more : (i : ℕ) → i < length l → seen st (survey_to i) i (rec i) ≡ survey_to (suc i)
    unfolding seen
    seen_more i h =
        let b = of_table.few_records in
        rw (lt-ltb i 8 (omega arith))
        (same_survey _ (survey_to (suc i)) (same_len i) (sound_more i (omega arith)) (held_more i (omega arith)) (free_more i h))

    at_first : started st (length l) ≡ survey_to zero
    unfolding started survey_to all_below filling entry tabulate lowest_to lowest
    at_first = rw looks

    to_more : (i : ℕ) → i ≤ length l → seen_to st l i ≡ survey_to i
    unfolding seen_to
    to_more zero h = at_first
    to_more (suc i) h = rw (to_more i (omega arith)) (seen_more i (omega arith))

    -- past the end no stripe is held
    held_end : filling 8 (λ k. held_stripe (rec k)) no_stripe (length l) ≡ tabulate 8 (λ k. held_stripe (rec k))
    held_end =
        filling_is 8 (length l) (λ k. held_stripe (rec k)) no_stripe (λ k. held_stripe (rec k)) (λ k a b. refl)
        (λ k a b. sym (ap held_stripe (get_or-eq_default l free {n = k} b) ∙ held_free))

    to_end : survey_to (length l) ≡ record { len = length l; sound = sound st l; held = tabulate 8 (λ k. held_stripe (rec k)); free = lowest_free l }
    unfolding survey_to lowest_free
    to_end = same_survey _ _ refl all_fit held_end (lowest_end (length l) (λ k. is_free (rec k)))

pub looks_many : (st : State) (l : List Record) → looks_at st l ≡ looks_at_many st (length l)
unfolding looks_at looks_at_many
looks_many st l = refl

-- a table of the state's length is looked at where the state is within its limits
pub looks_within : (st : State) (l : List Record) → beyond_state st ≡ false → length l ≡ st.records → looks_at st l ≡ true
unfolding looks_at
looks_within st l e h =
    let b = state_bounds st e in
    rw (le-leb (length l) 8 (omega (arith, b.records_high)), le-leb st.cards 8 b.cards_high, le-leb st.stripes 1024 b.stripes_high)

not_seen : (st : State) (l : List Record) → looks_at_many st (length l) ≡ false → seen_to st l 0 ≡ unseen (length l)
unfolding seen_to started unseen
not_seen st l e = rw e

-- all are looked at, or none
to_see_law : (st : State) (n : ℕ) (b : Bool) → looks_at_many st n ≡ b → to_see st n ≡ cond b n 0
unfolding to_see
to_see_law st n b e = rw e

of_all : (st : State) (l : List Record) → looks_at st l ≡ true
    → survey_of st l ≡ record { len = length l; sound = sound st l; held = tabulate 8 (λ k. held_stripe (get_or l k free)); free = lowest_free l }
unfolding survey_of
of_all st l e = rw e

of_none : (st : State) (l : List Record) → looks_at st l ≡ false → survey_of st l ≡ unseen (length l)
unfolding survey_of
of_none st l e = rw e

-- a survey made record by record is the survey of the table
pub survey_is : (st : State) (l : List Record) → seen_to st l (to_see st (length l)) ≡ survey_of st l
survey_is st l =
    ⊎_elim
    (λ e.
    ap (seen_to st l) (to_see_law st (length l) true e)
    ∙ to_more st l e (length l) (omega arith)
    ∙ to_end st l e
    ∙ sym (of_all st l (looks_many st l ∙ e)))
    (λ e. ap (seen_to st l) (to_see_law st (length l) false e) ∙ not_seen st l e ∙ sym (of_none st l (looks_many st l ∙ e)))
    (truth (looks_at_many st (length l)))

-- one record more
pub seen_next : (st : State) (l : List Record) (i : ℕ) → seen st (seen_to st l i) i (get_or l i free) ≡ seen_to st l (i + 1)
unfolding seen_to
seen_next st l i = rw (add-one i)

pub to_see_most : (st : State) (n : ℕ) → (to_see st n ≤ n) × (to_see st n ≤ 8)
unfolding to_see
to_see_most st n =
    ⊎_elim (λ e. let b = (looked st n e).few_records in rw e (omega arith, b)) (λ e. rw e (omega arith, omega arith)) (truth (looks_at_many st n))
